use Rattle.std.proofs.Common.{refl}
use Rattle.loom_memory.proofs.TimeLaws.{keeps-same, stays-on}
use Rattle.std.proofs.Common.{◌≡◌, List, ℕ, [], sym, ◌∙◌, ap}
use Rattle.long_names.specs.Access.{SetField}
use Rattle.loom_host.specs.declared.outside.Role.TheVariants.{Work}
use Rattle.core_view.specs.Words.{meant}
use Rattle.core_view.proofs.Core.{placed-used}
use Rattle.disk_objects.specs.Function.{disk_of}
use Rattle.leaf_lambda.specs.Parts.{core_of}
use Rattle.loom_memory.specs.Memory.{loom_told, word_in}
use Rattle.loom_memory.proofs.FieldLaws.{word-live}
use Rattle.loom_memory.proofs.LoadLaws.{field-told}
use Rattle.loom_memory.proofs.StoreLaws.{stored-own, stored-quiet}
use Rattle.loom_memory.proofs.GentleLaws.{at-place-of, rest-trans}
use Rattle.loom_memory.proofs.MindLaws.{minds-step}
use Rattle.loom_memory.proofs.memory.LoomMemory.replace_field.Goals as goal

pub unmark-requires-clause-used : goal.unmark-requires-clause-used
unmark-requires-clause-used g c = placed-used ((core_of c.args.self.now.pager.levels.parts).entries c.args.s.0).state c.requires.there.0 c.requires.there.1.place

pub place_of_body-at-requires-clause-there : goal.place_of_body-at-requires-clause-there
place_of_body-at-requires-clause-there g c = (c.requires.there.0, c.unmark.ensures.place ∙ c.requires.there.1.place)

pub exchange_field-requires-clause-word : goal.exchange_field-requires-clause-word
exchange_field-requires-clause-word g c = c.requires.word ∙ ap (λ (regs : List ℕ). word_in regs c.args.of) (sym c.unmark.ensures.regs)

pub exchange_field-requires-clause-there : goal.exchange_field-requires-clause-there
exchange_field-requires-clause-there g c =
    let there = c.requires.there in
    (c.args.w, at-place-of (core_of c.unmark.new.self.pager.levels.parts) c.args.s.0 there.0 c.place_of_body-at.result.place c.args.i c.args.w (c.unmark.ensures.field there.0 c.args.i c.args.w there.1) c.place_of_body-at.ensures)

pub exchange_field-requires-clause-used : goal.exchange_field-requires-clause-used
exchange_field-requires-clause-used g c = λ is.
    let there = c.requires.there in
    word-live (core_of c.unmark.new.self.pager.levels.parts) c.args.s.0 there.0 c.args.i c.args.w c.unmark.new.self.pager.levels.whole.parts.core (c.unmark.ensures.field there.0 c.args.i c.args.w there.1) is

pub exchange_field-requires-clause-before : goal.exchange_field-requires-clause-before
unfolding loom_told
exchange_field-requires-clause-before g c = λ told.
    let n = c.unmark.new.self in
    let there = c.requires.there in
    field-told (g.H.Host.tells Work) (core_of n.pager.levels.parts) (disk_of g.H.Host n.pager.levels.disk.host.now n.pager.levels.disk.rest) n.ledger.next c.args.s.0 there.0 0 c.args.of c.args.i c.args.w (loom_told g.H.Host n).regs told c.unmark.new.self.pager.levels.whole.parts.core (c.unmark.ensures.field there.0 c.args.i c.args.w there.1) there.2
    (ap (meant (core_of n.pager.levels.parts).entries [] 0) (sym (c.requires.word ∙ ap (λ (regs : List ℕ). word_in regs c.args.of) (sym c.unmark.ensures.regs))))

-- ---- the word is there

pub returns-then-word_of-w-clause-stored : goal.returns-then-word_of-w-clause-stored
returns-then-word_of-w-clause-stored g c =
    let u = c.unmark.new.self in
    let there = c.requires.there in
    stored-quiet (loom_told g.H.Host c.args.self.now) (loom_told g.H.Host u) (loom_told g.H.Host u) (SetField c.args.of c.args.i c.args.from) c.unmark.ensures.quiet
    (stored-own g.H.Host u c.args.of c.args.i c.args.from c.args.s.0 there.0 c.args.w c.unmark.ensures.leaves.sound (c.unmark.ensures.field there.0 c.args.i c.args.w there.1) there.2 c.unmark.ensures.gone (c.requires.word ∙ ap (λ (regs : List ℕ). word_in regs c.args.of) (sym c.unmark.ensures.regs))
    (sym c.if-word_of-w.true ∙ c.word_of.ensures.word))

pub returns-then-word_of-w-clause-cached : goal.returns-then-word_of-w-clause-cached
returns-then-word_of-w-clause-cached g c = λ off. ap (λ z. (loom_told g.H.Host z).cache) (c.unmark.ensures.idle off)

-- ---- or it is exchanged

pub returns-clause-stored : goal.returns-clause-stored
returns-clause-stored g c = stored-quiet (loom_told g.H.Host c.args.self.now) (loom_told g.H.Host c.unmark.new.self) (loom_told g.H.Host c.exchange_field.new.self) (SetField c.args.of c.args.i c.args.from) c.unmark.ensures.quiet c.exchange_field.ensures.stored

pub returns-clause-resting : goal.returns-clause-resting
returns-clause-resting g c = rest-trans c.args.self.now c.unmark.new.self c.exchange_field.new.self c.unmark.ensures.resting c.exchange_field.ensures.resting

pub returns-clause-cached : goal.returns-clause-cached
returns-clause-cached g c = λ off. c.exchange_field.ensures.cached ∙ ap (λ z. (loom_told g.H.Host z).cache) (c.unmark.ensures.idle off)

pub returns-clause-minds : goal.returns-clause-minds
returns-clause-minds g c =
    let m = c.args.self.now in
    let u = c.unmark.new.self in
    minds-step g.H.Host m u c.exchange_field.new.self (λ k. k ≡ ((core_of m.pager.levels.parts).entries c.args.s.0).name) c.unmark.ensures.minds c.unmark.new.self.pager.levels.whole.parts.core c.exchange_field.new.self.pager.levels.whole.parts.core c.exchange_field.ensures.resting.remains c.exchange_field.ensures.none c.exchange_field.ensures.cached

pub returns-then-word_of-w-clause-stays : goal.returns-then-word_of-w-clause-stays
returns-then-word_of-w-clause-stays g c = λ on named. c.unmark.ensures.flag ∙ on

pub returns-clause-stays : goal.returns-clause-stays
returns-clause-stays g c = stays-on c.args.self.now c.unmark.new.self c.exchange_field.new.self c.args.w c.args.w (keeps-same c.args.self.now c.unmark.new.self c.unmark.ensures.flag) refl c.exchange_field.ensures.stays

pub returns-clause-due : goal.returns-clause-due
returns-clause-due g c = c.exchange_field.ensures.due ∙ c.unmark.ensures.due
