use Rattle.std.proofs.Common.{◌≡◌, ◌≤◌, ℕ, List, [], Some, refl, sym, ◌∙◌, ap, subst, arith, length, IsTrue}
use Rattle.long_names.specs.Access.{Field, SetField, brought}
use Rattle.loom_host.specs.declared.outside.Role.TheVariants.{Work}
use Rattle.object_memory.specs.Told.{Told}
use Rattle.core_view.specs.Words.{meant, pointers}
use Rattle.core_view.proofs.Core.{placed-used}
use Rattle.leaf_lambda.specs.Parts.{core_of}
use Rattle.loom_memory.specs.Memory.{loom_told, word_in}
use Rattle.disk_objects.specs.Function.{disk_of}
use Rattle.loom_memory.proofs.StoreLaws.{stored-quiet}
use Rattle.loom_memory.proofs.LoadLaws.{field-none, field-told}
use Rattle.loom_memory.proofs.FieldLaws.{told-bounds, at-field, word-live, damaged-refused}
use Rattle.loom_memory.proofs.GentleLaws.{glance-trans, peek-glance, remains-trans, rest-glance}
use Rattle.purger.specs.declared.eviction.TheConstants.{NOWHERE}
use Rattle.object_table.specs.declared.entry.Entry.{Entry}
use Rattle.object_memory.specs.declared.fault.MemFault.TheVariants.{Damaged}
use Rattle.loom_memory.proofs.DamageLaws.{nowhere-damage}
use Rattle.loom_memory.proofs.memory.LoomMemory.store_field.Goals as goal
use Rattle.loom_memory.proofs.memory.LoomMemory.store_field.Given as given

pub used_entry-requires : goal.used_entry-requires
unfolding core_of
used_entry-requires g c = placed-used ((core_of c.args.self.now.pager.levels.parts).entries c.args.s.0).state c.requires.there.0 c.requires.there.1

none-there : (g : given.Over) (c : goal.After-refuse g) → IsTrue (loom_told g.H.Host c.args.self.now).tells → ⊥
unfolding loom_told
none-there g c = λ told.
    let m = c.args.self.now in
    let past : length (pointers ((core_of m.pager.levels.parts).entries c.args.s.0).kind ((core_of m.pager.levels.parts).chunks c.place_of_body-at.result.place).words) ≤ c.args.i = let all = c.field_total.ensures in let low = c.if-i-field_total.true in omega arith in
    field-none (g.H.Host.tells Work) (core_of m.pager.levels.parts) (disk_of g.H.Host m.pager.levels.disk.host.now m.pager.levels.disk.rest) m.ledger.next c.args.s.0 c.place_of_body-at.result.place 0 c.args.of c.args.i (loom_told g.H.Host m).regs told c.args.self.now.pager.levels.whole.parts.core c.place_of_body-at.ensures past (ap (meant (core_of m.pager.levels.parts).entries [] 0) (sym c.requires.word)) (c.requires.may told)

pub returns-then-i-field_total-clause-err : goal.returns-then-i-field_total-clause-err
returns-then-i-field_total-clause-err g c = let b = told-bounds g.H.Host c.args.self.now in damaged-refused (loom_told g.H.Host c.args.self.now) (loom_told g.H.Host c.refuse.new.self) (SetField c.args.of c.args.i c.args.from) _ _ c.refuse.result c.refuse.ensures.told c.refuse.ensures.result c.requires.fit.ready refl tt c.refuse.ensures.later (none-there g c) b.0 b.1

pub field_word-w-requires-clause-there : goal.field_word-w-requires-clause-there
field_word-w-requires-clause-there g c = at-field (core_of c.args.self.now.pager.levels.parts) c.args.s.0 c.place_of_body-at.result.place c.args.i c.place_of_body-at.ensures (let all = c.field_total.ensures in let low = c.if-i-field_total.false in omega arith)

-- ---- over a lambda

pub exchange_field-requires-clause-word : goal.exchange_field-requires-clause-word
exchange_field-requires-clause-word g c = c.requires.word ∙ ap (λ (regs : List ℕ). word_in regs c.args.of) (sym c.in-Ok.ensures.peeks.regs)

pub exchange_field-requires-clause-gone : goal.exchange_field-requires-clause-gone
exchange_field-requires-clause-gone g c = c.in-Ok.ensures.mark ∙ c.requires.gone

pub exchange_field-requires-clause-before : goal.exchange_field-requires-clause-before
exchange_field-requires-clause-before g c = λ told. subst (λ (t : Told). brought t.heap t.regs (Field 0 c.args.of c.args.i) ≡ Some (meant (core_of c.lambda_word.new.self.pager.levels.parts).entries [] 0 c.in-Ok.old)) (sym c.in-Ok.ensures.peeks.quiet.same) (c.in-Ok.ensures.means told)

pub returns-in-Ok-clause-stored : goal.returns-in-Ok-clause-stored
returns-in-Ok-clause-stored g c = stored-quiet (loom_told g.H.Host c.args.self.now) (loom_told g.H.Host c.lambda_word.new.self) (loom_told g.H.Host c.exchange_field.new.self) (SetField c.args.of c.args.i c.args.from) c.in-Ok.ensures.peeks.quiet c.exchange_field.ensures.stored

pub returns-in-Err-clause-err : goal.returns-in-Err-clause-err
returns-in-Err-clause-err g c = c.in-Err.ensures.err (SetField c.args.of c.args.i c.args.from) tt refl

-- ---- over another word

pub exchange_field-requires-2-clause-there : goal.exchange_field-requires-2-clause-there
exchange_field-requires-2-clause-there g c = (c.field_word-w.result, c.field_word-w.ensures)

pub exchange_field-requires-2-clause-used : goal.exchange_field-requires-2-clause-used
exchange_field-requires-2-clause-used g c = λ is. word-live (core_of c.args.self.now.pager.levels.parts) c.args.s.0 c.place_of_body-at.result.place c.args.i c.field_word-w.result c.args.self.now.pager.levels.whole.parts.core c.field_word-w.ensures is

pub exchange_field-requires-2-clause-before : goal.exchange_field-requires-2-clause-before
unfolding loom_told
exchange_field-requires-2-clause-before g c = λ told.
    let m = c.args.self.now in
    field-told (g.H.Host.tells Work) (core_of m.pager.levels.parts) (disk_of g.H.Host m.pager.levels.disk.host.now m.pager.levels.disk.rest) m.ledger.next c.args.s.0 c.place_of_body-at.result.place 0 c.args.of c.args.i c.field_word-w.result (loom_told g.H.Host m).regs told c.args.self.now.pager.levels.whole.parts.core c.field_word-w.ensures c.if-w-eq0.false (ap (meant (core_of m.pager.levels.parts).entries [] 0) (sym c.requires.word))

-- ---- what was touched

pub returns-in-Ok-clause-glance : goal.returns-in-Ok-clause-glance
returns-in-Ok-clause-glance g c =
    let m = c.args.self.now in
    let u = c.lambda_word.new.self in
    let v = c.exchange_field.new.self in
    glance-trans g.H.Host m u v (peek-glance g.H.Host m u c.in-Ok.ensures.peeks.peek) (rest-glance g.H.Host u v c.exchange_field.ensures.resting)

pub returns-clause-glance : goal.returns-clause-glance
returns-clause-glance g c = rest-glance g.H.Host c.args.self.now c.exchange_field-2.new.self c.exchange_field-2.ensures.resting

pub returns-in-Ok-clause-cached : goal.returns-in-Ok-clause-cached
returns-in-Ok-clause-cached g c = c.exchange_field.ensures.cached ∙ c.in-Ok.ensures.peeks.peek.gentle.cache

pub returns-clause-cached : goal.returns-clause-cached
returns-clause-cached g c = c.exchange_field-2.ensures.cached

pub returns-then-i-field_total-clause-damage : goal.returns-then-i-field_total-clause-damage
unfolding core_of
returns-then-i-field_total-clause-damage g c = nowhere-damage c.refuse.new.self.pager.levels.disk.rest ((core_of c.args.self.now.pager.levels.parts).entries c.args.s.0).name c.refuse.result (c.refuse.ensures.result ∙ ap (Damaged NOWHERE) (c.get-name.ensures.value ∙ ap (λ (e : Entry). e.name) c.used_entry.ensures))

pub returns-in-Ok-clause-none : goal.returns-in-Ok-clause-none
returns-in-Ok-clause-none g c = remains-trans (core_of c.exchange_field.new.self.pager.levels.parts) (core_of c.lambda_word.new.self.pager.levels.parts) (core_of c.args.self.now.pager.levels.parts) c.exchange_field.ensures.none c.in-Ok.ensures.peeks.peek.none

pub returns-in-Ok-clause-leaves : goal.returns-in-Ok-clause-leaves
returns-in-Ok-clause-leaves g c = record {
  sound = c.exchange_field.ensures.leaves.sound;
  fetches = c.exchange_field.ensures.resting.idle.fetches ∙ c.lambda_word.ensures.leaves.fetches;
  lender = c.exchange_field.ensures.leaves.lender ∙ c.lambda_word.ensures.leaves.lender;
  outside = c.exchange_field.ensures.leaves.outside ∙ c.lambda_word.ensures.leaves.outside;
}

pub returns-clause-leaves : goal.returns-clause-leaves
returns-clause-leaves g c = record {
  sound = c.exchange_field-2.ensures.leaves.sound;
  fetches = c.exchange_field-2.ensures.resting.idle.fetches;
  lender = c.exchange_field-2.ensures.leaves.lender;
  outside = c.exchange_field-2.ensures.leaves.outside;
}

pub returns-in-Ok-clause-due : goal.returns-in-Ok-clause-due
returns-in-Ok-clause-due g c = c.exchange_field.ensures.due ∙ c.in-Ok.ensures.peeks.due
