use Rattle.loom_memory.proofs.TimeLaws.{stays-at, none-there, leaf-there}
use Rattle.loom_memory.specs.Memory.{word_in}
use Rattle.loom_memory.proofs.ReachLaws.{short-off}
use Rattle.loom_memory.specs.Own.{IsAtHand}
use Rattle.loom_memory.specs.Freed.{IsFreedShort}
use Rattle.loom_memory.proofs.TimeLaws.{at-hand}
use Rattle.std.proofs.Common.{◌≡◌, None, Ok, refl, ◌∙◌}
use Rattle.leaf_lambda.specs.Parts.{core_of}
use Rattle.long_names.specs.Access.{SetField}
use Rattle.long_names.specs.State.{name_at}
use Rattle.loom_memory.specs.Memory.{loom_told}
use Rattle.loom_memory.proofs.BringLaws.{quiet-same}
use Rattle.loom_memory.proofs.StoreLaws.{store-last, store-ready}
use Rattle.loom_memory.proofs.GentleLaws.{here-searched, here-sparing, changed-sparing, not-at-hand, leaf-no-hand, searched-change}
use Rattle.loom_memory.proofs.KeepingLaws.{flag-off, other-keeps}
use Rattle.loom_memory.proofs.MindLaws.{minds-wide}
use Rattle.loom_memory.proofs.GentleLaws.{entry-named}
use Rattle.loom_memory.proofs.MakingLaws.{quiet-thinned}
use Rattle.loom_memory.proofs.OneLaws.{brings-none}
use Rattle.loom_memory.proofs.ReachLaws.{done-here}
use Rattle.loom_memory.proofs.memory.LoomMemory.set_field.Goals as goal

pub word_in_body-requires-clause-there : goal.word_in_body-requires-clause-there
word_in_body-requires-clause-there g c = (c.in-Some.ensures.here.loaded.at, c.in-Some.ensures.here.loaded.place)

pub replace_field-requires-clause-there : goal.replace_field-requires-clause-there
replace_field-requires-clause-there g c = c.in-Some-word_in_body.ensures.word

pub returns-in-Some-word_in_body-clause-access : goal.returns-in-Some-word_in_body-clause-access
returns-in-Some-word_in_body-clause-access g c =
    let m = c.args.self.now in
    let t = loom_told g.H.Host m in
    store-last (Ok tt) t t (loom_told g.H.Host c.replace_field.new.self) (SetField c.args.of c.args.i c.args.from) refl tt refl (quiet-same g.H.Host m) c.replace_field.ensures.stored tt (c.in-Some.ensures.here.core (SetField c.args.of c.args.i c.args.from) refl refl)

pub returns-in-Some-word_in_body-clause-fit : goal.returns-in-Some-word_in_body-clause-fit
returns-in-Some-word_in_body-clause-fit g c = record {
  sound = c.replace_field.ensures.leaves.sound;
  ready = store-ready (Ok tt) (loom_told g.H.Host c.args.self.now) (loom_told g.H.Host c.replace_field.new.self) (SetField c.args.of c.args.i c.args.from) refl c.requires.fit.ready c.replace_field.ensures.stored;
  lender = c.replace_field.ensures.leaves.lender;
  outside = c.replace_field.ensures.leaves.outside;
}

pub returns-in-Some-word_in_body-clause-own : goal.returns-in-Some-word_in_body-clause-own
returns-in-Some-word_in_body-clause-own g c = λ hand.
    let m = c.args.self.now in
    let n = name_at ((loom_told g.H.Host m).regs c.args.of) in
    changed-sparing g.H.Host m m c.replace_field.new.self n c.in-Some.s _ (here-sparing g.H.Host m n c.in-Some.s c.requires.fit.sound c.in-Some.ensures.here.there c.in-Some.ensures.here.bounded) c.replace_field.ensures.resting c.args.self.now.pager.levels.whole.parts.core c.replace_field.new.self.pager.levels.whole.parts.core

pub returns-in-None-word_in_body-clause-own : goal.returns-in-None-word_in_body-clause-own
returns-in-None-word_in_body-clause-own g c = λ hand. absurd (not-at-hand g.H.Host c.args.self.now c.args.of c.in-Some.s.0 c.args.i c.requires.fit.sound c.requires.may.names c.in-Some.ensures.here.word c.in-None-word_in_body.ensures.none hand)

pub returns-in-None-clause-own : goal.returns-in-None-clause-own
returns-in-None-clause-own g c = λ hand. absurd (leaf-no-hand g.H.Host c.args.self.now c.args.of c.args.i c.requires.fit.sound c.requires.may.names c.in-None.ensures.leaf hand)

pub returns-in-Some-word_in_body-clause-searched : goal.returns-in-Some-word_in_body-clause-searched
returns-in-Some-word_in_body-clause-searched g c =
    let m = c.args.self.now in
    let n = name_at ((loom_told g.H.Host m).regs c.args.of) in
    searched-change g.H.Host m m c.replace_field.new.self n (here-searched g.H.Host m n c.requires.fit.sound c.in-Some.ensures.here.there) c.replace_field.ensures.resting c.args.self.now.pager.levels.whole.parts.core c.replace_field.new.self.pager.levels.whole.parts.core

pub returns-in-Some-word_in_body-clause-cached : goal.returns-in-Some-word_in_body-clause-cached
returns-in-Some-word_in_body-clause-cached g c = λ either off. c.replace_field.ensures.cached (flag-off g.H.Host c.args.self.now c.args.of c.in-Some.s.0 c.requires.fit.sound c.requires.may.names c.in-Some.ensures.here.word off)

pub returns-in-None-word_in_body-clause-cached : goal.returns-in-None-word_in_body-clause-cached
returns-in-None-word_in_body-clause-cached g c =
    let m = c.args.self.now in
    other-keeps c.set_field_on_disk.result g.H.Host m c.set_field_on_disk.new.self (name_at ((loom_told g.H.Host m).regs c.args.of)) c.args.i (not-at-hand g.H.Host m c.args.of c.in-Some.s.0 c.args.i c.requires.fit.sound c.requires.may.names c.in-Some.ensures.here.word c.in-None-word_in_body.ensures.none) c.set_field_on_disk.ensures.cached

pub returns-in-None-clause-cached : goal.returns-in-None-clause-cached
returns-in-None-clause-cached g c =
    let m = c.args.self.now in
    other-keeps c.set_field_on_disk-in-None.result g.H.Host m c.set_field_on_disk-in-None.new.self (name_at ((loom_told g.H.Host m).regs c.args.of)) c.args.i (leaf-no-hand g.H.Host m c.args.of c.args.i c.requires.fit.sound c.requires.may.names c.in-None.ensures.leaf) c.set_field_on_disk-in-None.ensures.cached

pub returns-in-Some-word_in_body-clause-minds : goal.returns-in-Some-word_in_body-clause-minds
returns-in-Some-word_in_body-clause-minds g c =
    let m = c.args.self.now in
    let s = c.in-Some.s.0 in
    let n = name_at ((loom_told g.H.Host m).regs c.args.of) in
    minds-wide g.H.Host None m c.replace_field.new.self (λ k. k ≡ ((core_of m.pager.levels.parts).entries s).name) (λ k. k ≡ n) (λ k is. is ∙ entry-named g.H.Host m m c.args.of s c.requires.fit.sound (quiet-thinned (loom_told g.H.Host m) (loom_told g.H.Host m) (quiet-same g.H.Host m) c.requires.fit.ready) c.requires.may.names c.in-Some.ensures.here.word) c.replace_field.ensures.minds

pub returns-in-Some-word_in_body-clause-brings : goal.returns-in-Some-word_in_body-clause-brings
returns-in-Some-word_in_body-clause-brings g c = brings-none c.args.self.now c.replace_field.new.self _ c.replace_field.ensures.resting.idle.fetches

pub returns-in-Some-word_in_body-clause-gone : goal.returns-in-Some-word_in_body-clause-gone
returns-in-Some-word_in_body-clause-gone g c = done-here {T = Unit {0}} (Ok tt) g.H.Host c.args.self.now c.replace_field.new.self (name_at ((loom_told g.H.Host c.args.self.now).regs c.args.of)) (SetField c.args.of c.args.i c.args.from) c.in-Some.ensures.here.there c.replace_field.ensures.due tt

pub returns-in-Some-word_in_body-clause-short : goal.returns-in-Some-word_in_body-clause-short
returns-in-Some-word_in_body-clause-short g c = λ off. absurd (let at = c.in-Some-word_in_body.ensures.word in off (at-hand g.H.Host c.args.self.now c.args.of c.in-Some.s.0 c.args.i at.0 c.in-Some-word_in_body.w c.requires.fit.sound c.requires.may.names c.in-Some.ensures.here.word at.1 at.2))

pub returns-in-None-word_in_body-clause-short : goal.returns-in-None-word_in_body-clause-short
returns-in-None-word_in_body-clause-short g c = short-off (IsAtHand c.args.self.now (name_at ((loom_told g.H.Host c.args.self.now).regs c.args.of)) c.args.i → ⊥) (IsFreedShort g.H.Host c.args.self.now c.set_field_on_disk.new.self (SetField c.args.of c.args.i c.args.from)) c.set_field_on_disk.result c.set_field_on_disk.ensures.short

pub returns-in-None-clause-short : goal.returns-in-None-clause-short
returns-in-None-clause-short g c = short-off (IsAtHand c.args.self.now (name_at ((loom_told g.H.Host c.args.self.now).regs c.args.of)) c.args.i → ⊥) (IsFreedShort g.H.Host c.args.self.now c.set_field_on_disk-in-None.new.self (SetField c.args.of c.args.i c.args.from)) c.set_field_on_disk-in-None.result c.set_field_on_disk-in-None.ensures.short

pub returns-in-Some-word_in_body-clause-stays : goal.returns-in-Some-word_in_body-clause-stays
returns-in-Some-word_in_body-clause-stays g c = let at = c.in-Some-word_in_body.ensures.word in stays-at c.args.self.now c.replace_field.new.self (word_in c.args.self.now.regs c.args.of) c.in-Some.s.0 c.args.i at.0 c.in-Some-word_in_body.w c.in-Some.ensures.here.word at.1 c.replace_field.ensures.stays

pub returns-in-None-word_in_body-clause-stays : goal.returns-in-None-word_in_body-clause-stays
returns-in-None-word_in_body-clause-stays g c = none-there c.set_field_on_disk.result c.args.self.now c.set_field_on_disk.new.self (word_in c.args.self.now.regs c.args.of) c.in-Some.s.0 c.args.i c.in-Some.ensures.here.word c.in-None-word_in_body.ensures.none

pub returns-in-None-clause-stays : goal.returns-in-None-clause-stays
returns-in-None-clause-stays g c = leaf-there c.set_field_on_disk-in-None.result c.args.self.now c.set_field_on_disk-in-None.new.self (word_in c.args.self.now.regs c.args.of) c.args.i c.in-None.ensures.leaf
