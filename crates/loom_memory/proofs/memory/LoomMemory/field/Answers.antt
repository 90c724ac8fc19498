use Rattle.loom_memory.proofs.ReachLaws.{short-off}
use Rattle.loom_memory.specs.Own.{IsAtHand}
use Rattle.loom_memory.specs.Freed.{IsFreedShort}
use Rattle.loom_memory.proofs.TimeLaws.{at-hand}
use Rattle.std.proofs.Common.{◌≡◌, [], Some, Ok, IsTrue, refl, sym, ap}
use Rattle.long_names.specs.Access.{Field, brought}
use Rattle.long_names.specs.State.{name_at}
use Rattle.loom_host.specs.declared.outside.Role.TheVariants.{Work}
use Rattle.object_memory.specs.Told.{Told}
use Rattle.core_view.specs.Words.{meant}
use Rattle.disk_objects.specs.Function.{disk_of}
use Rattle.leaf_lambda.specs.Parts.{core_of}
use Rattle.loom_memory.specs.Memory.{loom_told, IsTaken}
use Rattle.loom_memory.proofs.BringLaws.{quiet-same}
use Rattle.loom_memory.proofs.FieldLaws.{told-bounds, word-live, taken-is}
use Rattle.loom_memory.proofs.LastLaws.{field-last, field-ready}
use Rattle.loom_memory.proofs.LoadLaws.{field-told}
use Rattle.loom_memory.proofs.GentleLaws.{here-sparing, steady-sparing, not-at-hand, leaf-no-hand, here-searched, peek-searched, steady-peek}
use Rattle.loom_memory.proofs.OneLaws.{brings-none}
use Rattle.loom_memory.proofs.ReachLaws.{done-here}
use Rattle.loom_memory.proofs.memory.LoomMemory.field.Goals as goal
use Rattle.loom_memory.proofs.memory.LoomMemory.field.Given as given

pub word_in_body-requires-clause-there : goal.word_in_body-requires-clause-there
word_in_body-requires-clause-there g c = (c.in-Some.ensures.here.loaded.at, c.in-Some.ensures.here.loaded.place)

pub put_word-requires-clause-used : goal.put_word-requires-clause-used
put_word-requires-clause-used g c = λ is. let at = c.in-Some-word_in_body.ensures.word in word-live (core_of c.args.self.now.pager.levels.parts) c.in-Some.s.0 at.0 c.args.i c.in-Some-word_in_body.w c.args.self.now.pager.levels.whole.parts.core at.1 is

pub put_word-requires-clause-some : goal.put_word-requires-clause-some
put_word-requires-clause-some g c = c.in-Some-word_in_body.ensures.word.2

brings : (g : given.Over) (c : goal.After-put_word g) → IsTrue (loom_told g.H.Host c.args.self.now).tells → brought (loom_told g.H.Host c.args.self.now).heap (loom_told g.H.Host c.args.self.now).regs (Field c.args.to c.args.of c.args.i) ≡ Some (meant (core_of c.args.self.now.pager.levels.parts).entries [] 0 c.in-Some-word_in_body.w)
unfolding loom_told
brings g c = λ told.
    let m = c.args.self.now in
    let at = c.in-Some-word_in_body.ensures.word in
    field-told (g.H.Host.tells Work) (core_of m.pager.levels.parts) (disk_of g.H.Host m.pager.levels.disk.host.now m.pager.levels.disk.rest) m.ledger.next c.in-Some.s.0 at.0 c.args.to c.args.of c.args.i c.in-Some-word_in_body.w (loom_told g.H.Host m).regs told c.args.self.now.pager.levels.whole.parts.core at.1 at.2 (ap (meant (core_of m.pager.levels.parts).entries [] 0) (sym c.in-Some.ensures.here.word))

taken-of : (g : given.Over) (c : goal.After-put_word g) → IsTaken (loom_told g.H.Host c.args.self.now) (loom_told g.H.Host c.put_word.new.self) c.args.to c.args.of c.args.i
taken-of g c = let b = told-bounds g.H.Host c.args.self.now in taken-is (loom_told g.H.Host c.args.self.now) (loom_told g.H.Host c.put_word.new.self) c.args.to c.args.of c.args.i (meant (core_of c.args.self.now.pager.levels.parts).entries [] 0 c.in-Some-word_in_body.w) b.0 b.1 c.put_word.ensures.told (brings g c)

pub returns-in-Some-word_in_body-clause-access : goal.returns-in-Some-word_in_body-clause-access
returns-in-Some-word_in_body-clause-access g c = let m = c.args.self.now in field-last (Ok tt) (loom_told g.H.Host m) (loom_told g.H.Host m) (loom_told g.H.Host c.put_word.new.self) c.args.to c.args.of c.args.i (quiet-same g.H.Host m) (taken-of g c) tt (c.in-Some.ensures.here.core (Field c.args.to c.args.of c.args.i) refl refl)

pub returns-in-Some-word_in_body-clause-fit : goal.returns-in-Some-word_in_body-clause-fit
returns-in-Some-word_in_body-clause-fit g c = record {
  sound = c.put_word.ensures.leaves.sound;
  ready = field-ready (Ok tt) (loom_told g.H.Host c.args.self.now) (loom_told g.H.Host c.put_word.new.self) c.args.to c.args.of c.args.i c.requires.fit.ready (taken-of g c) c.requires.may.heap;
  lender = c.put_word.ensures.leaves.lender;
  outside = c.put_word.ensures.leaves.outside;
}

pub returns-in-Some-word_in_body-clause-own : goal.returns-in-Some-word_in_body-clause-own
returns-in-Some-word_in_body-clause-own g c = λ hand.
    let m = c.args.self.now in
    let n = name_at ((loom_told g.H.Host m).regs c.args.of) in
    steady-sparing g.H.Host m m c.put_word.new.self n c.in-Some.s _ (here-sparing g.H.Host m n c.in-Some.s c.requires.fit.sound c.in-Some.ensures.here.there c.in-Some.ensures.here.bounded) c.put_word.ensures.steady c.args.self.now.pager.levels.whole.parts.core c.put_word.new.self.pager.levels.whole.parts.core (ap (λ (t : Told). t.bounds) c.put_word.ensures.told)

pub returns-in-None-word_in_body-clause-own : goal.returns-in-None-word_in_body-clause-own
returns-in-None-word_in_body-clause-own g c = λ hand. absurd (not-at-hand g.H.Host c.args.self.now c.args.of c.in-Some.s.0 c.args.i c.requires.fit.sound c.requires.may.names c.in-Some.ensures.here.word c.in-None-word_in_body.ensures.none hand)

pub returns-in-None-clause-own : goal.returns-in-None-clause-own
returns-in-None-clause-own g c = λ hand. absurd (leaf-no-hand g.H.Host c.args.self.now c.args.of c.args.i c.requires.fit.sound c.requires.may.names c.in-None.ensures.leaf hand)

pub returns-in-Some-word_in_body-clause-searched : goal.returns-in-Some-word_in_body-clause-searched
returns-in-Some-word_in_body-clause-searched g c =
    let m = c.args.self.now in
    let v = c.put_word.new.self in
    let n = name_at ((loom_told g.H.Host m).regs c.args.of) in
    peek-searched g.H.Host m m v n (here-searched g.H.Host m n c.requires.fit.sound c.in-Some.ensures.here.there) (steady-peek g.H.Host m v c.put_word.ensures.steady) c.args.self.now.pager.levels.whole.parts.core c.put_word.new.self.pager.levels.whole.parts.core

pub returns-in-Some-word_in_body-clause-brings : goal.returns-in-Some-word_in_body-clause-brings
returns-in-Some-word_in_body-clause-brings g c = brings-none c.args.self.now c.put_word.new.self _ c.put_word.ensures.steady.idle.fetches

pub returns-in-Some-word_in_body-clause-gone : goal.returns-in-Some-word_in_body-clause-gone
returns-in-Some-word_in_body-clause-gone g c = done-here {T = Unit {0}} (Ok tt) g.H.Host c.args.self.now c.put_word.new.self (name_at ((loom_told g.H.Host c.args.self.now).regs c.args.of)) (Field c.args.to c.args.of c.args.i) c.in-Some.ensures.here.there c.put_word.ensures.due c.put_word.ensures.stays

pub returns-in-Some-word_in_body-clause-short : goal.returns-in-Some-word_in_body-clause-short
returns-in-Some-word_in_body-clause-short g c = λ off. absurd (let at = c.in-Some-word_in_body.ensures.word in off (at-hand g.H.Host c.args.self.now c.args.of c.in-Some.s.0 c.args.i at.0 c.in-Some-word_in_body.w c.requires.fit.sound c.requires.may.names c.in-Some.ensures.here.word at.1 at.2))

pub returns-in-None-word_in_body-clause-short : goal.returns-in-None-word_in_body-clause-short
returns-in-None-word_in_body-clause-short g c = short-off (IsAtHand c.args.self.now (name_at ((loom_told g.H.Host c.args.self.now).regs c.args.of)) c.args.i → ⊥) (IsFreedShort g.H.Host c.args.self.now c.field_on_disk.new.self (Field c.args.to c.args.of c.args.i)) c.field_on_disk.result c.field_on_disk.ensures.short

pub returns-in-None-clause-short : goal.returns-in-None-clause-short
returns-in-None-clause-short g c = short-off (IsAtHand c.args.self.now (name_at ((loom_told g.H.Host c.args.self.now).regs c.args.of)) c.args.i → ⊥) (IsFreedShort g.H.Host c.args.self.now c.field_on_disk-in-None.new.self (Field c.args.to c.args.of c.args.i)) c.field_on_disk-in-None.result c.field_on_disk-in-None.ensures.short
