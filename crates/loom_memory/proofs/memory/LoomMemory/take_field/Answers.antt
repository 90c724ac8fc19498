use Rattle.std.proofs.Common.{◌≡◌, ◌≤◌, [], Some, refl, sym, ap, arith, length, IsTrue}
use Rattle.long_names.specs.Access.{Field, brought}
use Rattle.loom_host.specs.declared.outside.Role.TheVariants.{Work}
use Rattle.core_view.specs.Words.{meant, pointers}
use Rattle.core_view.proofs.Core.{placed-used}
use Rattle.leaf_lambda.specs.Parts.{core_of}
use Rattle.loom_memory.specs.Memory.{loom_told}
use Rattle.disk_objects.specs.Function.{disk_of}
use Rattle.loom_memory.proofs.LoadLaws.{field-told, field-none}
use Rattle.loom_memory.proofs.FieldLaws.{told-bounds, at-field, word-live, taken-is}
use Rattle.loom_memory.proofs.GentleLaws.{steady-peek}
use Rattle.loom_memory.proofs.BringLaws.{quiet-same}
use Rattle.loom_memory.proofs.DamageLaws.{nowhere-damage}
use Rattle.loom_memory.proofs.memory.LoomMemory.take_field.Goals as goal
use Rattle.loom_memory.proofs.memory.LoomMemory.take_field.Given as given

pub amiss-requires-clause-used : goal.amiss-requires-clause-used
amiss-requires-clause-used g c = placed-used ((core_of c.args.self.now.pager.levels.parts).entries c.args.s.0).state c.requires.there.0 c.requires.there.1

none-there : (g : given.Over) (c : goal.After-amiss g) → IsTrue (loom_told g.H.Host c.args.self.now).tells → ⊥
unfolding loom_told
none-there g c = λ told.
    let m = c.args.self.now in
    let past : length (pointers ((core_of m.pager.levels.parts).entries c.args.s.0).kind ((core_of m.pager.levels.parts).chunks c.place_of_body-at.result.place).words) ≤ c.args.i = let all = c.field_total.ensures in let low = c.if-i-field_total.true in omega arith in
    field-none (g.H.Host.tells Work) (core_of m.pager.levels.parts) (disk_of g.H.Host m.pager.levels.disk.host.now m.pager.levels.disk.rest) m.ledger.next c.args.s.0 c.place_of_body-at.result.place c.args.to c.args.of c.args.i (loom_told g.H.Host m).regs told c.args.self.now.pager.levels.whole.parts.core c.place_of_body-at.ensures past (ap (meant (core_of m.pager.levels.parts).entries [] 0) (sym c.requires.word)) (c.requires.may told)

pub returns-then-i-field_total-clause-err : goal.returns-then-i-field_total-clause-err
returns-then-i-field_total-clause-err g c = c.amiss.ensures.err (loom_told g.H.Host c.args.self.now) (Field c.args.to c.args.of c.args.i) (quiet-same g.H.Host c.args.self.now) c.requires.fit.ready tt refl (none-there g c)

pub returns-then-i-field_total-clause-damage : goal.returns-then-i-field_total-clause-damage
returns-then-i-field_total-clause-damage g c = nowhere-damage c.amiss.new.self.pager.levels.disk.rest ((core_of c.args.self.now.pager.levels.parts).entries c.args.s.0).name c.amiss.result c.amiss.ensures.is

pub field_word-w-requires-clause-there : goal.field_word-w-requires-clause-there
field_word-w-requires-clause-there g c = at-field (core_of c.args.self.now.pager.levels.parts) c.args.s.0 c.place_of_body-at.result.place c.args.i c.place_of_body-at.ensures (let all = c.field_total.ensures in let low = c.if-i-field_total.false in omega arith)

pub put_word-requires-clause-used : goal.put_word-requires-clause-used
put_word-requires-clause-used g c = λ is. word-live (core_of c.args.self.now.pager.levels.parts) c.args.s.0 c.place_of_body-at.result.place c.args.i c.field_word-w.result c.args.self.now.pager.levels.whole.parts.core c.field_word-w.ensures is

brings : (g : given.Over) (c : goal.After-put_word g) → IsTrue (loom_told g.H.Host c.args.self.now).tells → brought (loom_told g.H.Host c.args.self.now).heap (loom_told g.H.Host c.args.self.now).regs (Field c.args.to c.args.of c.args.i) ≡ Some (meant (core_of c.args.self.now.pager.levels.parts).entries [] 0 c.field_word-w.result)
unfolding loom_told
brings g c = λ told.
    let m = c.args.self.now in
    field-told (g.H.Host.tells Work) (core_of m.pager.levels.parts) (disk_of g.H.Host m.pager.levels.disk.host.now m.pager.levels.disk.rest) m.ledger.next c.args.s.0 c.place_of_body-at.result.place c.args.to c.args.of c.args.i c.field_word-w.result (loom_told g.H.Host m).regs told c.args.self.now.pager.levels.whole.parts.core c.field_word-w.ensures c.if-w-eq0.false (ap (meant (core_of m.pager.levels.parts).entries [] 0) (sym c.requires.word))

pub returns-clause-taken : goal.returns-clause-taken
returns-clause-taken g c = let b = told-bounds g.H.Host c.args.self.now in taken-is (loom_told g.H.Host c.args.self.now) (loom_told g.H.Host c.put_word.new.self) c.args.to c.args.of c.args.i (meant (core_of c.args.self.now.pager.levels.parts).entries [] 0 c.field_word-w.result) b.0 b.1 c.put_word.ensures.told (brings g c)

pub returns-clause-peek : goal.returns-clause-peek
returns-clause-peek g c = steady-peek g.H.Host c.args.self.now c.put_word.new.self c.put_word.ensures.steady

pub returns-clause-leaves : goal.returns-clause-leaves
returns-clause-leaves g c = record {
  sound = c.put_word.ensures.leaves.sound;
  fetches = c.put_word.ensures.steady.idle.fetches;
  lender = c.put_word.ensures.leaves.lender;
  outside = c.put_word.ensures.leaves.outside;
}
