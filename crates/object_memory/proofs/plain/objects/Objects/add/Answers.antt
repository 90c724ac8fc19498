use Rattle.std.proofs.Common.{◌≡◌, ℕ, ◌+◌, ◌%◌, Some, ap, arith}
use mathlib.Core.Path.{fun_ext}
use Rattle.long_names.specs.Heap.{Heap}
use Rattle.long_names.specs.Names.{IsLongName}
use Rattle.object_memory.proofs.MapLaws.{stored-put, same-entries, updated}
use Rattle.object_memory.proofs.plain.objects.Objects.add.Goals as goal

pub invariant_of-self : goal.invariant_of-self
invariant_of-self c =
    let m = c.args.self.now in
    let room = c.requires.room in
    let is : c.in-Some.name ≡ m.next = c.in-Some.ensures.value in
    let name : IsLongName m.next = (record { even = m.stored.even; above = c.requires.named }, omega arith) in
    let even : (m.next + 2) % 2 ≡ 0 = let now = m.stored.even in omega arith in
    record { stored = stored-put m.objects c.insert.new.self m.next (m.next + 2) m.next c.args.object m.stored (omega arith) even (omega arith) c.insert.ensures.ordered c.requires.object name (omega arith) (rw is at (updated m.objects c.insert.new.self c.in-Some.name (Some c.args.object) c.in-Ok.ensures.updates)) }

pub returns-in-Ok-clause-ok : goal.returns-in-Ok-clause-ok
returns-in-Ok-clause-ok c =
    let m = c.args.self.now in
    let is : c.in-Some.name ≡ m.next = c.in-Some.ensures.value in
    ap (λ (f : ℕ → _). let h : Heap = record { at = f; next = m.next + 2 } in h) (fun_ext (rw is at (updated m.objects c.insert.new.self c.in-Some.name (Some c.args.object) c.in-Ok.ensures.updates)))

pub invariant_of-self-in-Err : goal.invariant_of-self-in-Err
invariant_of-self-in-Err c =
    let m = c.args.self.now in
    record { stored = same-entries m.objects c.insert.new.self m.next m.stored c.in-Err.ensures.err }
