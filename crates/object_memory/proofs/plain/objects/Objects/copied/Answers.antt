use Rattle.std.proofs.Common.{ℕ, List, ap}
use Rattle.std.proofs.lemmas.Map.Entries.{entries_from_clone}
use Rattle.std.specs.Ordering.{nat_cmp}
use Rattle.std.specs.Map.{lookup}
use Rattle.std.specs.BTreeMap.{is_at}
use Rattle.long_names.specs.Heap.{Heap}
use Rattle.long_names.specs.declared.object.Object.{Object}
use Rattle.object_memory.proofs.MapLaws.{same-entries}
use Rattle.object_memory.proofs.plain.objects.Objects.copied.Goals as goal

pub invariant_of-result : goal.invariant_of-result
invariant_of-result c =
    let m = c.args.self.now in
    let e = entries_from_clone _ _ (λ x y is. is) (λ v w is. is.0) m.objects.entries c.in_ok-clone.field-0.entries c.in_ok-clone.ensures.cases in
    record { stored = same-entries m.objects c.in_ok-clone.field-0 m.next m.stored e }

pub returns : goal.returns
returns c =
    let m = c.args.self.now in
    let e = entries_from_clone _ _ (λ x y is. is) (λ v w is. is.0) m.objects.entries c.in_ok-clone.field-0.entries c.in_ok-clone.ensures.cases in
    ap (λ (es : List (ℕ × Object)). let h : Heap = record { at = λ q. lookup (is_at (nat_cmp q)) es; next = m.next } in h) e
