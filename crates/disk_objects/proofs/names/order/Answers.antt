use Rattle.std.proofs.Common.{ℕ, List, eqb, sym, ap, subst, ◌∙◌, ◌==◌}
use Rattle.std.proofs.lemmas.List.Filters.{dedup_is}
use Rattle.std.proofs.lemmas.List.Sorted.{list_any-IsPermutation}
use Rattle.std.proofs.lemmas.Map.Keys.{IsStrictlyIncreasing-dedup, sorted_from_strictly_increasing}
use Rattle.std.specs.List.{dedup}
use Rattle.std.specs.List.Sorted.{IsStrictlySortedBy}
use Rattle.std.specs.Ordering.{nat_cmp}
use Rattle.disk_objects.specs.Inside.{is_noted}
use Rattle.disk_objects.proofs.NamesLaws.{noted-dedup}
use Rattle.disk_objects.proofs.names.order.Goals as goal

pub returns-clause-ordered : goal.returns-clause-ordered
returns-clause-ordered c =
    let sorted = c.sort_unstable.new.self.items in
    subst (IsStrictlySortedBy nat_cmp) (sym (dedup_is eqb sorted c.dedup.new.self.items c.dedup.ensures.filtered)) (sorted_from_strictly_increasing (dedup eqb sorted) (IsStrictlyIncreasing-dedup sorted c.sort_unstable.ensures.sorted))

pub returns-clause-noted : goal.returns-clause-noted
returns-clause-noted c = λ q.
    let sorted = c.sort_unstable.new.self.items in
    ap (λ (xs : List ℕ). is_noted xs q) (dedup_is eqb sorted c.dedup.new.self.items c.dedup.ensures.filtered)
    ∙ noted-dedup q sorted
    ∙ sym (list_any-IsPermutation (λ (n : ℕ). n == q) c.args.names.now.items sorted c.sort_unstable.ensures.permutation)
