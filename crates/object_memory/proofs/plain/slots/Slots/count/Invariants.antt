use Rattle.std.proofs.Common.{◌≡◌, ℕ, ◌+◌, ◌≤◌, ◌||◌, nat_lt}
use Rattle.long_names.specs.Need.{is_pinned}
use Rattle.long_names.specs.Kept.{any_below}
use Rattle.object_memory.specs.Counts.{count_in}
use Rattle.object_memory.specs.Plain.{names_of}
use Rattle.object_memory.proofs.plain.slots.Slots.count.Given as goal

-- a name is counted where it was before, or where one of the slots so far has it
abbrev pub invariant-loop-i : goal.invariant-loop-i
invariant-loop-i l = record {
  roots : (q : ℕ) → nat_lt 0 (count_in l.counts q) ≡ (nat_lt 0 (count_in l.fn.counts q) || any_below l.i (λ i. is_pinned q (names_of l.self i)));
  few : (q : ℕ) → count_in l.counts q ≤ 24 + l.i;
}
