use Rattle.std.proofs.Common.{◌≡◌, ℕ, ◌≤◌, nat_lt}
use Rattle.long_names.specs.Objects.{is_ref}
use Rattle.long_names.specs.Kept.{any_below}
use Rattle.object_memory.specs.Counts.{count_in}
use Rattle.object_memory.specs.Plain.{values_of}
use Rattle.object_memory.proofs.plain.registers.Registers.count.Given as goal

-- a name is counted where one of the registers so far holds it
abbrev pub invariant-loop-i : goal.invariant-loop-i
invariant-loop-i l = record {
  roots : (q : ℕ) → nat_lt 0 (count_in l.counts q) ≡ any_below l.i (λ r. is_ref q (values_of l.self r));
  few : (q : ℕ) → count_in l.counts q ≤ l.i;
}
