use Rattle.std.proofs.Common.{◌≡◌, ℕ, length}
use Rattle.core_segment.specs.Segment.{chunk_at}
use Rattle.core_tests.proofs.patterns.fill.Given as goal

abbrev pub invariant-loop-i : goal.invariant-loop-i
invariant-loop-i l =
    record { owners : (p : ℕ) → (chunk_at l.segment p).owner ≡ (chunk_at l.fn.segment p).owner; size : length (chunk_at l.segment l.at.place).words ≡ l.words }
