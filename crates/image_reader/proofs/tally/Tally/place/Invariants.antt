use Rattle.std.proofs.Common.{◌-◌, ◌<◌, ◌≤◌, ℕ, get_or, length}
use Rattle.image_reader.proofs.tally.Tally.place.Given as goal

abbrev pub invariant-loop-low : goal.invariant-loop-low
invariant-loop-low l = record {
  high : l.high ≤ length l.self.names;
  before : (k : ℕ) → k < l.low → get_or l.self.names k 0 < l.word;
  behind : (k : ℕ) → l.high ≤ k → k < length l.self.names → l.word < get_or l.self.names k 0;
}

abbrev pub decreases-loop-low : goal.decreases-loop-low
decreases-loop-low l = l.high - l.low
