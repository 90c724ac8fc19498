use Rattle.std.proofs.Common.{◌≡◌, ℕ, ◌<◌, ◌≤◌, ◌-◌}
use Rattle.core_segment.specs.Lists.{first_in}
use Rattle.core_segment.proofs.lists.Lists.class_from.Given as goal

abbrev pub invariant-loop-class : goal.invariant-loop-class
invariant-loop-class l = record {
  least : (c : ℕ) → l.from ≤ c → c < l.class → first_in l.fn.self.firsts c ≡ 0;
  order : l.from ≤ l.class;
  high : l.class ≤ 66;
}

abbrev pub decreases-loop-class : goal.decreases-loop-class
decreases-loop-class l = 66 - l.class
