use Rattle.std.proofs.Common.{◌≡◌, ◌++◌, ◌||◌, take, drop}
use Rattle.loom_outside.specs.Plans.{is_due, lowered}
use Rattle.loom_outside.proofs.calls.count_off.Given as goal

-- what was seen, and what is to come
abbrev pub invariant-loop-n : goal.invariant-loop-n
invariant-loop-n l = record {
  due : (l.due || is_due (drop l.n-index l.n-items)) ≡ is_due l.initial.n-items;
  plan : take l.n-index l.n-items ++ lowered (drop l.n-index l.n-items) ≡ lowered l.initial.n-items;
}
