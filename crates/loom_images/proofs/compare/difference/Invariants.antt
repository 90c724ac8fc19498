use Rattle.std.proofs.Common.{◌≡◌, ◌≤◌, take, length}
use Rattle.loom_images.proofs.compare.difference.Given as goal

abbrev pub invariant-loop-at : goal.invariant-loop-at
invariant-loop-at l = record {
  so_far : take l.at l.made ≡ take l.at l.wanted;
  within : l.at ≤ length l.wanted;
}
