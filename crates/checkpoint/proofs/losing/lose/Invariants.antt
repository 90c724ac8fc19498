use Rattle.std.proofs.Common.{◌≡◌, take}
use Rattle.checkpoint.specs.Noted.{spans}
use Rattle.checkpoint.specs.Torn.{torn}
use Rattle.checkpoint.proofs.losing.lose.Given as goal

abbrev pub invariant-loop-range : goal.invariant-loop-range
invariant-loop-range l = l.bytes ≡ torn (spans (take l.range-index l.ranges)) l.fill l.initial.bytes
