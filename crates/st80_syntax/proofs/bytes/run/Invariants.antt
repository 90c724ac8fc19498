use Rattle.std.proofs.Common.{◌≡◌, ◌≤◌, ◌+◌, ◌-◌, length, drop}
use Rattle.st80_syntax.specs.Bytes.{run_of}
use Rattle.st80_syntax.proofs.bytes.run.Given as goal

abbrev pub invariant-each : goal.invariant-each
invariant-each l = (run_of l.class l.text ≡ l.count + run_of l.class (drop l.count l.text)) × (l.count ≤ length l.text)

abbrev pub decreases-each : goal.decreases-each
decreases-each l = length l.text - l.count
