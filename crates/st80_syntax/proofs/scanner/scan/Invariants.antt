use Rattle.std.proofs.Common.{◌≤◌, ◌-◌, length}
use Rattle.st80_syntax.specs.Tokens.{Covers}
use Rattle.st80_syntax.proofs.scanner.scan.Given as goal

abbrev pub invariant-each : goal.invariant-each
invariant-each l = Covers l.text l.tokens.items l.at × (l.at ≤ length l.text)

abbrev pub decreases-each : goal.decreases-each
decreases-each l = length l.text - l.at
