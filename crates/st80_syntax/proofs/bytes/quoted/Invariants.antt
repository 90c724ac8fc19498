use Rattle.std.proofs.Common.{◌≡◌, ◌≤◌, ◌-◌, false, length, drop}
use Rattle.st80_syntax.specs.Bytes.{more, quoted_by}
use Rattle.st80_syntax.proofs.bytes.quoted.Given as goal

abbrev pub invariant-each : goal.invariant-each
invariant-each l = (quoted_by false l.text ≡ more l.count (quoted_by l.ended (drop l.count l.text))) × (l.count ≤ length l.text)

abbrev pub decreases-each : goal.decreases-each
decreases-each l = length l.text - l.count
