-- Which rule a finding breaks, and the place that the program would tell.
use Rattle.std.specs.Prelude.{ℕ}
use Rattle.st80_view.specs.declared.findings.Finding.{Finding}
use Rattle.st80_view.specs.declared.findings.Finding.TheVariants.{Lost, Miscounted, Unheld, Missing, StateLost}

abbrev pub rule_of : Finding → ℕ
rule_of (Lost holder part name) = 10
rule_of (Miscounted name stated counted) = 11
rule_of (Unheld name) = 11
rule_of (Missing name) = 12
rule_of (StateLost role name) = 14

-- a name: that of the object whose record or count breaks the rule, or the one that is missing
abbrev pub place_of : Finding → ℕ
place_of (Lost holder part name) = holder
place_of (Miscounted name stated counted) = name
place_of (Unheld name) = name
place_of (Missing name) = name
place_of (StateLost role name) = name
