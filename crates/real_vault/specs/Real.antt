-- What a vault over a file counts.
use Rattle.std.specs.Prelude.{ℕ}
use Rattle.real_vault.specs.declared.file.RealVault.{RealVault}

-- whatever runtime it stands on
module _ {R F D : Type 0} where
  abbrev pub faults_counted : RealVault R F D → ℕ
  faults_counted v = v.faults
