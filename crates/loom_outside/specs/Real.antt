-- What a host over files counts.
use Rattle.std.specs.Prelude.{ℕ}
use Rattle.loom_outside.specs.PerRole.{at_role}
use Rattle.loom_host.specs.declared.outside.Role.{Role}
use Rattle.loom_outside.specs.declared.real.RealHost.{RealHost}

-- whatever runtime and writers it stands on
module _ {R T N F D A : Type 0} where
  abbrev pub faults_counted : RealHost R T N F D A → Role → ℕ
  faults_counted h = at_role h.faults

  abbrev pub writes_counted : RealHost R T N F D A → ℕ
  writes_counted h = h.writes
