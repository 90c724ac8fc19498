-- What a host tells at one moment, and how much of it a call leaves as it was.
use Rattle.std.specs.Prelude.{◌≡◌, ◌≢◌, ◌≤◌, ℕ, List, [], ◌∷◌}
use Rattle.loom_host.specs.Outside.{RoleState}
use Rattle.loom_host.specs.declared.outside.Host.{Ghosts}
use Rattle.loom_host.specs.declared.outside.Role.{Role}
use Rattle.loom_host.specs.declared.outside.Role.TheVariants.{Work}

-- what a host means at one moment
pub record Meanings : Type 0 where
  -- what it tells of each role
  pub roles : Role → RoleState
  -- how often calls on each role failed, up to the greatest u64
  pub faults : Role → ℕ
  -- how often Work was written, up to the greatest u64
  pub writes : ℕ

-- what a host of this type means
abbrev pub meanings : {H : Type 0} → Ghosts H → H → Meanings
meanings host now = record { roles = host.roles now; faults = host.faults now; writes = host.writes now }

-- nothing was done with the role
pub record IsLeft (role : Role) (before now : Meanings) : Type 0 where
  pub state : now.roles role ≡ before.roles role
  pub faults : now.faults role ≡ before.faults role

-- the role is none of these
abbrev pub IsNoneOf : List Role → Role → Type 0
IsNoneOf [] role = Unit {0}
IsNoneOf (r ∷ roles) role = (role ≢ r) × IsNoneOf roles role

-- Nothing was done but with these roles, and no count of faults fell. Work was not written, unless it is among them.
pub record LeavesBut (roles : List Role) (before now : Meanings) : Type 0 where
  pub others : (role : Role) → IsNoneOf roles role → IsLeft role before now
  pub writes : IsNoneOf roles Work → now.writes ≡ before.writes
  pub later : (role : Role) → before.faults role ≤ now.faults role
