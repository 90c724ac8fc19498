-- What calls on Work alone do with a host, and why they failed.
use Rattle.std.specs.Prelude.{◌≡◌, ℕ, ◌-◌, ◌^◌, ◌≤◌, List, IsTrue}
use Rattle.long_names.specs.Counting.{counted, Rose}
use Rattle.loom_host.specs.Outside.{SameBut, holds}
use Rattle.loom_host.specs.declared.outside.DiskFault.{DiskFault}
use Rattle.loom_host.specs.declared.outside.DiskFault.TheVariants as fault
use Rattle.loom_host.specs.declared.outside.Host.{Ghosts}
use Rattle.loom_host.specs.declared.outside.Role.{Role}
use Rattle.loom_host.specs.declared.outside.Role.TheVariants.{Work}

-- what Work holds, where the host tells it
abbrev pub work_of : {H : Type 0} → Ghosts H → H → List ℕ
work_of host now = (host.roles now Work).contents

-- Work was only read, or not even that: all that is told stays, and only faults of Work were counted
pub record IsWorkRead {H : Type 0} (host : Ghosts H) (old new : H) : Type 0 where
  pub roles : (r : Role) → host.roles new r ≡ host.roles old r
  pub other_faults : SameBut Work (host.faults old) (host.faults new)
  pub later : host.faults old Work ≤ host.faults new Work
  pub writes : host.writes new ≡ host.writes old

-- Work was written once: only its contents may have changed, and only faults of Work were counted
pub record IsWorkWritten {H : Type 0} (host : Ghosts H) (old new : H) : Type 0 where
  pub others : SameBut Work (host.roles old) (host.roles new)
  pub contents : IsTrue (host.tells Work) → (left : List ℕ) × (host.roles new Work ≡ holds left (host.roles old Work))
  pub other_faults : SameBut Work (host.faults old) (host.faults new)
  pub later : host.faults old Work ≤ host.faults new Work
  pub writes : host.writes new ≡ counted (host.writes old)
  pub limit : host.writes old ≤ 2 ^ 64 - 1

-- nothing was done but with Work, and of that only with its contents; the count of writes doesn't fall
pub record IsWorkOnly {H : Type 0} (host : Ghosts H) (old new : H) : Type 0 where
  pub others : SameBut Work (host.roles old) (host.roles new)
  pub work : IsTrue (host.tells Work) → host.roles new Work ≡ holds (host.roles new Work).contents (host.roles old Work)
  pub other_faults : SameBut Work (host.faults old) (host.faults new)
  pub later : host.faults old Work ≤ host.faults new Work
  pub writes : host.writes old ≤ host.writes new

-- a call on Work failed, and this is the count of its faults since then
pub record HasFailed {H : Type 0} (host : Ghosts H) (old new : H) (count : ℕ) : Type 0 where
  pub count_is : count ≡ host.faults new Work
  pub rose : Rose (host.faults old Work) (host.faults new Work)

-- no fault but that a call on Work failed: this is the count of its faults, which rose
abbrev pub IsWorkFault : ℕ → ℕ → DiskFault → Type 0
IsWorkFault before now (fault.Work count) = (count ≡ now) × Rose before now
IsWorkFault before now (fault.Full held room) = ⊥
IsWorkFault before now (fault.Damaged place name) = ⊥
