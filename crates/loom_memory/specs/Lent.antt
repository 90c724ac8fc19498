-- What is left to the caller of the host that a memory holds.
use Rattle.std.specs.Prelude.{◌≡◌, ℕ}
use Rattle.loom_host.specs.declared.outside.Host.{Ghosts}
use Rattle.loom_host.specs.declared.outside.Role.{Role}
use Rattle.loom_host.specs.declared.outside.Role.TheVariants.{Saved, Notes, Work, Transcript}
use Rattle.object_memory.specs.Contract.{work_faults, said_faults}
use Rattle.loom_memory.specs.declared.memory.LoomMemory.{LoomMemory}
use Rattle.loom_memory.specs.Memory.{loom_told, loom_outside, loom_now}
use Rattle.loom_memory.specs.Residents.{is_resident, words_resident, fetched}

-- a role that is written through the memory
abbrev pub IsLent : Role → Type 0
IsLent Saved = Unit {0}
IsLent Notes = Unit {0}
IsLent _ = ⊥

-- how often calls on a role failed, by what is told and what is outside
abbrev pub faults_of : {H : Type 0} (host : Ghosts H) → LoomMemory H host → Role → ℕ
faults_of host m Work = work_faults (loom_told host m).bounds
faults_of host m Transcript = said_faults (loom_told host m).bounds
faults_of host m r = (loom_outside host m r).faults

-- neither the core nor Work was touched: no object came or left, and no call on Work was made
pub record IsAside {H : Type 0} (host : Ghosts H) (old new : LoomMemory H host) : Type 0 where
  pub residents : (k : ℕ) → is_resident new k ≡ is_resident old k
  pub words : words_resident new ≡ words_resident old
  pub fetches : fetched new ≡ fetched old
  pub work : host.roles (loom_now new) Work ≡ host.roles (loom_now old) Work
  pub writes : host.writes (loom_now new) ≡ host.writes (loom_now old)
