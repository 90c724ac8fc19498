-- What a host in memory stands for. These words are not opened by themselves: who calls it goes by its clauses.
use Rattle.std.specs.Prelude.{◌≡◌, ℕ, List, Bool, Option, None, Result, IsErr, is_err, IsTrue, if◌then◌else◌}
use Rattle.loom_host.specs.Outside.{RoleState, SameBut}
use Rattle.long_names.specs.Counting.{counted}
use Rattle.loom_outside.specs.PerRole.{at_role}
use Rattle.loom_outside.specs.Plans.{is_due, lowered}
use Rattle.loom_outside.specs.Rooms.{Room}
use Rattle.loom_outside.specs.Store.{held_of, file_in, shows, room_in}
use Rattle.loom_host.specs.declared.outside.Role.{Role}
use Rattle.loom_host.specs.declared.outside.Failed.{Failed}
use Rattle.loom_outside.specs.declared.calls.Calls.{Calls}
use Rattle.loom_outside.specs.declared.marks.Marks.{Marks}
use Rattle.loom_outside.specs.declared.memory.MemoryHost.{MemoryHost}

-- what is held, with the attaches that were counted, and the bytes that had been put when it was ended. The name is told where the last attach answered Ok
abbrev pub told : Calls → RoleState → RoleState
told c s = record s { attaches = c.attaches; name = if c.named then s.name else None; ended = c.ended }

unfoldable pub roles_of : MemoryHost → Role → RoleState
roles_of h role = told (at_role h.calls role) (held_of h.store role)

unfoldable pub faults_of : MemoryHost → Role → ℕ
faults_of h = at_role h.faults

unfoldable pub writes_of : MemoryHost → ℕ
writes_of h = h.writes

-- how many bytes one call moves at most
unfoldable pub chunk_of : MemoryHost → ℕ
chunk_of h = h.chunk.most

-- how many calls on a role there are until each that is to fail
unfoldable pub plan_of : MemoryHost → Role → List ℕ
plan_of h role = (at_role h.calls role).plan.items

unfoldable pub marks_of : MemoryHost → Marks
marks_of h = h.marks

-- the bytes of the file of this name, or None where there is none
unfoldable pub file_of : MemoryHost → List ℕ → Option (List ℕ)
file_of h = file_in h.store

-- the file of this name is the one that the role writes
unfoldable pub shown_of : MemoryHost → Role → List ℕ → Bool
shown_of h = shows h.store

unfoldable pub room_of : MemoryHost → Role → Room
room_of h = room_in h.store

-- what an attach that failed leaves: the bytes as they were, and no name
abbrev pub refused : RoleState → RoleState
refused s = record s { attaches = counted s.attaches; name = None }

-- one call on a role: what was listed fails, each failure is counted, and the plans go on
pub record OneCall {T : Type 0} (role : Role) (old new : MemoryHost) (result : Result T Failed) : Type 0 where
  pub due : IsTrue (is_due (plan_of old role)) → IsErr result
  pub faults : faults_of new role ≡ (if is_err result then counted (faults_of old role) else faults_of old role)
  pub plan : plan_of new role ≡ lowered (plan_of old role)
  pub other_plans : SameBut role (plan_of old) (plan_of new)
  pub chunk : chunk_of new ≡ chunk_of old
