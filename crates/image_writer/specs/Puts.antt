-- What was put to Saved, and why it was not put whole.
use Rattle.std.specs.Prelude.{◌≡◌, ◌≢◌, ℕ, ◌≤◌, List, [], IsTrue, Result, OnOk, OnErr, IfErr}
use Rattle.std.specs.Option.{option_map_or}
use Rattle.long_names.specs.Counting.{Rose}
use Rattle.long_names.specs.Heap.{Heap, rec_of}
use Rattle.long_names.specs.Record.{record_text}
use Rattle.long_names.specs.declared.object.Object.{Object}
use Rattle.loom_host.specs.declared.outside.DiskFault.{DiskFault}
use Rattle.loom_host.specs.declared.outside.DiskFault.TheVariants as disk
use Rattle.loom_host.specs.declared.outside.Host.{Ghosts}
use Rattle.loom_host.specs.declared.outside.Role.{Role}
use Rattle.loom_host.specs.declared.outside.Role.TheVariants.{Saved, Work}
use Rattle.loom_host.specs.Outside.{PutPrefix, SameBut, puts}
use Rattle.image_writer.specs.declared.fault.SaveFault.{SaveFault}
use Rattle.image_writer.specs.declared.fault.SaveFault.TheVariants.{Write, Disk, Memory}

-- A call on the disk failed: faults of Work rose, and this is their count; or what was read can't be so, of a host that doesn't tell it. It is never full.
abbrev pub IsDiskFault : {H : Type 0} → Ghosts H → H → H → DiskFault → Type 0
IsDiskFault host old new (disk.Work count) = (count ≡ host.faults new Work) × Rose (host.faults old Work) (host.faults new Work)
IsDiskFault host old new (disk.Full held room) = ⊥
IsDiskFault host old new (disk.Damaged place name) = IsTrue (host.tells Work) → ⊥

abbrev pub IsSaveFault : {H : Type 0} → Ghosts H → H → H → SaveFault → Type 0
IsSaveFault host old new (Write count) = (count ≡ host.faults new Saved) × Rose (host.faults old Saved) (host.faults new Saved)
IsSaveFault host old new (Disk f) = IsDiskFault host old new f
IsSaveFault host old new Memory = Unit {0}

-- These bytes were put to Saved, or after a refusal a prefix of them, where the host tells Work and Saved. Nothing else was done but reading Work.
pub record Puts {H T : Type 0} (host : Ghosts H) (old new : H) (bytes : List ℕ) (result : Result T SaveFault) : Type 0 where
  pub put : IsTrue (host.tells Work) → IsTrue (host.tells Saved) → OnOk result (host.roles new Saved ≡ puts bytes (host.roles old Saved))
  pub failed : IsTrue (host.tells Work) → IsTrue (host.tells Saved) → OnErr result (PutPrefix bytes (host.roles old Saved) (host.roles new Saved))
  -- of Saved only the bytes put changed, whatever is told of Work
  pub only_put : IsTrue (host.tells Saved) → host.roles new Saved ≡ record (host.roles old Saved) { put = (host.roles new Saved).put }
  pub others : SameBut Saved (host.roles old) (host.roles new)
  pub other_faults : (r : Role) → r ≢ Saved → r ≢ Work → host.faults new r ≡ host.faults old r
  pub later : host.faults old Saved ≤ host.faults new Saved
  pub later_work : host.faults old Work ≤ host.faults new Work
  pub fault : IfErr result (IsSaveFault host old new)

-- the text of the object of a name, if there is one
abbrev pub name_text : Heap → ℕ → List ℕ
name_text h n = option_map_or (λ (o : Object). record_text (rec_of h n o)) (h.at n) []
