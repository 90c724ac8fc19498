-- What loading does with a host, and why it broke off.
use Rattle.std.specs.Prelude.{◌≡◌, ◌≢◌, ℕ, ◌+◌, ◌≤◌, IsTrue, Result, Err, List}
use Rattle.long_names.specs.Counting.{Rose}
use Rattle.loom_host.specs.declared.outside.DiskFault.{DiskFault}
use Rattle.loom_host.specs.declared.outside.DiskFault.TheVariants as disk
use Rattle.loom_host.specs.declared.outside.Host.{Ghosts}
use Rattle.loom_host.specs.declared.outside.Role.{Role}
use Rattle.loom_host.specs.declared.outside.Role.TheVariants.{Image, Work}
use Rattle.loom_host.specs.Outside.{SameBut, holds}
use Rattle.image_format.specs.declared.fault.Halt.{Halt}
use Rattle.image_reader.specs.declared.fault.LoadFault.{LoadFault}
use Rattle.image_reader.specs.declared.fault.LoadFault.TheVariants.{Bad, Read, Disk, Memory}
use Rattle.image_reader.specs.Window.{OnlyRead}

-- nothing was done but reading Image, and only its faults were counted
pub record ReadsImage {H : Type 0} (host : Ghosts H) (old new : H) : Type 0 where
  pub others : SameBut Image (host.roles old) (host.roles new)
  pub image : IsTrue (host.tells Image) → OnlyRead (host.roles old Image) (host.roles new Image)
  pub other_faults : SameBut Image (host.faults old) (host.faults new)
  pub later : host.faults old Image ≤ host.faults new Image
  pub writes : host.writes new ≡ host.writes old

-- nothing was done but reading Image, and with Work's contents; only faults of these two were counted
pub record IsLoading {H : Type 0} (host : Ghosts H) (old new : H) : Type 0 where
  pub others : (r : Role) → r ≢ Image → r ≢ Work → host.roles new r ≡ host.roles old r
  pub image : IsTrue (host.tells Image) → OnlyRead (host.roles old Image) (host.roles new Image)
  pub work : IsTrue (host.tells Work) → host.roles new Work ≡ holds (host.roles new Work).contents (host.roles old Work)
  pub other_faults : (r : Role) → r ≢ Image → r ≢ Work → host.faults new r ≡ host.faults old r
  pub later : host.faults old Image ≤ host.faults new Image
  pub later_work : host.faults old Work ≤ host.faults new Work
  pub writes : host.writes old ≤ host.writes new

-- A call on the disk failed: faults of Work rose, and this is their count; or what was read can't be so, of a host that doesn't tell it.
abbrev pub IsDiskFault : {H : Type 0} → Ghosts H → H → H → DiskFault → Type 0
IsDiskFault host old new (disk.Work count) = (count ≡ host.faults new Work) × Rose (host.faults old Work) (host.faults new Work)
IsDiskFault host old new (disk.Full held room) = ⊥
IsDiskFault host old new (disk.Damaged place name) = IsTrue (host.tells Work) → ⊥

-- why a part of loading broke off, other than for a rule: Read comes only where faults of Image rose, and the disk is never full in the middle
abbrev pub IsPartFault : {H : Type 0} → Ghosts H → H → H → LoadFault → Type 0
IsPartFault host old new (Bad rule place) = Unit {0}
IsPartFault host old new (Read count) = (count ≡ host.faults new Image) × Rose (host.faults old Image) (host.faults new Image)
IsPartFault host old new (Disk f) = IsDiskFault host old new f
IsPartFault host old new Memory = Unit {0}

-- a refusal for a rule is where this reading breaks off, of a file that ends here
abbrev pub IsHalted : {X : Type 0} → ℕ → Result (X × List ℕ) Halt → LoadFault → Type 0
IsHalted len read (Bad rule place) = (h : Halt) × (read ≡ Err h) × (h.rule ≡ rule) × (place + h.left ≡ len)
IsHalted len read (Read count) = Unit {0}
IsHalted len read (Disk f) = Unit {0}
IsHalted len read Memory = Unit {0}
