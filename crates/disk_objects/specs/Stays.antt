-- What a call leaves of a disk beside its objects, in two cases: Work was read at most, or it may have been written.
use Rattle.std.specs.Prelude.{◌≡◌}
use Rattle.loom_host.specs.declared.outside.Host.{Ghosts}
use Rattle.loom_host.specs.Work.{IsWorkOnly, IsWorkRead}
use Rattle.disk_objects.specs.Disk.{disk_room}
use Rattle.disk_objects.specs.declared.objects.DiskObjects.{DiskObjects}

-- of the host only Work is written, the loan is the same, and so is the number of names for which there is room
pub record StaysOnWork {H : Type 0} (host : Ghosts H) (old new : DiskObjects H) : Type 0 where
  pub work : IsWorkOnly host old.host.now new.host.now
  pub lender : new.host.ghost_name ≡ old.host.ghost_name
  pub limit : disk_room new.rest ≡ disk_room old.rest

-- Work is read at most, and all that is known of the disk stays
pub record IsRead {H : Type 0} (host : Ghosts H) (old new : DiskObjects H) : Type 0 where
  pub read : IsWorkRead host old.host.now new.host.now
  pub lender : new.host.ghost_name ≡ old.host.ghost_name
  pub rest : new.rest ≡ old.rest
