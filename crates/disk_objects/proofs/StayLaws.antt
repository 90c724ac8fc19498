-- Calls on a disk, one after another: what they leave beside its objects.
use Rattle.std.proofs.Common.{◌≡◌, refl, ap, ◌∙◌}
use Rattle.loom_host.specs.declared.outside.Host.{Ghosts}
use Rattle.loom_host.proofs.WorkLaws.{read-itself, read-again, work-read, work-itself, work-again}
use Rattle.disk_objects.specs.Disk.{disk_room}
use Rattle.disk_objects.specs.Stays.{StaysOnWork, IsRead}
use Rattle.disk_objects.specs.declared.objects.DiskObjects.{DiskObjects}

pub read-refl : {H : Type 0} (host : Ghosts H) (d : DiskObjects H) → IsRead host d d
read-refl host d = record { read = read-itself host d.host.now; lender = refl; rest = refl }

pub read-trans : {H : Type 0} (host : Ghosts H) (a b c : DiskObjects H) → IsRead host a b → IsRead host b c → IsRead host a c
read-trans host a b c x y = record { read = read-again host a.host.now b.host.now c.host.now x.read y.read; lender = y.lender ∙ x.lender; rest = y.rest ∙ x.rest }

pub stays-refl : {H : Type 0} (host : Ghosts H) (d : DiskObjects H) → StaysOnWork host d d
stays-refl host d = record { work = work-itself host d.host.now; lender = refl; limit = refl }

pub stays-trans : {H : Type 0} (host : Ghosts H) (a b c : DiskObjects H) → StaysOnWork host a b → StaysOnWork host b c → StaysOnWork host a c
stays-trans host a b c x y = record { work = work-again host a.host.now b.host.now c.host.now x.work y.work; lender = y.lender ∙ x.lender; limit = y.limit ∙ x.limit }

-- a call that reads leaves as much
pub stays-read : {H : Type 0} (host : Ghosts H) (a b : DiskObjects H) → IsRead host a b → StaysOnWork host a b
stays-read host a b x = record { work = work-read host a.host.now b.host.now x.read; lender = x.lender; limit = ap disk_room x.rest }
