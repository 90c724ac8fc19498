use Rattle.std.proofs.Common.{◌≡◌, IsTrue}
use Rattle.loom_host.specs.declared.outside.Role.TheVariants.{Image}
use Rattle.disk_objects.specs.Disk.{disk_room}
use Rattle.image_reader.specs.Frames.{IsLoading}
use Rattle.image_reader.specs.Inside.{IsReading}
use Rattle.image_reader.specs.Window.{EndsTruly}
use Rattle.image_reader.proofs.records.read_records.Given as goal

abbrev pub invariant-records : goal.invariant-records
invariant-records g l = record {
  reading : IsReading g.H.Host l.initial.disk.host.now l.disk.host.now l.disk.rest l.initial.window l.window l.opening.objects l.counter l.last l.opening.next l.listed.names l.listed.stated.items;
  ends : IsTrue (g.H.Host.tells Image) → EndsTruly l.window (g.H.Host.roles l.disk.host.now Image);
  loading : IsLoading g.H.Host l.initial.disk.host.now l.disk.host.now;
  room : disk_room l.disk.rest ≡ disk_room l.initial.disk.rest;
  same_host : l.disk.host.ghost_name ≡ l.initial.disk.host.ghost_name;
}
