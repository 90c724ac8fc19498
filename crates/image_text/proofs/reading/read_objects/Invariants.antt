use Rattle.std.proofs.Common.{◌≡◌, ◌+◌, ◌-◌, IsTrue}
use Rattle.loom_host.specs.declared.outside.Role.TheVariants.{Image}
use Rattle.disk_objects.specs.Disk.{disk_room}
use Rattle.image_format.specs.declared.head.TheConstants.{MOST_OBJECTS}
use Rattle.image_reader.specs.Frames.{IsLoading}
use Rattle.image_reader.specs.Window.{EndsTruly}
use Rattle.image_text.specs.Reads.{IsReading}
use Rattle.image_text.proofs.reading.read_objects.Given as goal

abbrev pub invariant-lines : goal.invariant-lines
invariant-lines g l = record {
  reading : IsReading g.H.Host l.initial.disk.host.now l.disk.host.now l.disk.rest l.initial.window l.window l.number l.last l.next l.names;
  ends : IsTrue (g.H.Host.tells Image) → EndsTruly l.window (g.H.Host.roles l.disk.host.now Image);
  loading : IsLoading g.H.Host l.initial.disk.host.now l.disk.host.now;
  room : disk_room l.disk.rest ≡ disk_room l.initial.disk.rest;
  same_host : l.disk.host.ghost_name ≡ l.initial.disk.host.ghost_name;
}

abbrev pub decreases-lines : goal.decreases-lines
decreases-lines g l = MOST_OBJECTS + 3 - l.number
