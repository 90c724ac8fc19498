use Rattle.std.proofs.Common.{◌≡◌, take, IsTrue}
use Rattle.loom_host.specs.declared.outside.Role.TheVariants.{Work}
use Rattle.loom_host.specs.Work.{IsWorkOnly}
use Rattle.disk_objects.specs.Disk.{disk_held, disk_room}
use Rattle.image_text.specs.Judged.{SetsCounts, words_of}
use Rattle.image_text.proofs.judging.set_counts.Given as goal

abbrev pub invariant-loop-i : goal.invariant-loop-i
invariant-loop-i g l = record {
  sets : IsTrue (g.H.Host.tells Work) → SetsCounts g.H.Host l.fn.disk.host.now l.disk.host.now l.fn.disk.rest l.disk.rest (words_of l.tally) (take l.i l.tally.names);
  held : disk_held l.disk.rest ≡ disk_held l.fn.disk.rest;
  room : disk_room l.disk.rest ≡ disk_room l.fn.disk.rest;
  work : IsWorkOnly g.H.Host l.fn.disk.host.now l.disk.host.now;
  same_host : l.disk.host.ghost_name ≡ l.fn.disk.host.ghost_name;
}
