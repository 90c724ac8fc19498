use Rattle.std.proofs.Common.{ℕ, ◌≡◌, map, drop, IsTrue}
use Rattle.loom_host.specs.declared.outside.Role.TheVariants.{Work}
use Rattle.object_record.specs.Raw.{longs_of}
use Rattle.object_record.specs.Buffer.{raw_of}
use Rattle.object_record.specs.Objects.{value_in}
use Rattle.core_segment.specs.Chunks.{Chunk}
use Rattle.loom_host.specs.Work.{IsWorkOnly}
use Rattle.disk_objects.specs.Disk.{disk_room, disk_held}
use Rattle.core_view.specs.Levels.{Levels}
use Rattle.core_view.specs.Counted.{IsSound}
use Rattle.delta_counts.specs.Parts.{IsCounting}
use Rattle.delta_counts.specs.At.{IsAt, IsReached}
use Rattle.delta_counts.proofs.words.lower_fields.Given as goal

abbrev pub invariant-loop-i : goal.invariant-loop-i
invariant-loop-i g l = record {
  told : IsTrue (g.H.Host.tells Work) → (chunks : ℕ → Chunk) (t : Levels) → IsAt g.H.Host chunks l.fn.p l.fn.disk.host.now l.fn.disk.rest t → IsSound t (map value_in (longs_of (raw_of l.fn.buf).body))
      → IsReached g.H.Host chunks l.p l.disk.host.now l.disk.rest t (drop l.i (map value_in (longs_of (raw_of l.fn.buf).body)));
  counting : IsCounting l.fn.p l.p;
  held : disk_held l.disk.rest ≡ disk_held l.fn.disk.rest;
  room : disk_room l.disk.rest ≡ disk_room l.fn.disk.rest;
  work : IsWorkOnly g.H.Host l.fn.disk.host.now l.disk.host.now;
  same_host : l.disk.host.ghost_name ≡ l.fn.disk.host.ghost_name;
}
