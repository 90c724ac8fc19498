use Rattle.std.proofs.Common.{arith}
use Rattle.object_record.specs.Buffer.{raw_of}
use Rattle.loom_host.specs.Work.{work_of}
use Rattle.disk_objects.proofs.RecordLaws.{long-record, record-linked-both, record-written-both}
use Rattle.disk_objects.proofs.record.write_record.Goals as goal

pub write_front-requires-clause-size : goal.write_front-requires-clause-size
write_front-requires-clause-size g c = long-record (raw_of c.args.buf.now) c.bytes-bytes.result.now c.bytes-bytes.ensures

pub returns-then-bytes-le-FRONT_BYTES-clause-writes : goal.returns-then-bytes-le-FRONT_BYTES-clause-writes
returns-then-bytes-le-FRONT_BYTES-clause-writes g c told =
    record-linked-both (work_of g.H.Host c.args.host.now) (work_of g.H.Host c.write_front.new.host)
    c.args.place (raw_of c.args.buf.now) c.args.link c.bytes-bytes.result.now c.write_front.result c.bytes-bytes.ensures (omega arith)
    (c.write_front.ensures.here told) (c.write_front.ensures.touches told)

pub returns-clause-writes : goal.returns-clause-writes
returns-clause-writes g c told =
    record-written-both (work_of g.H.Host c.args.host.now) (work_of g.H.Host c.write.new.host) (work_of g.H.Host c.write_link.new.host)
    c.args.place (raw_of c.args.buf.now) c.args.link c.bytes-bytes.result.now c.write_link.result c.bytes-bytes.ensures
    (c.in_ok-write.ensures.here told) (c.in_ok-write.ensures.touches told)
    (c.write_link.ensures.link told) (c.write_link.ensures.touches told)
