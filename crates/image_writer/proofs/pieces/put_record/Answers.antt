use Rattle.std.proofs.Common.{[]}
use Rattle.object_record.specs.Buffer.{raw_of}
use Rattle.object_record.specs.Raw.{raw_text}
use Rattle.disk_objects.specs.Disk.{with_count}
use Rattle.disk_objects.specs.Places.{IsReadPlace}
use Rattle.image_writer.specs.Puts.{name_text}
use Rattle.image_writer.proofs.DiskFacts.{held_text}
use Rattle.image_writer.proofs.GatherLaws.{then_gathers, read_gathers, untold_gathers, disk_stops_gathers}
use Rattle.image_writer.proofs.pieces.put_record.Goals as goal

pub returns-clause-gathers : goal.returns-clause-gathers
returns-clause-gathers g c = λ h p.
    let there = c.in_ok-count.ensures.record in
    let text = raw_text (with_count (raw_of c.get_counted.new.buf) c.in-Some.count) in
    untold_gathers g.H.Host c.args.disk.now.host.now c.put_counted.new.disk.host.now _ _ text (name_text h c.args.name) c.put_counted.result
    (λ told. held_text g.H.Host c.args.disk.now.host.now c.args.disk.now.rest h c.args.name c.get_counted.new.buf c.in_ok-count.field-0 c.in-Some.count (p told).0 (p told).1
    (c.in_ok-count.ensures.counted told) c.in-Some.is (c.in_ok-count.ensures.found told) there)
    (then_gathers g.H.Host c.args.disk.now.host.now c.get_counted.new.self.host.now c.put_counted.new.disk.host.now _ _ _ [] text (tt {0}) c.put_counted.result
    (read_gathers g.H.Host c.args.disk.now.host.now c.get_counted.new.self.host.now c.args.gathered.now (tt {0}) c.get_counted.ensures.read) c.put_counted.ensures.gathers)

pub returns-in_err-count-clause-gathers : goal.returns-in_err-count-clause-gathers
returns-in_err-count-clause-gathers g c = λ h p.
    disk_stops_gathers g.H.Host c.args.disk.now.host.now c.get_counted.new.self.host.now c.args.gathered.now c.args.gathered.now (name_text h c.args.name)
    (IsReadPlace c.args.disk.now.rest) c.args.name c.in_err-count.field-0.0 c.from_residual.result c.get_counted.ensures.read c.in_err-count.ensures.fault c.from_residual.ensures.1
