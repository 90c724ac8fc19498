use Rattle.std.proofs.Common.{[], refl}
use Rattle.disk_objects.specs.Function.{disk_of}
use Rattle.disk_objects.specs.Places.{IsReadPlace}
use Rattle.object_record.specs.Buffer.{raw_of}
use Rattle.object_record.specs.Objects.{object_in}
use Rattle.image_writer.proofs.GatherLaws.{then_gathers, read_gathers, read_stops_gathers, untold_gathers, disk_stops_gathers}
use Rattle.text_lines.specs.Spelling.{line_of, name_line, object_parts}
use Rattle.image_text.proofs.LineLaws.{name_line_is, not_lost}
use Rattle.image_text.proofs.listing.put_object.Goals as goal

pub returns-then-held-clause-gathers : goal.returns-then-held-clause-gathers
returns-then-held-clause-gathers g c = λ h p.
    let there = c.in_ok-held.ensures.record c.if-held.true in
    let text = line_of (object_parts (raw_of c.get.new.buf).name (object_in (raw_of c.get.new.buf))) in
    untold_gathers g.H.Host c.args.disk.now.host.now c.put_line.new.disk.host.now _ _ text (name_line h c.args.name) c.put_line.result
    (λ told. name_line_is h c.args.name (disk_of g.H.Host c.args.disk.now.host.now c.args.disk.now.rest) c.get.new.buf c.in_ok-held.held (p told).0 (p told).1 (c.in_ok-held.ensures.found told) c.if-held.true there.1)
    (then_gathers g.H.Host c.args.disk.now.host.now c.get.new.self.host.now c.put_line.new.disk.host.now _ _ _ [] text (tt {0}) c.put_line.result
    (read_gathers g.H.Host c.args.disk.now.host.now c.get.new.self.host.now c.args.gathered.now (tt {0}) c.get.ensures.read) c.put_line.ensures.gathers)

pub returns-else-held-clause-gathers : goal.returns-else-held-clause-gathers
returns-else-held-clause-gathers g c = λ h p.
    read_stops_gathers g.H.Host c.args.disk.now.host.now c.get.new.self.host.now c.args.gathered.now c.args.gathered.now (name_line h c.args.name) _ _ c.get.ensures.read
    (rw c.lost.ensures (λ told. not_lost h c.args.name (disk_of g.H.Host c.args.disk.now.host.now c.args.disk.now.rest) c.get.new.buf c.in_ok-held.held (p told).0 (p told).1 (c.in_ok-held.ensures.found told) c.if-held.false)) refl

pub returns-in_err-held-clause-gathers : goal.returns-in_err-held-clause-gathers
returns-in_err-held-clause-gathers g c = λ h p.
    disk_stops_gathers g.H.Host c.args.disk.now.host.now c.get.new.self.host.now c.args.gathered.now c.args.gathered.now (name_line h c.args.name)
    (IsReadPlace c.args.disk.now.rest) c.args.name c.in_err-held.field-0.0 c.from_residual.result c.get.ensures.read c.in_err-held.ensures.fault c.from_residual.ensures.1
