use Rattle.std.proofs.Common.{subst}
use Rattle.loom_host.specs.declared.outside.Role.TheVariants.{Image, Work}
use Rattle.object_record.specs.Buffer.{raw_of}
use Rattle.image_reader.specs.Window.{unused}
use Rattle.image_reader.proofs.Frames.{leaves}
use Rattle.image_reader.proofs.Stored.{still_holds}
use Rattle.text_lines.specs.Breaks.{objects_at}
use Rattle.image_text.specs.Lines.{lines_of}
use Rattle.image_text.specs.Reads.{IsBad, IsTaken}
use Rattle.image_text.proofs.ReadLaws.{refused_bad, takes_line}
use Rattle.image_text.proofs.reading.take_next.Goals as goal

pub returns-in_err-name-clause-bad : goal.returns-in_err-name-clause-bad
returns-in_err-name-clause-bad g c = λ told.
    let f = c.next_line.new.window in
    let left = (g.H.Host.roles c.next_line.new.disk.host.now Image).left in
    let text = unused c.args.window.now (g.H.Host.roles c.args.disk.now.host.now Image) in
    leaves (IsBad (objects_at c.args.number c.args.last c.args.next (lines_of text))) c.from_residual-in_err-name.result c.in_err-name.field-0.0 c.from_residual-in_err-name.ensures.1
    (refused_bad c.args.number c.args.last c.args.next f.bytes left text c.in_ok-line.line c.in_err-name.field-0.0 (c.in_ok-line.ensures.rest told) (c.in_ok-line.ensures.comes told) c.in_err-name.ensures.bad)

pub put-requires-clause-stands : goal.put-requires-clause-stands
put-requires-clause-stands g c = still_holds g.H.Host c.args.disk.now.host.now c.next_line.new.disk.host.now c.args.disk.now.rest c.next_line.new.disk.rest (c.next_line.ensures.reads.others Work (λ e. cc)) c.next_line.ensures.same_rest c.requires.stands

pub returns-in_ok-put-in-Some-clause-takes : goal.returns-in_ok-put-in-Some-clause-takes
returns-in_ok-put-in-Some-clause-takes g c =
    let w = c.args.window.now in
    let f = c.next_line.new.window in
    let v = c.take_line.new.window in
    let buffer = c.take_line.new.buf in
    let taken = subst (IsTaken f v buffer c.args.number c.args.last c.args.next c.in_ok-line.line) c.in-Some.is c.in_ok-name.ensures.taken in
    takes_line g.H.Host c.args.disk.now.host.now c.next_line.new.disk.host.now c.put.new.self.host.now c.args.disk.now.rest c.next_line.new.disk.rest c.put.new.self.rest w f v buffer c.args.number c.args.last c.args.next c.in-Some.name c.in_ok-line.line (raw_of buffer)
    c.next_line.ensures.reads c.next_line.ensures.same_rest c.in_ok-line.ensures.rest c.in_ok-line.ensures.place c.in_ok-line.ensures.comes taken taken.object.raw_is
    c.put.ensures.work c.in_ok-put-in-Some.ensures.stored c.in_ok-put-in-Some.ensures.put c.in_ok-put-in-Some.ensures.held
