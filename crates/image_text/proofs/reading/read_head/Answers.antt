use Rattle.loom_host.specs.declared.outside.Role.TheVariants.{Image}
use Rattle.image_reader.specs.Window.{unused}
use Rattle.text_lines.specs.Breaks.{lines_at}
use Rattle.image_text.specs.Lines.{lines_of}
use Rattle.image_text.specs.Reads.{IsBad, IsHeadRefused, ReadsHead, TakesHead}
use Rattle.image_text.proofs.ReadLaws.{head_bad, reads_head}
use Rattle.image_text.proofs.StatedLaws.{more_err, more_ok}
use Rattle.image_text.proofs.reading.read_head.Goals as goal

pub returns-clause-reads : goal.returns-clause-reads
returns-clause-reads g c =
    let f = c.next_line.new.window in
    let v = c.take_head.new.window in
    more_ok (TakesHead f v c.in_ok-line.line) (ReadsHead g.H.Host c.args.disk.now.host.now c.next_line.new.disk.host.now c.args.window.now v) c.take_head.result
    (λ head taken. reads_head g.H.Host c.args.disk.now.host.now c.next_line.new.disk.host.now c.args.window.now f v c.in_ok-line.line head c.in_ok-line.ensures.rest c.in_ok-line.ensures.place c.in_ok-line.ensures.comes taken)
    c.take_head.ensures.taken

pub returns-clause-bad : goal.returns-clause-bad
returns-clause-bad g c = λ told.
    let f = c.next_line.new.window in
    let left = (g.H.Host.roles c.next_line.new.disk.host.now Image).left in
    let text = unused c.args.window.now (g.H.Host.roles c.args.disk.now.host.now Image) in
    more_err (IsHeadRefused f.bytes c.in_ok-line.line) (IsBad (lines_at (lines_of text))) c.take_head.result
    (λ e refused. head_bad f.bytes left text c.in_ok-line.line e (c.in_ok-line.ensures.rest told) (c.in_ok-line.ensures.comes told) refused)
    c.take_head.ensures.bad
