-- Work is attached, the image is loaded, and the events are read: the host is the same from one to the next.
use Rattle.std.proofs.Common.{refl, subst, sym}
use Rattle.loom_host.specs.declared.outside.Role.TheVariants.{Image, Work}
use Rattle.image_reader.specs.Loaded.{heap_on}
use Rattle.image_memory.proofs.ImageLaws.{image-stays}
use Rattle.long_names.specs.Heap.{Heap}
use Rattle.loom_words.specs.Command.{row_for}
use Rattle.loom_run.specs.Meanings.{meanings}
use Rattle.loom_run.specs.Steps.{IsRead}
use Rattle.loom_run.proofs.ProgramLaws.{came-listening, heap-stays}
use Rattle.loom_run.proofs.StepLaws.{refuses}
use Rattle.loom_run.proofs.UsesLaws.{left-then, never}
use Rattle.loom_guard.specs.Steps.{KeptReadEnds}
use Rattle.loom_guard.specs.Ways.{imageless}
use Rattle.loom_guard.proofs.ReadingLaws.{left-kept, listening-kept, opening-kept, reading-kept, used-kept}
use Rattle.loom_guard.proofs.resuming.read_kept.Goals as goal

pub returns-in_err-open_work-clause-ends : goal.returns-in_err-open_work-clause-ends
returns-in_err-open_work-clause-ends g c =
    let tells = g.H.Host.tells in
    let before = meanings g.H.Host c.args.host.now in
    let row = row_for c.args.command.now in
    let now = meanings g.H.Host c.open_work.new.host in
    let status = c.in_err-open_work.field-0.0 in
    refuses (KeptReadEnds tells before now row c.args.image.now) c.from_residual.result status c.from_residual.ensures.1
    (opening-kept tells before row c.args.image.now now status c.open_work.ensures.attached c.open_work.ensures.others (c.in_err-open_work.ensures.refused row))

pub returns-in_err-kept-clause-ends : goal.returns-in_err-kept-clause-ends
returns-in_err-kept-clause-ends g c =
    let tells = g.H.Host.tells in
    let before = meanings g.H.Host c.args.host.now in
    let row = row_for c.args.command.now in
    let now = meanings g.H.Host c.load_kept.new.host in
    let status = c.in_err-kept.field-0.0 in
    refuses (KeptReadEnds tells before now row c.args.image.now) c.from_residual-in_err-kept.result status c.from_residual-in_err-kept.ensures.1
    (reading-kept tells before row c.args.image.now (meanings g.H.Host c.open_work.new.host) now c.open_work.ensures.attached c.in_ok-open_work.ensures.named c.open_work.ensures.others c.load_kept.ensures.file c.load_kept.ensures.others status
    c.in_err-kept.ensures.refused c.in_err-kept.ensures.judged c.in_err-kept.ensures.never)

pub returns-in_err-events-clause-ends : goal.returns-in_err-events-clause-ends
returns-in_err-events-clause-ends g c =
    let tells = g.H.Host.tells in
    let before = meanings g.H.Host c.args.host.now in
    let row = row_for c.args.command.now in
    let mid = meanings g.H.Host c.load_kept.new.host in
    let now = meanings g.H.Host c.read_lines.new.host in
    let status = c.in_err-events.field-0.0 in
    let used = used-kept tells before row c.args.image.now (meanings g.H.Host c.open_work.new.host) mid c.open_work.ensures.attached c.in_ok-open_work.ensures.named c.open_work.ensures.others c.load_kept.ensures.file c.load_kept.ensures.others in
    refuses (KeptReadEnds tells before now row c.args.image.now) c.from_residual-in_err-events.result status c.from_residual-in_err-events.ensures.1
    (listening-kept tells before row c.args.image.now mid now used c.read_lines.ensures.attached c.read_lines.ensures.others c.in_ok-kept.kept.1.state _ c.in_ok-kept.ensures.read status c.in_err-events.ensures.refused c.in_err-events.ensures.judged)

pub returns-in_err-open_work-clause-imageless : goal.returns-in_err-open_work-clause-imageless
returns-in_err-open_work-clause-imageless g c = c.open_work.ensures.others.others Image (λ e. cc, tt)

pub returns-in_err-kept-clause-imageless : goal.returns-in_err-kept-clause-imageless
returns-in_err-kept-clause-imageless g c =
    let host = g.H.Host in
    left-then Image (meanings host c.args.host.now) (meanings host c.open_work.new.host) (meanings host c.load_kept.new.host) (c.open_work.ensures.others.others Image (λ e. cc, tt)) c.load_kept.ensures.imageless

pub returns-in_err-events-clause-imageless : goal.returns-in_err-events-clause-imageless
returns-in_err-events-clause-imageless g c =
    let host = g.H.Host in
    left-kept (meanings host c.args.host.now) (meanings host c.open_work.new.host) (meanings host c.load_kept.new.host) (meanings host c.read_lines.new.host) c.open_work.ensures.others c.load_kept.ensures.imageless c.read_lines.ensures.others

pub returns-clause-imageless : goal.returns-clause-imageless
returns-clause-imageless g c =
    let host = g.H.Host in
    left-kept (meanings host c.args.host.now) (meanings host c.open_work.new.host) (meanings host c.load_kept.new.host) (meanings host c.read_lines.new.host) c.open_work.ensures.others c.load_kept.ensures.imageless c.read_lines.ensures.others

pub returns-clause-came : goal.returns-clause-came
returns-clause-came g c =
    let host = g.H.Host in
    let before = meanings host c.args.host.now in
    let row = row_for c.args.command.now in
    let mid = meanings host c.load_kept.new.host in
    let end = c.read_lines.new.host in
    let x = c.in_ok-kept.kept.1 in
    let used = used-kept host.tells before row c.args.image.now (meanings host c.open_work.new.host) mid c.open_work.ensures.attached c.in_ok-open_work.ensures.named c.open_work.ensures.others c.load_kept.ensures.file c.load_kept.ensures.others in
    came-listening (imageless host.tells) before row mid (meanings host end) used c.read_lines.ensures.attached c.read_lines.ensures.others x.state (heap_on host end c.in_ok-kept.kept.0 x.next) (λ told. never told)
    c.in_ok-events.events (λ events. (c.in_ok-events.ensures.end events, c.in_ok-events.ensures.list events))

pub returns-clause-image : goal.returns-clause-image
returns-clause-image g c = image-stays g.H.Host c.load_kept.new.host c.read_lines.new.host c.in_ok-kept.kept.0 c.in_ok-kept.kept.0 c.in_ok-kept.kept.1 (c.read_lines.ensures.others.others Work (λ e. cc, tt)).state refl c.in_ok-kept.ensures.image

pub returns-clause-read : goal.returns-clause-read
returns-clause-read g c = λ work.
    let x = c.in_ok-kept.kept.1 in
    subst (λ (h : Heap). IsRead c.args.image.now c.args.command.now.room x.state h) (sym (heap-stays g.H.Host c.load_kept.new.host c.read_lines.new.host c.in_ok-kept.kept.0 x.next (c.read_lines.ensures.others.others Work (λ e. cc, tt)).state))
    (c.in_ok-kept.ensures.read work)
