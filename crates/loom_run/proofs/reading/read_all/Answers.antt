-- A disk begins over the host as it is, and is taken apart: each of these leaves the host as it was.
use Rattle.std.proofs.Common.{◌≡◌, IfErr, refl, rules, sym, subst}
use Rattle.loom_host.specs.declared.outside.Role.TheVariants.{Work}
use Rattle.image_reader.specs.Loaded.{heap_on}
use Rattle.image_memory.specs.Image.{HasImage}
use Rattle.image_memory.proofs.ImageLaws.{image-stays}
use Rattle.loom_words.specs.Command.{row_for}
use Rattle.loom_run.specs.Meanings.{meanings}
use Rattle.loom_run.specs.Stages.{Listening}
use Rattle.loom_run.specs.Steps.{Came, ReadEnds}
use Rattle.loom_run.proofs.ProgramLaws.{came-listening, listening-refused, opening-refused, read-stays, reading-refused, used-reading}
use Rattle.loom_run.proofs.StepLaws.{refuses}
use Rattle.loom_run.proofs.reading.read_all.Goals as goal

same-host : {H : Type 0} (now end : H) (P : H → Type 0) → end ≡ now → P now → P end
same-host now end P same x = subst P (sym same) x

pub returns-in_err-open_work-clause-ends : goal.returns-in_err-open_work-clause-ends
returns-in_err-open_work-clause-ends g c =
    let tells = g.H.Host.tells in
    let before = meanings g.H.Host c.args.host.now in
    let row = row_for c.args.command.now in
    let now = meanings g.H.Host c.open_work.new.host in
    let status = c.in_err-open_work.field-0.0 in
    refuses (ReadEnds tells before now row) c.from_residual.result status c.from_residual.ensures.1
    (opening-refused tells before row now status c.open_work.ensures.attached c.open_work.ensures.others (c.in_err-open_work.ensures.refused row))

pub returns-in_err-loaded-clause-ends : goal.returns-in_err-loaded-clause-ends
returns-in_err-loaded-clause-ends g c =
    let host = g.H.Host in
    let before = meanings host c.args.host.now in
    let row = row_for c.args.command.now in
    let end = c.read_image-image.new.disk.host.now in
    let status = c.in_err-loaded.field-0.0 in
    let first = c.open_work.ensures in
    let then = rw c.begin-disk.ensures.now at c.read_image-image.ensures in
    same-host end _ (λ h. IfErr c.from_residual-in_err-loaded.result (ReadEnds host.tells before (meanings host h) row)) (search rules)
    (refuses (ReadEnds host.tells before (meanings host end) row) c.from_residual-in_err-loaded.result status c.from_residual-in_err-loaded.ensures.1
    (reading-refused host.tells before row (meanings host c.open_work.new.host) (meanings host end) first.attached c.in_ok-open_work.ensures.named first.others then.attached then.file then.others status
    (rw c.begin-disk.ensures.now at (c.in_err-loaded.ensures.refused row refl)) c.in_err-loaded.ensures.judged))

pub returns-in_err-events-clause-ends : goal.returns-in_err-events-clause-ends
returns-in_err-events-clause-ends g c =
    let host = g.H.Host in
    let before = meanings host c.args.host.now in
    let row = row_for c.args.command.now in
    let x = c.in_ok-loaded.loaded in
    let mid = c.apart-host.result.0.now in
    let rest = c.apart-host.result.1 in
    let end = c.read_lines.new.host in
    let status = c.in_err-events.field-0.0 in
    let first = c.open_work.ensures in
    let then = rw c.begin-disk.ensures.now at c.read_image-image.ensures in
    let used = used-reading host.tells before row (meanings host c.open_work.new.host) (meanings host c.read_image-image.new.disk.host.now) first.attached c.in_ok-open_work.ensures.named first.others then.attached then.file then.others in
    same-host end _ (λ h. IfErr c.from_residual-in_err-events.result (ReadEnds host.tells before (meanings host h) row)) (search rules)
    (refuses (ReadEnds host.tells before (meanings host end) row) c.from_residual-in_err-events.result status c.from_residual-in_err-events.ensures.1
    (listening-refused host.tells before row (meanings host mid) (meanings host end) (rw c.apart-host.ensures.now used) c.read_lines.ensures.attached c.read_lines.ensures.others x.state (heap_on host mid rest x.next)
    (rw (c.apart-host.ensures.now, c.apart-host.ensures.rest) (λ image. (c.in_ok-loaded.ensures.end image, c.in_ok-loaded.ensures.read image))) status c.in_err-events.ensures.refused c.in_err-events.ensures.judged))

pub returns-clause-came : goal.returns-clause-came
returns-clause-came g c =
    let host = g.H.Host in
    let before = meanings host c.args.host.now in
    let row = row_for c.args.command.now in
    let x = c.in_ok-loaded.loaded in
    let mid = c.apart-host.result.0.now in
    let rest = c.apart-host.result.1 in
    let end = c.read_lines.new.host in
    let first = c.open_work.ensures in
    let then = rw c.begin-disk.ensures.now at c.read_image-image.ensures in
    let used = used-reading host.tells before row (meanings host c.open_work.new.host) (meanings host c.read_image-image.new.disk.host.now) first.attached c.in_ok-open_work.ensures.named first.others then.attached then.file then.others in
    same-host end _ (λ h. Came host.tells before (meanings host h) row Listening x.state (heap_on host h rest x.next) c.in_ok-events.events) (search rules)
    (came-listening host.tells before row (meanings host mid) (meanings host end) (rw c.apart-host.ensures.now used) c.read_lines.ensures.attached c.read_lines.ensures.others x.state (heap_on host end rest x.next)
    (read-stays host mid end row x.state rest x.next (c.read_lines.ensures.others.others Work (λ e. cc, tt)).state
    (rw (c.apart-host.ensures.now, c.apart-host.ensures.rest) (λ image. (c.in_ok-loaded.ensures.end image, c.in_ok-loaded.ensures.read image))))
    c.in_ok-events.events (λ events. (c.in_ok-events.ensures.end events, c.in_ok-events.ensures.list events)))

pub returns-clause-image : goal.returns-clause-image
returns-clause-image g c =
    let host = g.H.Host in
    let x = c.in_ok-loaded.loaded in
    let mid = c.apart-host.result.0.now in
    let rest = c.apart-host.result.1 in
    let end = c.read_lines.new.host in
    same-host end _ (λ h. HasImage host h rest x) (search rules)
    (image-stays host mid end rest rest x (c.read_lines.ensures.others.others Work (λ e. cc, tt)).state refl (rw (c.apart-host.ensures.now, c.apart-host.ensures.rest) c.in_ok-loaded.ensures.image))
