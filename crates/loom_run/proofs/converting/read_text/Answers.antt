-- Attached and then assembled: a step of the host, and one of the disk.
use Rattle.std.proofs.Common.{List, ℕ, sym, subst}
use Rattle.image_reader.specs.Loaded.{heap_on}
use Rattle.text_lines.specs.Texts.{IsTextOf}
use Rattle.loom_host.specs.declared.outside.Role.TheVariants.{Image, Work}
use Rattle.loom_run.specs.Ends.{bytes_of}
use Rattle.loom_run.proofs.ConvertLaws.{refused-text, unopened-judges}
use Rattle.loom_run.proofs.ConvertSteps.{held-counts}
use Rattle.loom_run.proofs.StepLaws.{bytes-reading}
use Rattle.loom_run.proofs.converting.read_text.Goals as goal

pub returns-in-Err-clause-judged : goal.returns-in-Err-clause-judged
returns-in-Err-clause-judged g c = λ told. unopened-judges (g.H.Host.tells Work) c.in-Err.status (bytes_of (g.H.Host.roles c.open_image.new.disk.host.now Image)) c.in-Err.ensures.unopened

pub returns-in-Err-clause-refused : goal.returns-in-Err-clause-refused
returns-in-Err-clause-refused g c = refused-text c.in-Err.status c.in-Err.ensures.unopened c.in-Err.ensures.refused

pub returns-in-Ok-clause-read : goal.returns-in-Ok-clause-read
returns-in-Ok-clause-read g c = λ told work.
    let mid = c.open_image.new.disk in
    let end = c.assemble.new.disk in
    let x = c.in-Ok.loaded in
    let bytes = bytes-reading g.H.Host c.args.disk.now.host.now mid.host.now end.host.now c.open_image.ensures.others c.open_image.ensures.other_faults c.open_image.ensures.later c.assemble.ensures.loading told (c.in_default.ensures.fresh told) in (
      subst (λ (text : List ℕ). IsTextOf text (heap_on g.H.Host end.host.now end.rest x.next) x.state) (sym bytes) (c.in-Ok.ensures.text told work),
      held-counts g.H.Host end.host.now end.rest x.next x.objects c.in-Ok.ensures.objects (c.in-Ok.ensures.heap work) (c.in-Ok.ensures.idle work),
    )
