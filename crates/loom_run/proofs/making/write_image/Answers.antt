-- The image was put whole, and then it was ended, or not.
use Rattle.std.proofs.Common.{[], inr}
use Rattle.loom_host.specs.declared.outside.Role.TheVariants.{Saved}
use Rattle.loom_run.specs.Ends.{WasWritten}
use Rattle.loom_run.proofs.StepLaws.{begun-from, made-by, not-made, written-from}
use Rattle.loom_run.proofs.making.write_image.Goals as goal

pub returns-in_err-write_full-clause-put : goal.returns-in_err-write_full-clause-put
returns-in_err-write_full-clause-put g c = λ told.
    let file = c.args.file.now in
    let image = c.args.image.now in
    let before = g.H.Host.roles c.args.host.now Saved in
    let attached = g.H.Host.roles c.attach.new.self Saved in
    let put = g.H.Host.roles c.write_full.new.host Saved in
    let opened : WasWritten file [] before attached = record {
      attaches = (c.in_ok-attach.ensures.attached told).attaches;
      name = (c.in_ok-attach.ensures.attached told).named;
      put = (c.in_ok-attach.ensures.fresh told).put;
      unended = (c.in_ok-attach.ensures.fresh told).ended;
    } in
    not-made file image before put c.from_residual-in_err-write_full.result c.in_err-write_full.field-0.0 c.from_residual-in_err-write_full.ensures.1 (inr (begun-from file image before attached put opened (c.in_err-write_full.ensures.failed told)))

pub returns-clause-put : goal.returns-clause-put
returns-clause-put g c = λ told.
    let file = c.args.file.now in
    let image = c.args.image.now in
    let before = g.H.Host.roles c.args.host.now Saved in
    let attached = g.H.Host.roles c.attach.new.self Saved in
    let put = g.H.Host.roles c.write_full.new.host Saved in
    let end = g.H.Host.roles c.end_saved.new.host Saved in
    let opened : WasWritten file [] before attached = record {
      attaches = (c.in_ok-attach.ensures.attached told).attaches;
      name = (c.in_ok-attach.ensures.attached told).named;
      put = (c.in_ok-attach.ensures.fresh told).put;
      unended = (c.in_ok-attach.ensures.fresh told).ended;
    } in
    let whole = written-from file image before attached put opened (c.in_ok-write_full.ensures.put told) in
    made-by file image before put end c.end_saved.result whole (c.end_saved.ensures.ended told) (c.end_saved.ensures.still told)
