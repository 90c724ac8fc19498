use Rattle.std.proofs.Common.{ap}
use Rattle.loom_host.specs.Outside.{RoleState}
use Rattle.loom_host.specs.Work.{work_of}
use Rattle.disk_objects.proofs.WindowLaws.{touches-written, here-written}
use Rattle.disk_objects.proofs.record.write.Goals as goal

pub returns-in-Ok-clause-here : goal.returns-in-Ok-clause-here
returns-in-Ok-clause-here g c told = here-written (work_of g.H.Host c.args.host.now) _ c.args.place c.args.bytes.now
    (ap (λ (s : RoleState). s.contents) (c.in-Ok.ensures.contents told))

pub returns-in-Ok-clause-touches : goal.returns-in-Ok-clause-touches
returns-in-Ok-clause-touches g c told = touches-written (work_of g.H.Host c.args.host.now) _ c.args.place c.args.bytes.now
    (ap (λ (s : RoleState). s.contents) (c.in-Ok.ensures.contents told))
