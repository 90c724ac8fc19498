use Rattle.loom_host.specs.Work.{work_of}
use Rattle.disk_objects.proofs.RecordLaws.{head-read, head-fault}
use Rattle.disk_objects.proofs.record.read_head.Goals as goal

pub returns-in-Ok-clause-head : goal.returns-in-Ok-clause-head
returns-in-Ok-clause-head g c told = head-read (work_of g.H.Host c.args.host.now) c.read_at.new.buf c.args.place c.parse.result
    (c.in-Ok.ensures.bytes told) c.parse.ensures.link c.parse.ensures.size

pub returns-in-Ok-clause-fault : goal.returns-in-Ok-clause-fault
returns-in-Ok-clause-fault g c = head-fault (work_of g.H.Host c.args.host.now) c.read_at.new.buf _ _ _ c.args.place c.args.name c.parse.result
    (λ told. c.in-Ok.ensures.bytes told) c.parse.ensures.fault
