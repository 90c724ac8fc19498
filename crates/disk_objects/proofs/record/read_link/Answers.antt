use Rattle.loom_host.specs.Work.{work_of}
use Rattle.disk_objects.proofs.RecordLaws.{link-read, link-fault}
use Rattle.disk_objects.proofs.record.read_link.Goals as goal

pub returns-in-Ok-clause-link : goal.returns-in-Ok-clause-link
returns-in-Ok-clause-link g c told = link-read (work_of g.H.Host c.args.host.now) c.read_at.new.buf _ c.read_u64.result c.parse_link.result
    (c.in-Ok.ensures.bytes told) c.read_u64.ensures c.parse_link.ensures.link

pub returns-in-Ok-clause-fault : goal.returns-in-Ok-clause-fault
returns-in-Ok-clause-fault g c = link-fault (work_of g.H.Host c.args.host.now) c.read_at.new.buf _ c.read_u64.result _ _ _ c.args.place c.args.name c.parse_link.result
    c.in-Ok.ensures.bytes c.read_u64.ensures c.parse_link.ensures.fault
