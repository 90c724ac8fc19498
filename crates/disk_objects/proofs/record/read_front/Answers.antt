use Rattle.std.proofs.Common.{take, arith}
use Rattle.std.proofs.lemmas.List.{length-take}
use Rattle.loom_host.specs.Work.{work_of}
use Rattle.disk_objects.proofs.RecordLaws.{front-head, front-size, front-there, head-fault}
use Rattle.disk_objects.proofs.record.read_front.Goals as goal

pub slice_bounds-parse-end-in-Ok : goal.slice_bounds-parse-end-in-Ok
slice_bounds-parse-end-in-Ok g c =
    let same = c.read_at.auto.buf in omega (arith, same, c.requires, length-take 28 c.read_at.new.buf)

pub parse-requires : goal.parse-requires
parse-requires g c = let same = c.read_at.auto.buf in omega (arith, same, c.requires, length-take 28 c.read_at.new.buf)

pub returns-in-Ok-clause-front : goal.returns-in-Ok-clause-front
returns-in-Ok-clause-front g c told = front-there c.parse.result (rw c.requires at c.in-Ok.ensures.bytes told)

pub returns-in-Ok-clause-size : goal.returns-in-Ok-clause-size
returns-in-Ok-clause-size g c told =
    front-size (work_of g.H.Host c.args.host.now) c.read_at.new.buf c.args.place c.parse.result (rw c.requires at c.in-Ok.ensures.bytes told) c.parse.ensures.size

pub returns-in-Ok-clause-fault : goal.returns-in-Ok-clause-fault
returns-in-Ok-clause-fault g c = head-fault (work_of g.H.Host c.args.host.now) (take 28 c.read_at.new.buf) _ _ _ c.args.place c.args.name c.parse.result
    (λ told. front-head (work_of g.H.Host c.args.host.now) c.read_at.new.buf c.args.place (rw c.requires at c.in-Ok.ensures.bytes told)) c.parse.ensures.fault
