use Rattle.disk_objects.proofs.FunctionLaws.{put-if}
use Rattle.disk_objects.proofs.objects.DiskObjects.put.Goals as goal
use Rattle.object_record.specs.Buffer.{raw_of}

pub returns-clause-stored : goal.returns-clause-stored
returns-clause-stored g c told =
    let s = c.requires.stands told in
    put-if g.H.Host c.args.self.now.host.now c.put.new.host c.args.self.now.rest c.put.new.self s.0 s.1 s.2 c.put.result (raw_of c.args.buf.now) c.args.count
    (c.put.ensures.put told s.0 s.1 s.2)
