use Rattle.disk_objects.proofs.FunctionLaws.{kept-if}
use Rattle.disk_objects.proofs.objects.DiskObjects.put_pending.Goals as goal

pub returns-clause-keeps : goal.returns-clause-keeps
returns-clause-keeps g c told =
    let s = c.requires.stands told in
    kept-if g.H.Host c.args.self.now.host.now c.put_pending.new.host c.args.self.now.rest c.put_pending.new.self s.0 s.1 s.2 c.put_pending.result _
    (c.put_pending.ensures.put told s.0 s.1 s.2 s.3)
