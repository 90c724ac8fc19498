use Rattle.disk_objects.proofs.FunctionLaws.{kept-taken}
use Rattle.disk_objects.proofs.objects.DiskObjects.take_pending.Goals as goal

pub returns-clause-keeps : goal.returns-clause-keeps
returns-clause-keeps g c told =
    let s = c.requires.stands told in
    kept-taken g.H.Host c.args.self.now.host.now c.take_pending.new.host c.args.self.now.rest c.take_pending.new.self s.0 s.1 s.2 c.take_pending.result
    (c.take_pending.ensures.took told s.0 s.1 s.2)
