use Rattle.disk_objects.proofs.FunctionLaws.{removed-if}
use Rattle.disk_objects.proofs.objects.DiskObjects.remove.Goals as goal

pub returns-clause-gone : goal.returns-clause-gone
returns-clause-gone g c told =
    let s = c.requires.stands told in
    removed-if g.H.Host c.args.self.now.host.now c.remove.new.host c.args.self.now.rest c.remove.new.self s.0 s.1 s.2 c.remove.result c.args.name
    (c.remove.ensures.removed told s.0 s.1 s.2 s.3)
