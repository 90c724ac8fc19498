use Rattle.std.proofs.Common.{refl}
use Rattle.loom_host.proofs.WorkLaws.{work-same}
use Rattle.disk_objects.proofs.FunctionLaws.{same-disk, counted}
use Rattle.disk_objects.proofs.objects.DiskObjects.count.Goals as goal

pub returns-clause-found : goal.returns-clause-found
returns-clause-found g c told =
    let s = c.requires.stands told in
    counted g.H.Host c.args.self.now.host.now c.count.new.host c.args.self.now.rest c.args.self.now.rest s.0 s.1 s.2 c.count.result c.args.name (c.count.ensures.count told s.0 s.1 s.2)

pub returns-clause-keeps : goal.returns-clause-keeps
returns-clause-keeps g c told =
    same-disk g.H.Host c.args.self.now.host.now c.count.new.host c.args.self.now.rest c.args.self.now.rest refl
    (work-same g.H.Host c.args.self.now.host.now c.count.new.host c.count.ensures.read) c.requires.stands
