use Rattle.std.proofs.Common.{refl}
use Rattle.loom_host.proofs.WorkLaws.{work-same}
use Rattle.disk_objects.proofs.FunctionLaws.{same-disk, counted, fetched_counted}
use Rattle.disk_objects.proofs.objects.DiskObjects.get_counted.Goals as goal

pub returns-clause-found : goal.returns-clause-found
returns-clause-found g c told =
    let s = c.requires.stands told in
    fetched_counted g.H.Host c.args.self.now.host.now c.get_counted.new.host c.args.self.now.rest c.args.self.now.rest s.0 s.1 s.2 c.get_counted.result c.get_counted.new.buf c.args.name (c.get_counted.ensures.got told s.0 s.1 s.2)

pub returns-clause-counted : goal.returns-clause-counted
returns-clause-counted g c told =
    let s = c.requires.stands told in
    counted g.H.Host c.args.self.now.host.now c.get_counted.new.host c.args.self.now.rest c.args.self.now.rest s.0 s.1 s.2 c.get_counted.result c.args.name (c.get_counted.ensures.count told s.0 s.1 s.2)

pub returns-clause-keeps : goal.returns-clause-keeps
returns-clause-keeps g c told =
    same-disk g.H.Host c.args.self.now.host.now c.get_counted.new.host c.args.self.now.rest c.args.self.now.rest refl
    (work-same g.H.Host c.args.self.now.host.now c.get_counted.new.host c.get_counted.ensures.read) c.requires.stands
