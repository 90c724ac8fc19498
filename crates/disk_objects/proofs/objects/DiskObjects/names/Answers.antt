use Rattle.std.proofs.Common.{refl}
use Rattle.loom_host.proofs.WorkLaws.{work-same}
use Rattle.disk_objects.proofs.FunctionLaws.{same-disk}
use Rattle.disk_objects.proofs.objects.DiskObjects.names.Goals as goal

pub returns-clause-keeps : goal.returns-clause-keeps
returns-clause-keeps g c told =
    same-disk g.H.Host c.args.self.now.host.now c.names.new.host c.args.self.now.rest c.args.self.now.rest refl
    (work-same g.H.Host c.args.self.now.host.now c.names.new.host c.names.ensures.read) c.requires.stands
