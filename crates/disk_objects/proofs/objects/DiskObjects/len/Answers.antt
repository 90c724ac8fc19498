use Rattle.std.proofs.Common.{sym, ◌∙◌}
use Rattle.loom_host.specs.Work.{work_of}
use Rattle.disk_objects.proofs.KeyLaws.{disk-len}
use Rattle.disk_objects.proofs.objects.DiskObjects.len.Goals as goal

pub returns-clause-objects : goal.returns-clause-objects
returns-clause-objects g c told objects pending k =
    c.len.ensures.value ∙ sym (disk-len c.args.self.now.rest (work_of g.H.Host c.args.self.now.host.now) objects pending k)
