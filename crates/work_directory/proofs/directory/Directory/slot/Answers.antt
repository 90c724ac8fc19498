use Rattle.std.proofs.lemmas.Result.{IfErr-weaker}
use Rattle.work_directory.specs.Directory.{shown_at}
use Rattle.work_directory.specs.Inside.{IsLookCause}
use Rattle.work_directory.specs.Work.{IsSlotCause}
use Rattle.loom_host.specs.Work.{work_of}
use Rattle.std.proofs.Common.{None}
use Rattle.work_directory.proofs.CauseLaws.{slot-cause}
use Rattle.work_directory.proofs.ChangeLaws.{one-spelled}
use Rattle.work_directory.proofs.directory.Directory.slot.Goals as goal

pub returns-clause-shown : goal.returns-clause-shown
unfolding shown_at
returns-clause-shown g c = c.look.ensures.slot

pub returns-clause-cause : goal.returns-clause-cause
returns-clause-cause g c =
    let h = g.H.Host in
    IfErr-weaker c.look.result (IsLookCause h c.args.host.now c.look.new.host c.args.i None)
    (IsSlotCause h c.args.host.now c.look.new.host c.args.i)
    (λ fault. slot-cause h c.args.host.now c.look.new.host c.args.i fault
    (λ told. one-spelled c.args.self.now (work_of h c.args.host.now) c.args.i (c.requires.stands told) c.requires.within))
    c.look.ensures.cause
