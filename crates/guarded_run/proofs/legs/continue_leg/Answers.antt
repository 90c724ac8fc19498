use Rattle.std.proofs.Common.{sym, subst}
use Rattle.blue_model.specs.declared.cpu.Cpu.{Cpu}
use Rattle.machine_run.specs.States.{model_state}
use Rattle.guarded_run.specs.Legs.{Starts}
use Rattle.guarded_run.proofs.LegLaws.{continues}
use Rattle.guarded_run.proofs.legs.continue_leg.Goals as goal

pub returns-clause-continues : goal.returns-clause-continues
returns-clause-continues g c = λ told events steps run last t parked keep from next few.
    let at = g.M.ObjectMemory.told in
    let did = c.begin-begun.ensures in
    subst (λ (now : Cpu). Starts events steps run c.args.serial (at c.begin-begun.new.m) now c.begin-begun.result) (sym c.going_on.ensures)
    (continues events steps run c.args.serial last t parked (model_state c.args.state.now) (at c.args.m.now) (at c.begin-begun.new.m) c.args.cpu.now c.args.cpu.now c.begin-begun.new.cpu c.begin-begun.result told keep from next few did.fit.ready did.rest did.serves)
