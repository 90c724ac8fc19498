use Rattle.machine_run.proofs.RunningLaws.{draw_halts}
use Rattle.guarded_run.proofs.legs.finish_leg.Goals as goal

pub returns-in-Err-clause-ends : goal.returns-in-Err-clause-ends
returns-in-Err-clause-ends g c = λ told steps course awaits.
    let at = g.M.ObjectMemory.told in
    draw_halts (at c.args.m.now) (at c.draw.new.m) c.args.cpu.now steps c.args.end course c.in-Err.why told awaits c.in-Err.ensures.draws
