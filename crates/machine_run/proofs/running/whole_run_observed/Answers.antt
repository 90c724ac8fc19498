use Rattle.std.proofs.Common.{sym, ◌∙◌, subst}
use Rattle.machine_run.specs.Run.{HaltsAs}
use Rattle.machine_run.specs.declared.running.Halted.{Halted}
use Rattle.machine_run.specs.States.{model_state}
use Rattle.blue_model.specs.Logs.{course}
use Rattle.blue_model.specs.Earlier.{course_with_earlier}
use Rattle.machine_run.proofs.RunningLaws.{draw_halts}
use Rattle.machine_run.proofs.running.whole_run_observed.Goals as goal

pub returns-in-Err-draw-clause-ends : goal.returns-in-Err-draw-clause-ends
returns-in-Err-draw-clause-ends g c = λ told h begins.
    let at = g.M.ObjectMemory.told in
    let end = course_with_earlier (at c.args.m.now).transcript (course c.args.events.now c.args.steps (model_state c.args.state.now) h) in
    subst (λ (x : Halted). HaltsAs x.why x.ran c.args.steps (at c.draw.new.m) end) (sym c.halt_of-in-Err-draw.ensures)
    (draw_halts (at c.go_through.new.m) (at c.draw.new.m) c.go_through.new.cpu c.args.steps c.in-Ok.end end c.in-Err-draw.why (c.in-Ok.ensures.later.tells ∙ told) (c.in-Ok.ensures.ends told h begins) c.in-Err-draw.ensures.draws)
