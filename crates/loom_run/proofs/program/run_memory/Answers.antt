use Rattle.std.proofs.Common.{IsTrue}
use Rattle.long_names.specs.Heap.{Heap}
use Rattle.loom_host.specs.declared.outside.Role.TheVariants.{Work}
use Rattle.blue_model.specs.Logs.{course}
use Rattle.machine_run.specs.States.{model_state}
use Rattle.loom_memory.specs.Memory.{loom_now, loom_told}
use Rattle.loom_words.specs.Command.{row_for}
use Rattle.loom_run.specs.Meanings.{Meanings, meanings}
use Rattle.loom_run.specs.Stages.{Listening}
use Rattle.loom_run.specs.Steps.{BeginsImage, Came, RunEnds, WentThrough}
use Rattle.loom_run.proofs.RunLaws.{came-end, came-through, fault_exit, machine-refused, unwound}
use Rattle.loom_run.proofs.program.run_memory.Goals as goal

pub returns-in_err-finished-clause-ends : goal.returns-in_err-finished-clause-ends
returns-in_err-finished-clause-ends g c =
    let m = c.args.memory.now in
    let n = c.run_machine.new.memory in
    let row = row_for c.args.command.now in
    fault_exit (λ status. (before : Meanings) (h : Heap) → Came g.H.Host.tells before (meanings g.H.Host (loom_now m)) row Listening c.args.state.now h c.args.events.now → (IsTrue (g.H.Host.tells Work) → BeginsImage h c.args.state.now (loom_told g.H.Host m)) → RunEnds g.H.Host.tells before (meanings g.H.Host (loom_now n)) row status)
    c.from_residual.result c.in_err-finished.field-0.0 c.from_residual.ensures.1
    (λ before h came begins. machine-refused g.H.Host m n before row c.args.state.now h c.args.events.now came c.run_machine.ensures.file c.run_machine.ensures.others c.in_err-finished.field-0.0 c.in_err-finished.ensures.refused (λ work. c.in_err-finished.ensures.runs work h (begins work)))

pub returns-in_err-next-clause-ends : goal.returns-in_err-next-clause-ends
returns-in_err-next-clause-ends g c =
    let m = c.args.memory.now in
    let n = c.run_machine.new.memory in
    let k = c.wind_up.new.memory in
    let row = row_for c.args.command.now in
    fault_exit (λ status. (before : Meanings) (h : Heap) → Came g.H.Host.tells before (meanings g.H.Host (loom_now m)) row Listening c.args.state.now h c.args.events.now → (IsTrue (g.H.Host.tells Work) → BeginsImage h c.args.state.now (loom_told g.H.Host m)) → RunEnds g.H.Host.tells before (meanings g.H.Host (loom_now k)) row status)
    c.from_residual-in_err-next.result c.in_err-next.field-0.0 c.from_residual-in_err-next.ensures.1
    (λ before h came begins. unwound g.H.Host m n before row c.args.state.now h c.args.events.now came c.run_machine.ensures.file c.run_machine.ensures.others c.in_ok-finished.finished (λ work. c.in_ok-finished.ensures.runs work h (begins work)) k c.wind_up.ensures.others c.wind_up.ensures.file c.wind_up.ensures.silent c.in_err-next.field-0.0 c.in_err-next.ensures.refused)

pub returns-clause-through : goal.returns-clause-through
returns-clause-through g c =
    let m = c.args.memory.now in
    let n = c.run_machine.new.memory in
    let k = c.wind_up.new.memory in
    let row = row_for c.args.command.now in (
      (loom_told g.H.Host n).heap,
      c.in_ok-next.ensures.ended,
      λ before h came begins.
          let went : IsTrue (g.H.Host.tells Work) → WentThrough (loom_told g.H.Host m) (loom_told g.H.Host n) row c.in_ok-finished.finished (course c.args.events.now row.steps (model_state c.args.state.now) h) = λ work. c.in_ok-finished.ensures.runs work h (begins work) in (
            came-end g.H.Host m n before row c.args.state.now h c.args.events.now came c.run_machine.ensures.file c.run_machine.ensures.others c.in_ok-finished.finished went k c.wind_up.ensures.others c.wind_up.ensures.file c.wind_up.ensures.silent,
            came-through g.H.Host m n before row c.args.state.now h c.args.events.now came c.run_machine.ensures.file c.run_machine.ensures.others c.in_ok-finished.finished went k c.wind_up.ensures.others c.wind_up.ensures.file c.wind_up.ensures.silent begins c.requires.ready c.in_ok-finished.ensures.ready c.in_ok-finished.ensures.sound c.in_ok-next.ensures.image c.in_ok-finished.ensures.tick,
          ),
    )
