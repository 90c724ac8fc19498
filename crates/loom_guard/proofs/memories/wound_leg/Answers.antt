use Rattle.std.proofs.Common.{inl, refl}
use Rattle.loom_host.specs.declared.outside.Role.TheVariants.{Work, Transcript}
use Rattle.loom_memory.specs.Memory.{loom_now, loom_told}
use Rattle.loom_words.specs.Command.{row_for}
use Rattle.loom_run.specs.Meanings.{meanings}
use Rattle.loom_run.specs.Stages.{Running, Finishing, roles_at}
use Rattle.loom_run.proofs.MachineLaws.{bounds-later}
use Rattle.loom_run.proofs.RunLaws.{fault_exit}
use Rattle.loom_guard.specs.Legs.{FromMemory, Halts}
use Rattle.loom_guard.proofs.StretchLaws.{file-then, late-of, leaves-then, leg-leaves, refused-at, refused-since, room-of, stage-of, stopped-at, unwound}
use Rattle.loom_guard.proofs.memories.wound_leg.Goals as goal

pub returns-in_err-leg-clause-room : goal.returns-in_err-leg-clause-room
returns-in_err-leg-clause-room g c = room-of g.H.Host c.loom_leg.new.memory (row_for c.args.command.now) c.loom_leg.ensures.bounds

pub returns-in_err-leg-clause-ends : goal.returns-in_err-leg-clause-ends
returns-in_err-leg-clause-ends g c =
    let m = c.args.memory.now in
    let n = c.loom_leg.new.memory in
    let row = row_for c.args.command.now in
    let status = c.in_err-leg.field-0.0 in
    fault_exit (Halts g.H.Host.tells (meanings g.H.Host (loom_now m)) (meanings g.H.Host (loom_now n)) row c.args.events.now (FromMemory g.H.Host.tells row c.args.first c.args.events.now c.args.serial c.args.cpu.now (loom_told g.H.Host m) c.args.state.now) c.args.serial)
    c.from_residual.result status c.from_residual.ensures.1
    (record {
      stage = Running;
      late = inl refl;
      refusal = c.in_err-leg.ensures.refused;
      of_run = λ before run course from.
          stopped-at g.H.Host n row before c.args.events.now run c.args.serial course status (c.in_err-leg.ensures.comes from.1 from.0 from.2 run (before.roles Transcript).put course from.3.sets_out from.3.course_is)
          (c.in_err-leg.ensures.moment from.1 from.0 from.2 run (before.roles Transcript).put course from.3.sets_out from.3.course_is);
    })

pub returns-in_err-next-clause-room : goal.returns-in_err-next-clause-room
returns-in_err-next-clause-room g c =
    let n = loom_told g.H.Host c.loom_leg.new.memory in
    let k = loom_told g.H.Host c.wind_up.new.memory in
    let row = row_for c.args.command.now in
    room-of g.H.Host c.wind_up.new.memory row (bounds-later row n.bounds k.bounds c.loom_leg.ensures.bounds c.wind_up.ensures.limits)

pub returns-in_err-next-clause-file : goal.returns-in_err-next-clause-file
returns-in_err-next-clause-file g c = λ work.
    file-then (g.H.Host.roles (loom_now c.args.memory.now) Work) (g.H.Host.roles (loom_now c.loom_leg.new.memory) Work) (g.H.Host.roles (loom_now c.wind_up.new.memory) Work) (c.loom_leg.ensures.file work) (c.wind_up.ensures.file work)

pub returns-in_err-next-clause-others : goal.returns-in_err-next-clause-others
returns-in_err-next-clause-others g c =
    leaves-then (roles_at Running) (meanings g.H.Host (loom_now c.args.memory.now)) (meanings g.H.Host (loom_now c.loom_leg.new.memory)) (meanings g.H.Host (loom_now c.wind_up.new.memory)) c.loom_leg.ensures.others c.wind_up.ensures.others

pub returns-in_err-next-clause-ends : goal.returns-in_err-next-clause-ends
returns-in_err-next-clause-ends g c =
    let m = c.args.memory.now in
    let n = c.loom_leg.new.memory in
    let k = c.wind_up.new.memory in
    let row = row_for c.args.command.now in
    let leg = c.in_ok-leg.leg in
    let status = c.in_err-next.field-0.0 in
    fault_exit (Halts g.H.Host.tells (meanings g.H.Host (loom_now m)) (meanings g.H.Host (loom_now k)) row c.args.events.now (FromMemory g.H.Host.tells row c.args.first c.args.events.now c.args.serial c.args.cpu.now (loom_told g.H.Host m) c.args.state.now) c.args.serial)
    c.from_residual-in_err-next.result status c.from_residual-in_err-next.ensures.1
    (record {
      stage = stage-of leg;
      late = late-of leg;
      refusal = refused-at leg g.H.Host.tells (meanings g.H.Host (loom_now m)) (meanings g.H.Host (loom_now k)) row status
          (refused-since g.H.Host.tells (meanings g.H.Host (loom_now m)) (meanings g.H.Host (loom_now n)) (meanings g.H.Host (loom_now k)) row Finishing status c.loom_leg.ensures.others.later c.in_err-next.ensures.refused);
      of_run = λ before run course from.
          unwound g.H.Host n row before c.args.events.now run c.args.serial c.loom_leg.new.cpu course from.1 from.3.whole from.3.course_is k c.wind_up.ensures.silent leg status
          (c.in_ok-leg.ensures.comes from.1 from.0 from.2 run (before.roles Transcript).put course from.3.sets_out from.3.course_is) c.loom_leg.ensures.few c.in_err-next.ensures.refused;
    })

pub returns-clause-room : goal.returns-clause-room
returns-clause-room g c =
    let n = loom_told g.H.Host c.loom_leg.new.memory in
    let k = loom_told g.H.Host c.wind_up.new.memory in
    let row = row_for c.args.command.now in
    room-of g.H.Host c.wind_up.new.memory row (bounds-later row n.bounds k.bounds c.loom_leg.ensures.bounds c.wind_up.ensures.limits)

pub returns-clause-file : goal.returns-clause-file
returns-clause-file g c = λ work.
    file-then (g.H.Host.roles (loom_now c.args.memory.now) Work) (g.H.Host.roles (loom_now c.loom_leg.new.memory) Work) (g.H.Host.roles (loom_now c.wind_up.new.memory) Work) (c.loom_leg.ensures.file work) (c.wind_up.ensures.file work)

pub returns-clause-others : goal.returns-clause-others
returns-clause-others g c =
    leaves-then (roles_at Running) (meanings g.H.Host (loom_now c.args.memory.now)) (meanings g.H.Host (loom_now c.loom_leg.new.memory)) (meanings g.H.Host (loom_now c.wind_up.new.memory)) c.loom_leg.ensures.others c.wind_up.ensures.others

pub returns-clause-leaves : goal.returns-clause-leaves
returns-clause-leaves g c =
    let n = c.loom_leg.new.memory in
    let k = c.wind_up.new.memory in
    let row = row_for c.args.command.now in (
      (loom_told g.H.Host n).heap,
      c.in_ok-next.ensures.ended,
      c.in_ok-next.ensures.image,
      λ before run course from.
          leg-leaves g.H.Host n row before c.args.events.now run c.args.serial c.loom_leg.new.cpu course from.1 from.3.whole from.3.course_is k c.wind_up.ensures.silent c.in_ok-leg.leg c.in_ok-leg.ensures.tick
          (c.in_ok-leg.ensures.comes from.1 from.0 from.2 run (before.roles Transcript).put course from.3.sets_out from.3.course_is) c.in_ok-leg.ensures.ready c.in_ok-leg.ensures.sound c.loom_leg.ensures.bounds (c.in_ok-next.ensures.image from.1),
    )
