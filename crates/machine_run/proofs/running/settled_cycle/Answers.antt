use Rattle.std.proofs.Common.{inl, inr, ◌∙◌, arith}
use Rattle.blue_model.specs.declared.step.Step.{Step}
use Rattle.object_memory.proofs.LaterLaws.{IsLater-trans}
use Rattle.contexts.specs.declared.stop.Stop.TheVariants.{Mem}
use Rattle.machine_run.proofs.RunningLaws.{faulted, faults_earlier, settled_stands, settling_faulted, reaches_start, reaches_more, stops_in, stops_after, runs_exit, rest_stays, faults_exit}
use Rattle.machine_run.proofs.running.settled_cycle.Goals as goal

pub returns-in_err-step-clause-runs : goal.returns-in_err-step-clause-runs
returns-in_err-step-clause-runs g c = λ told m st. runs_exit _ c.from_residual.ensures.1 (inl (stops_in _ _ _ _ _ m _ told c.requires.fit.ready c.requires.rest c.in_err-step.ensures.kept st c.in_err-step.ensures.serves))

pub returns-in_err-step-clause-fault : goal.returns-in_err-step-clause-fault
returns-in_err-step-clause-fault g c =
    let told = g.M.ObjectMemory.told in
    let stop = c.in_err-step.field-0.0 in
    faults_exit (told c.args.m.now) (told c.cycle.new.m) stop c.from_residual.result c.from_residual.ensures.1 (faulted Step (told c.args.m.now) (told c.cycle.new.m) stop c.in_err-step.ensures.serves.reason)

pub returns-in_err-step-clause-few : goal.returns-in_err-step-clause-few
returns-in_err-step-clause-few g c = let kept = c.in_err-step.ensures.kept in omega arith

pub returns-in_err-step-clause-later : goal.returns-in_err-step-clause-later
returns-in_err-step-clause-later g c = c.in_err-step.ensures.serves.later

pub returns-in_err-settle-clause-runs : goal.returns-in_err-settle-clause-runs
returns-in_err-settle-clause-runs g c = λ told m st.
    let next = reaches_more _ _ _ _ _ _ 0 m told (reaches_start _ _ _ m st) c.in_ok-step.ensures.serves in
    runs_exit _ c.from_residual-in_err-settle.ensures.1 (inr (stops_after _ _ _ _ _ m _ (c.in_ok-step.ensures.serves.later.tells ∙ told) next c.in_err-settle.ensures.called))

pub returns-in_err-settle-clause-fault : goal.returns-in_err-settle-clause-fault
returns-in_err-settle-clause-fault g c =
    let told = g.M.ObjectMemory.told in
    let stop = Mem c.in_err-settle.field-0.0 in
    faults_exit (told c.args.m.now) (told c.settle.new.m) stop c.from_residual-in_err-settle.result c.from_residual-in_err-settle.ensures.1
    (faults_earlier (told c.args.m.now) (told c.cycle.new.m) (told c.settle.new.m) stop c.in_ok-step.ensures.serves.later (settling_faulted _ _ c.in_err-settle.field-0.0 c.in_err-settle.ensures.called))

pub returns-in_err-settle-clause-few : goal.returns-in_err-settle-clause-few
returns-in_err-settle-clause-few g c = let counted = c.in_ok-step.ensures.counted in omega arith

pub returns-in_err-settle-clause-later : goal.returns-in_err-settle-clause-later
returns-in_err-settle-clause-later g c = IsLater-trans _ _ _ c.in_ok-step.ensures.serves.later c.in_err-settle.ensures.called.later

pub returns-clause-runs : goal.returns-clause-runs
returns-clause-runs g c = λ told m st.
    let did = c.in_ok-step.ensures in
    let settled = c.in_ok-settle.ensures in
    let next = reaches_more _ _ _ _ _ _ 0 m told (reaches_start _ _ _ m st) did.serves in
    record { machine = next.machine; ran = next.ran; stands = settled_stands _ _ _ next.machine did.fit.ready settled.fit.ready settled.called (did.serves.later.tells ∙ told) next.stands }

pub returns-clause-few : goal.returns-clause-few
returns-clause-few g c = let counted = c.in_ok-step.ensures.counted in omega arith

pub returns-clause-vault : goal.returns-clause-vault
returns-clause-vault g c = c.in_ok-step.ensures.serves.vault

pub returns-clause-later : goal.returns-clause-later
returns-clause-later g c = IsLater-trans _ _ _ c.in_ok-step.ensures.serves.later c.in_ok-settle.ensures.called.later

pub returns-clause-rest : goal.returns-clause-rest
returns-clause-rest g c = rest_stays _ _ c.in_ok-settle.ensures.called.ok.regs c.in_ok-step.ensures.rest

pub returns-clause-fit : goal.returns-clause-fit
returns-clause-fit g c =
    let did = c.in_ok-step.ensures.fit in
    let settled = c.in_ok-settle.ensures.fit in
    record { sound = settled.sound; ready = settled.ready; lender = settled.lender ∙ did.lender; outside = settled.outside ∙ did.outside }
