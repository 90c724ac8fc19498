use Rattle.std.proofs.Common.{◌+◌, refl, sym, ◌∙◌, subst, arith}
use Rattle.blue_model.specs.declared.step.Step.TheVariants.{Next}
use Rattle.object_memory.proofs.LaterLaws.{IsLater-refl, IsLater-trans}
use Rattle.blue_model.proofs.EndingLaws.{goes_on}
use Rattle.machine_run.specs.Run.{Reaches}
use Rattle.machine_run.proofs.RunningLaws.{faults_earlier, reaches_start, reaches_on, reaches_end, stops_on, runs_exit, last_counted, never, faults_exit}
use Rattle.machine_run.proofs.running.run_observed.Goals as goal

pub loop-turn-init : goal.loop-turn-init
loop-turn-init g c = record {
  runs = λ told m st. reaches_start _ _ _ m st;
  ran = omega arith;
  first = λ none. refl;
  settled = λ some. absurd (omega arith);
  vault = λ may. may;
  later = IsLater-refl _;
  rest = c.requires.rest;
  fit = record { sound = c.requires.fit.sound; ready = c.requires.fit.ready };
  lender = refl;
  outside = refl;
}

pub settled_cycle-requires-clause-room : goal.settled_cycle-requires-clause-room
settled_cycle-requires-clause-room g c =
    let ran = c.loop-turn.invariant.ran in
    let few = c.loop-turn-test.true in
    let room = c.requires.room in
    omega arith

pub settled_cycle-requires-clause-rest : goal.settled_cycle-requires-clause-rest
settled_cycle-requires-clause-rest g c = c.loop-turn.invariant.rest

pub settled_cycle-requires-clause-fit : goal.settled_cycle-requires-clause-fit
settled_cycle-requires-clause-fit g c = c.loop-turn.invariant.fit

pub returns-in_err-step-clause-runs : goal.returns-in_err-step-clause-runs
returns-in_err-step-clause-runs g c = λ told m st.
    let here = c.loop-turn.invariant in
    let came = here.runs told m st in
    runs_exit _ c.from_residual.ensures.1 (stops_on _ _ _ _ _ _ c.loop-turn.turn c.args.steps m _ here.first here.settled c.loop-turn-test.true came (c.in_err-step.ensures.runs (here.later.tells ∙ told) came.machine came.stands))

pub returns-in_err-step-clause-fault : goal.returns-in_err-step-clause-fault
returns-in_err-step-clause-fault g c =
    let told = g.M.ObjectMemory.told in
    let stop = c.in_err-step.field-0.0 in
    faults_exit (told c.args.m.now) (told c.settled_cycle.new.m) stop c.from_residual.result c.from_residual.ensures.1 (faults_earlier (told c.args.m.now) (told c.loop-turn.m) (told c.settled_cycle.new.m) stop c.loop-turn.invariant.later c.in_err-step.ensures.fault)

pub returns-in_err-step-clause-few : goal.returns-in_err-step-clause-few
returns-in_err-step-clause-few g c =
    let ran = c.loop-turn.invariant.ran in
    let low = c.loop-turn-test.true in
    let few = c.in_err-step.ensures.few in
    omega arith

pub returns-in_err-step-clause-later : goal.returns-in_err-step-clause-later
returns-in_err-step-clause-later g c = IsLater-trans _ _ _ c.loop-turn.invariant.later c.in_err-step.ensures.later

pub loop-turn-preserved : goal.loop-turn-preserved
loop-turn-preserved g c =
    let here = c.loop-turn.invariant in
    let did = c.in_ok-step.ensures in
    record {
      runs = λ told m st.
          let on = goes_on _ (sym c.is_last.ensures ∙ c.if-is_last.false) in
          let came = here.runs told m st in
          reaches_on _ _ _ _ _ Next c.loop-turn.turn m came (rw on at (did.runs (here.later.tells ∙ told) came.machine came.stands));
      ran = (let before = here.ran in let counted = did.counted in omega arith);
      first = λ none. absurd (omega arith);
      settled = λ some. did.settled;
      vault = λ may. here.vault (did.vault may);
      later = IsLater-trans _ _ _ here.later did.later;
      rest = did.rest;
      fit = record { sound = did.fit.sound; ready = did.fit.ready };
      lender = did.fit.lender ∙ here.lender;
      outside = did.fit.outside ∙ here.outside;
    }

pub returns-clause-runs : goal.returns-clause-runs
returns-clause-runs g c = λ told m st. subst (λ k. Reaches c.args.events.now (g.M.ObjectMemory.told c.loop-turn.m) c.loop-turn.cpu Next k m) (omega (arith, c.loop-turn-test.false)) (c.loop-turn.invariant.runs told m st)

pub returns-clause-counted : goal.returns-clause-counted
returns-clause-counted g c = let ran = c.loop-turn.invariant.ran in omega (arith, c.loop-turn-test.false)

pub returns-clause-few : goal.returns-clause-few
returns-clause-few g c = let ran = c.loop-turn.invariant.ran in omega (arith, c.loop-turn-test.false)

pub returns-clause-settled : goal.returns-clause-settled
returns-clause-settled g c = λ some. c.loop-turn.invariant.settled (omega (arith, c.loop-turn-test.false))

pub returns-clause-keeps : goal.returns-clause-keeps
returns-clause-keeps g c = λ kept. never kept

pub returns-clause-later : goal.returns-clause-later
returns-clause-later g c = c.loop-turn.invariant.later

pub returns-clause-rest : goal.returns-clause-rest
returns-clause-rest g c = c.loop-turn.invariant.rest

pub returns-clause-fit : goal.returns-clause-fit
returns-clause-fit g c = let here = c.loop-turn.invariant in record { sound = here.fit.sound; ready = here.fit.ready; lender = here.lender; outside = here.outside }

pub returns-then-is_last-clause-runs : goal.returns-then-is_last-clause-runs
returns-then-is_last-clause-runs g c = λ told m st.
    let here = c.loop-turn.invariant in
    let few = c.loop-turn-test.true in
    let last = sym c.is_last.ensures ∙ c.if-is_last.true in
    let came = here.runs told m st in
    reaches_end _ _ _ _ (c.loop-turn.turn + 1) c.args.steps m last (omega arith) (reaches_on _ _ _ _ _ _ c.loop-turn.turn m came (c.in_ok-step.ensures.runs (here.later.tells ∙ told) came.machine came.stands))

pub returns-then-is_last-clause-counted : goal.returns-then-is_last-clause-counted
returns-then-is_last-clause-counted g c =
    let ran = c.loop-turn.invariant.ran in
    let few = c.loop-turn-test.true in
    let counted = c.in_ok-step.ensures.counted in
    last_counted _ _ _ (sym c.is_last.ensures ∙ c.if-is_last.true) (omega arith)

pub returns-then-is_last-clause-few : goal.returns-then-is_last-clause-few
returns-then-is_last-clause-few g c =
    let ran = c.loop-turn.invariant.ran in
    let few = c.loop-turn-test.true in
    let counted = c.in_ok-step.ensures.counted in
    omega arith

pub returns-then-is_last-clause-settled : goal.returns-then-is_last-clause-settled
returns-then-is_last-clause-settled g c = λ some. c.in_ok-step.ensures.settled

pub returns-then-is_last-clause-keeps : goal.returns-then-is_last-clause-keeps
returns-then-is_last-clause-keeps g c = λ kept. c.loop-turn.invariant.vault (c.in_ok-step.ensures.keeps kept)

pub returns-then-is_last-clause-later : goal.returns-then-is_last-clause-later
returns-then-is_last-clause-later g c = IsLater-trans _ _ _ c.loop-turn.invariant.later c.in_ok-step.ensures.later

pub returns-then-is_last-clause-rest : goal.returns-then-is_last-clause-rest
returns-then-is_last-clause-rest g c = c.in_ok-step.ensures.rest

pub returns-then-is_last-clause-fit : goal.returns-then-is_last-clause-fit
returns-then-is_last-clause-fit g c =
    let here = c.loop-turn.invariant in
    let did = c.in_ok-step.ensures.fit in
    record { sound = did.sound; ready = did.ready; lender = did.lender ∙ here.lender; outside = did.outside ∙ here.outside }
