use Rattle.std.proofs.Common.{◌+◌, refl, sym, ◌∙◌, subst, arith}
use Rattle.std.specs.Prelude.{IfErr}
use Rattle.object_memory.proofs.LaterLaws.{IsLater-refl, IsLater-trans}
use Rattle.blue_model.specs.declared.step.Step.TheVariants.{Next}
use Rattle.blue_model.proofs.EndingLaws.{goes_on}
use Rattle.loom_host.specs.declared.outside.Role.TheVariants.{Saved}
use Rattle.loom_memory.specs.Memory.{loom_outside, loom_told}
use Rattle.machine_run.specs.Run.{Reaches}
use Rattle.machine_run.proofs.RunningLaws.{last_counted, never, reaches_end, reaches_on, reaches_start}
use Rattle.loom_run.specs.Traces.{EndsBy, HasTraced, TraceFit, TracesAs}
use Rattle.loom_run.proofs.TraceLaws.{ends-earlier, exit-by, fit-earlier, lines-none, lines-on, only-same, traced-all, traced-on, traces-on}
use Rattle.loom_run.proofs.tracing.trace.Goals as goal

pub loop-turn-init : goal.loop-turn-init
loop-turn-init g c = record {
  runs = λ work m st. reaches_start _ _ _ m st;
  lines = λ work saved m st. lines-none _ m _;
  ran = omega arith;
  first = λ none. refl;
  settled = λ some. absurd (omega arith);
  vault = λ may. may;
  later = IsLater-refl _;
  rest = c.requires.rest;
  fit = record { sound = c.requires.fit.sound; ready = c.requires.fit.ready };
  lender = refl;
  others = λ role other. refl;
  faults = omega arith;
  only = λ saved. only-same _ _ refl;
}

pub trace_cycle-requires-clause-room : goal.trace_cycle-requires-clause-room
trace_cycle-requires-clause-room g c =
    let ran = c.loop-turn.invariant.ran in
    let few = c.loop-turn-test.true in
    let room = c.requires.room in
    omega arith

pub trace_cycle-requires-clause-rest : goal.trace_cycle-requires-clause-rest
trace_cycle-requires-clause-rest g c = c.loop-turn.invariant.rest

pub trace_cycle-requires-clause-fit : goal.trace_cycle-requires-clause-fit
trace_cycle-requires-clause-fit g c = c.loop-turn.invariant.fit

-- ---- a cycle was refused

pub returns-in_err-end-clause-traces : goal.returns-in_err-end-clause-traces
returns-in_err-end-clause-traces g c = λ work m st.
    let host = g.H.Host in
    let here = c.loop-turn.invariant in
    let came = here.runs work m st in
    exit-by (λ r. TracesAs c.args.events.now (loom_told host c.args.m.now) (loom_told host c.trace_cycle.new.m) c.trace_cycle.new.cpu c.args.steps m r) _ c.from_residual.result c.from_residual.ensures.1
    (traces-on c.args.events.now (loom_told host c.args.m.now) (loom_told host c.loop-turn.m) (loom_told host c.trace_cycle.new.m) _ c.trace_cycle.new.cpu c.loop-turn.turn c.args.steps m c.in_err-end.field-0.0 here.first here.settled c.loop-turn-test.true came (c.in_err-end.ensures.traces work came.machine came.stands))

pub returns-in_err-end-clause-lines : goal.returns-in_err-end-clause-lines
returns-in_err-end-clause-lines g c = λ work saved m st.
    let host = g.H.Host in
    let here = c.loop-turn.invariant in
    let came = here.runs work m st in
    exit-by (λ r. HasTraced c.args.events.now r c.args.cpu.now.ran c.trace_cycle.new.cpu.ran m (loom_outside host c.args.m.now Saved).role (loom_outside host c.trace_cycle.new.m Saved).role) _ c.from_residual.result c.from_residual.ensures.1
    (traced-on _ _ _ _ _ c.loop-turn.turn m came.machine _ _ _ came.ran here.ran (here.lines work saved m st) (c.in_err-end.ensures.lines work saved came.machine came.stands))

pub returns-in_err-end-clause-cause : goal.returns-in_err-end-clause-cause
returns-in_err-end-clause-cause g c =
    let host = g.H.Host in
    let here = c.loop-turn.invariant in
    let old = c.args.m.now in
    let mid = c.loop-turn.m in
    let new = c.trace_cycle.new.m in
    exit-by (λ r. IfErr r (EndsBy (loom_told host old) (loom_told host new) (loom_outside host old Saved).faults (loom_outside host new Saved).faults)) _ c.from_residual.result c.from_residual.ensures.1
    (ends-earlier (loom_told host old) (loom_told host mid) (loom_told host new) (loom_outside host old Saved).faults (loom_outside host mid Saved).faults (loom_outside host new Saved).faults c.in_err-end.field-0.0 here.later here.faults c.in_err-end.ensures.cause)

pub returns-in_err-end-clause-few : goal.returns-in_err-end-clause-few
returns-in_err-end-clause-few g c =
    let ran = c.loop-turn.invariant.ran in
    let low = c.loop-turn-test.true in
    let few = c.in_err-end.ensures.few in
    omega arith

pub returns-in_err-end-clause-later : goal.returns-in_err-end-clause-later
returns-in_err-end-clause-later g c = IsLater-trans _ _ _ c.loop-turn.invariant.later c.in_err-end.ensures.later

pub returns-in_err-end-clause-fit : goal.returns-in_err-end-clause-fit
returns-in_err-end-clause-fit g c =
    let host = g.H.Host in
    let here = c.loop-turn.invariant in
    exit-by (λ r. TraceFit host c.args.m.now c.trace_cycle.new.m r) _ c.from_residual.result c.from_residual.ensures.1
    (fit-earlier host c.args.m.now c.loop-turn.m c.trace_cycle.new.m _ here.others here.lender here.faults here.only c.in_err-end.ensures.fit)

-- ---- and one more

pub loop-turn-preserved : goal.loop-turn-preserved
loop-turn-preserved g c =
    let host = g.H.Host in
    let here = c.loop-turn.invariant in
    let did = c.in_ok-end.ensures in
    let on = goes_on _ (sym c.is_last.ensures ∙ c.if-is_last.false) in
    let fit = fit-earlier host c.args.m.now c.loop-turn.m c.trace_cycle.new.m _ here.others here.lender here.faults here.only did.fit in
    record {
      runs = λ work m st.
          let came = here.runs work m st in
          reaches_on _ _ _ _ _ Next c.loop-turn.turn m came (rw on at (did.traces work came.machine came.stands));
      lines = λ work saved m st.
          let came = here.runs work m st in
          lines-on _ _ _ c.loop-turn.turn m came.machine _ _ _ came.ran (here.lines work saved m st) did.counted (rw on at (did.lines work saved came.machine came.stands));
      ran = (let before = here.ran in let counted = did.counted in omega arith);
      first = λ none. absurd (omega arith);
      settled = λ some. did.settled;
      vault = λ may. here.vault (did.vault may);
      later = IsLater-trans _ _ _ here.later did.later;
      rest = did.rest;
      fit = record { sound = fit.sound; ready = fit.ready };
      lender = fit.lender;
      others = fit.others;
      faults = fit.faults;
      only = fit.only;
    }

-- ---- all of them

pub returns-clause-traces : goal.returns-clause-traces
returns-clause-traces g c = λ work m st. subst (λ k. Reaches c.args.events.now (loom_told g.H.Host c.loop-turn.m) c.loop-turn.cpu Next k m) (omega (arith, c.loop-turn-test.false)) (c.loop-turn.invariant.runs work m st)

pub returns-clause-lines : goal.returns-clause-lines
returns-clause-lines g c = λ work saved m st. traced-all _ Next _ _ c.loop-turn.turn m _ _ c.loop-turn.invariant.ran (c.loop-turn.invariant.lines work saved m st)

pub returns-clause-counted : goal.returns-clause-counted
returns-clause-counted g c = let ran = c.loop-turn.invariant.ran in omega (arith, c.loop-turn-test.false)

pub returns-clause-few : goal.returns-clause-few
returns-clause-few g c = let ran = c.loop-turn.invariant.ran in omega (arith, c.loop-turn-test.false)

pub returns-clause-settled : goal.returns-clause-settled
returns-clause-settled g c = λ some. c.loop-turn.invariant.settled (omega (arith, c.loop-turn-test.false))

pub returns-clause-keeps : goal.returns-clause-keeps
returns-clause-keeps g c = λ kept. never kept

pub returns-clause-later : goal.returns-clause-later
returns-clause-later g c = c.loop-turn.invariant.later

pub returns-clause-rest : goal.returns-clause-rest
returns-clause-rest g c = c.loop-turn.invariant.rest

pub returns-clause-fit : goal.returns-clause-fit
returns-clause-fit g c = let here = c.loop-turn.invariant in record { sound = here.fit.sound; ready = here.fit.ready; lender = here.lender; others = here.others; faults = here.faults; only = here.only }

-- ---- the last one

pub returns-then-is_last-clause-traces : goal.returns-then-is_last-clause-traces
returns-then-is_last-clause-traces g c = λ work m st.
    let here = c.loop-turn.invariant in
    let few = c.loop-turn-test.true in
    let last = sym c.is_last.ensures ∙ c.if-is_last.true in
    let came = here.runs work m st in
    reaches_end _ _ _ _ (c.loop-turn.turn + 1) c.args.steps m last (omega arith) (reaches_on _ _ _ _ _ _ c.loop-turn.turn m came (c.in_ok-end.ensures.traces work came.machine came.stands))

pub returns-then-is_last-clause-lines : goal.returns-then-is_last-clause-lines
returns-then-is_last-clause-lines g c = λ work saved m st.
    let here = c.loop-turn.invariant in
    let came = here.runs work m st in
    traced-on _ _ _ _ _ c.loop-turn.turn m came.machine _ _ _ came.ran here.ran (here.lines work saved m st) (c.in_ok-end.ensures.lines work saved came.machine came.stands)

pub returns-then-is_last-clause-counted : goal.returns-then-is_last-clause-counted
returns-then-is_last-clause-counted g c =
    let ran = c.loop-turn.invariant.ran in
    let few = c.loop-turn-test.true in
    let counted = c.in_ok-end.ensures.counted in
    last_counted _ _ _ (sym c.is_last.ensures ∙ c.if-is_last.true) (omega arith)

pub returns-then-is_last-clause-few : goal.returns-then-is_last-clause-few
returns-then-is_last-clause-few g c =
    let ran = c.loop-turn.invariant.ran in
    let few = c.loop-turn-test.true in
    let counted = c.in_ok-end.ensures.counted in
    omega arith

pub returns-then-is_last-clause-settled : goal.returns-then-is_last-clause-settled
returns-then-is_last-clause-settled g c = λ some. c.in_ok-end.ensures.settled

pub returns-then-is_last-clause-keeps : goal.returns-then-is_last-clause-keeps
returns-then-is_last-clause-keeps g c = λ kept. c.loop-turn.invariant.vault (c.in_ok-end.ensures.keeps kept)

pub returns-then-is_last-clause-later : goal.returns-then-is_last-clause-later
returns-then-is_last-clause-later g c = IsLater-trans _ _ _ c.loop-turn.invariant.later c.in_ok-end.ensures.later

pub returns-then-is_last-clause-rest : goal.returns-then-is_last-clause-rest
returns-then-is_last-clause-rest g c = c.in_ok-end.ensures.rest

pub returns-then-is_last-clause-fit : goal.returns-then-is_last-clause-fit
returns-then-is_last-clause-fit g c =
    let here = c.loop-turn.invariant in
    fit-earlier g.H.Host c.args.m.now c.loop-turn.m c.trace_cycle.new.m _ here.others here.lender here.faults here.only c.in_ok-end.ensures.fit
