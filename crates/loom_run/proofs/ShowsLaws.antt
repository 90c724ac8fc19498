-- What the promise gives of a trace that answers Done or Quit.
use Rattle.std.proofs.Common.{◌≡◌, ℕ, ◌++◌, Bool, List, None, true, refl, subst}
use Rattle.loom_host.specs.declared.outside.Role.{Role}
use Rattle.loom_host.specs.declared.outside.Role.TheVariants.{Image, Events, Saved, Transcript}
use Rattle.blue_model.specs.declared.step.Step.{Step}
use Rattle.blue_model.specs.declared.step.Step.TheVariants.{Next, Quit}
use Rattle.blue_model.specs.Logs.{said_after}
use Rattle.blue_model.specs.Machine.{Outcome, Go, Halt, Spent}
use Rattle.machine_run.specs.States.{model_state}
use Rattle.loom_run.specs.Ends.{MadeBy, bytes_of}
use Rattle.loom_run.specs.Meanings.{Meanings}
use Rattle.loom_run.specs.Promise.{Promise}
use Rattle.loom_run.specs.Shows.{HasShown, ShowsBy, TellsTrace}
use Rattle.loom_run.specs.Stages.{Stage, Opening, Reading, Listening, Making, Running, Finishing, Saving, Drawing, Telling}
use Rattle.loom_run.specs.Traced.{ComesTo, EndsTrace, TraceOf, TracesAt, TracesTo, lines_from, started}
use Rattle.loom_words.specs.Words.{Row, ToTrace, bad_word, trace_row_of, verb_of}
use Rattle.loom_words.specs.declared.status.Status.{Status}
use Rattle.loom_words.specs.declared.status.Status.TheVariants as answer

-- Done and Quit come at the last stage alone
pub done-traced : (stage : Stage) (ran : ℕ) → EndsTrace stage (answer.Done ran) → stage ≡ Telling
done-traced Opening ran h = absurd h
done-traced Reading ran h = absurd h
done-traced Listening ran h = absurd h
done-traced Making ran h = absurd h
done-traced Running ran h = absurd h
done-traced Finishing ran h = absurd h
done-traced Saving ran h = absurd h
done-traced Drawing ran h = absurd h
done-traced Telling ran h = refl

pub quit-traced : (stage : Stage) (ran : ℕ) → EndsTrace stage (answer.Quit ran) → stage ≡ Telling
quit-traced Opening ran h = absurd h
quit-traced Reading ran h = absurd h
quit-traced Listening ran h = absurd h
quit-traced Making ran h = absurd h
quit-traced Running ran h = absurd h
quit-traced Finishing ran h = absurd h
quit-traced Saving ran h = absurd h
quit-traced Drawing ran h = absurd h
quit-traced Telling ran h = refl

pub at-telling : {tells : Role → Bool} {before now : Meanings} {row : Row} {status : Status} (stage : Stage) → TracesAt tells before now row stage status → stage ≡ Telling → TracesAt tells before now row Telling status
at-telling {tells} {before} {now} {row} {status} stage at same = subst (λ s. TracesAt tells before now row s status) same at

-- a trace that went through, from the machine that was started
module _ (tells : Role → Bool) (before now : Meanings) (row : Row) (status : Status) (r : TraceOf (bytes_of (now.roles Image)) (bytes_of (now.roles Events)) (TracesTo tells before now row Telling status)) (ran : ℕ) (end : Step) where
  shown : (o : Outcome (Unit {0})) → started (model_state r.head.state) r.heap ≡ o → ComesTo r.lines row.steps end ran o → MadeBy true row.saved (lines_from r.lines ran o) (before.roles Saved) (now.roles Saved)
      → (now.roles Transcript).put ≡ (before.roles Transcript).put ++ said_after r.lines (model_state r.head.state) r.heap ran → HasShown before now row end ran
  shown (Go a first log) starts comes trace says = (
    r.head,
    r.heap,
    r.lines,
    first,
    comes.0,
    record { image = r.is; events = r.list; starts = (log, starts); runs = comes.1; count = comes.2; trace = trace; transcript = says },
  )
  shown (Halt c log) starts comes trace says = absurd comes
  shown (Spent log) starts comes trace says = absurd comes

  -- of as many bytecodes as the answer says
  shown-by : r.trace.completed ≡ ran → ComesTo r.lines row.steps end r.trace.completed (started (model_state r.head.state) r.heap) → MadeBy true row.saved (lines_from r.lines r.trace.completed (started (model_state r.head.state) r.heap)) (before.roles Saved) (now.roles Saved)
      → (now.roles Transcript).put ≡ (before.roles Transcript).put ++ said_after r.lines (model_state r.head.state) r.heap r.trace.completed → HasShown before now row end ran
  shown-by all comes made said =
      let o = started (model_state r.head.state) r.heap in
      shown o refl (subst (λ k. ComesTo r.lines row.steps end k o) all comes) (subst (λ k. MadeBy true row.saved (lines_from r.lines k o) (before.roles Saved) (now.roles Saved)) all made)
      (subst (λ k. (now.roles Transcript).put ≡ (before.roles Transcript).put ++ said_after r.lines (model_state r.head.state) r.heap k) all said)

pub shows_from : (tells : Role → Bool) (before now : Meanings) (words : List (List ℕ)) (result : Status) → TellsTrace tells → Promise tells before now words result → verb_of words ≡ ToTrace → bad_word words ≡ None → ShowsBy result before now (trace_row_of words)
shows_from tells before now words (answer.Done ran) told p asks right =
    let e = p.traces asks right in
    let at = at-telling e.0 e.1 (done-traced e.0 ran e.1.answer) in
    let r = at.trace told.image told.events told.work refl in
    shown-by tells before now (trace_row_of words) (answer.Done ran) r ran Next r.trace.counts (r.trace.goes refl) (r.trace.lines told.saved) (r.trace.says told.transcript)
shows_from tells before now words (answer.Quit ran) told p asks right =
    let e = p.traces asks right in
    let at = at-telling e.0 e.1 (quit-traced e.0 ran e.1.answer) in
    let r = at.trace told.image told.events told.work refl in
    shown-by tells before now (trace_row_of words) (answer.Quit ran) r ran Quit r.trace.counts (r.trace.goes refl) (r.trace.lines told.saved) (r.trace.says told.transcript)
shows_from tells before now words _ told p asks right = tt
