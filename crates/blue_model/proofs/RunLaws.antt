-- The law of thinning, for runs.
use Rattle.blue_model.specs.declared.event.Line.{Line}
use Rattle.std.proofs.Common.{◌≡◌, ℕ, zero, suc, refl, sym, ap, List}
use Rattle.long_names.specs.Heap.{Heap}
use Rattle.blue_model.specs.declared.step.Step.{Step}
use Rattle.blue_model.specs.declared.step.Step.TheVariants.{Next, Quit, Keep}
use Rattle.blue_model.specs.Machine.{Machine, Outcome, Go, Halt, Spent, at_rest}
use Rattle.blue_model.specs.State.{State, begin}
use Rattle.blue_model.specs.Cycle.{Run, Ran, Stopped, ByCause, run_of, one_more, run, parked, ended, run_from, ending, cycle, park_and_draw}
use Rattle.blue_model.specs.Law.{IsThinned, HasState, Agree, RespectsThinning, RunsAgree, EndingsAgree}
use Rattle.blue_model.proofs.LawSteps.{respects}
use Rattle.blue_model.proofs.TurnLaws.{law-cycle, law-park_and_draw}
use Rattle.blue_model.proofs.StateLaws.{begins-agree}

run_of-agree : (m s : Machine) (o p : Outcome Step) → IsThinned m s → Agree o p → RunsAgree (run_of m o) (run_of s p)
run_of-agree m s (Go a next log) (Go b then rows) t h = (h.0, h.2)
run_of-agree m s (Halt c log) (Halt d rows) t h = (ap (λ e. ByCause e) h.0, h.1, t)
run_of-agree m s (Spent log) (Spent rows) t h = (refl, h, t)
run_of-agree m s _ _ t h = absurd h

one_more-agree : (events : List Line) (a b : Run) → RespectsThinning (cycle events) → RunsAgree a b → RunsAgree (one_more events a) (one_more events b)
one_more-agree events (Ran Next m) (Ran Next s) law h = run_of-agree m s (cycle events m) (cycle events s) h.1 (law.agree m s h.1)
one_more-agree events (Ran Quit m) (Ran Quit s) law h = h
one_more-agree events (Ran Keep m) (Ran Keep s) law h = h
one_more-agree events (Ran Next m) (Ran Quit s) law h = let no : Next ≡ Quit = h.0 in absurd (cc)
one_more-agree events (Ran Quit m) (Ran Next s) law h = let no : Quit ≡ Next = h.0 in absurd (cc)
one_more-agree events (Ran Next m) (Ran Keep s) law h = let no : Next ≡ Keep = h.0 in absurd (cc)
one_more-agree events (Ran Keep m) (Ran Next s) law h = let no : Keep ≡ Next = h.0 in absurd (cc)
one_more-agree events (Ran Quit m) (Ran Keep s) law h = let no : Quit ≡ Keep = h.0 in absurd (cc)
one_more-agree events (Ran Keep m) (Ran Quit s) law h = let no : Keep ≡ Quit = h.0 in absurd (cc)
one_more-agree events (Stopped m why log) (Stopped s reason rows) law h = h
one_more-agree events _ _ law h = absurd h

runs : (events : List Line) (k : ℕ) (m s : Machine) → RespectsThinning (cycle events) → IsThinned m s → RunsAgree (run events k m) (run events k s)
unfolding run
runs events zero m s law h = (refl, h)
runs events (suc k) m s law h = one_more-agree events (run events k m) (run events k s) law (runs events k m s law h)

pub runs-agree : (events : List Line) (k : ℕ) (m s : Machine) → IsThinned m s → RunsAgree (run events k m) (run events k s)
runs-agree events k m s h = runs events k m s (respects (λ w. law-cycle {w = w} events)) h

-- ---- whole runs

ran_same : (m s : Machine) → IsThinned m s → m.cpu.ran ≡ s.cpu.ran
ran_same m s h = let same = h.cpu in cc

said_same : (m s : Machine) → IsThinned m s → m.transcript ≡ s.transcript
said_same m s h = sym h.transcript

parked-agree : (end last : Step) (m s : Machine) (o p : Outcome (List ℕ)) → end ≡ last → IsThinned m s → Agree o p → EndingsAgree (parked end m o) (parked last s p)
parked-agree end last m s (Go a next log) (Go b then rows) e t h = (e, h.0, h.2)
parked-agree end last m s (Halt c log) (Halt d rows) e t h = (ap (λ e. ByCause e) h.0, ran_same m s t, said_same m s t)
parked-agree end last m s (Spent log) (Spent rows) e t h = (refl, ran_same m s t, said_same m s t)
parked-agree end last m s _ _ e t h = absurd h

ended-agree : (a b : Run) → RespectsThinning park_and_draw → RunsAgree a b → EndingsAgree (ended a) (ended b)
ended-agree (Ran end m) (Ran last s) law h = parked-agree end last m s (park_and_draw m) (park_and_draw s) h.0 h.1 (law.agree m s h.1)
ended-agree (Stopped m why log) (Stopped s reason rows) law h = (h.0, ran_same m s h.2, said_same m s h.2)
ended-agree _ _ law h = absurd h

run_from-agree : (events : List Line) (k : ℕ) (o p : Outcome (Unit {0})) → Agree o p → EndingsAgree (run_from events k o) (run_from events k p)
run_from-agree events k (Go a m log) (Go b s rows) h = ended-agree (run events k m) (run events k s) (respects (λ w. law-park_and_draw {w = w})) (runs-agree events k m s h.2)
run_from-agree events k (Halt c log) (Halt d rows) h = (ap (λ e. ByCause e) h.0, refl, refl)
run_from-agree events k (Spent log) (Spent rows) h = (refl, refl, refl)
run_from-agree events k _ _ h = absurd h

pub endings-agree : (events : List Line) (k : ℕ) (state : State) (h s : Heap) → IsThinned (at_rest h) (at_rest s) → HasState state s → EndingsAgree (ending events k state h) (ending events k state s)
unfolding ending
endings-agree events k state h s t has = run_from-agree events k (begin state (at_rest h)) (begin state (at_rest s)) (begins-agree state (at_rest h) (at_rest s) t has)
