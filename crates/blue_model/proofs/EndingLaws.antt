-- How runs of the model end: a run that ended or stopped stays so, and what stopped a start, a cycle or a park is why the whole run is
-- stuck.
use Rattle.std.proofs.Common.{zero, suc, ◌≡◌, ℕ, ◌<◌, ◌≤◌, nat_lt, Bool, true, false, List, [], Option, Some, None, refl, sym, ◌∙◌, ap, arith}
use borrow.Author.Tests.{ltb-true, ltb-false}
use Rattle.blue_model.specs.declared.event.Line.{Line}
use Rattle.blue_model.specs.declared.step.Step.{Step}
use Rattle.blue_model.specs.declared.step.Step.TheVariants.{Next, Quit, Keep}
use Rattle.blue_model.specs.Machine.{Machine, LogRow, Outcome, Go, Halt, Spent, log_of}
use Rattle.blue_model.specs.Cycle.{Ran, Stopped, Stopping, ByCause, BySpentNames, Ending, Parked, Stuck, run_of, one_more, run, parked, run_from, cycle}
use Rattle.blue_model.specs.Endings.{IsParked, IsParkedBy, IsStuckBy, is_last}

-- ---- runs that ended

-- a run that its last bytecode ended stays so
last_more : (events : List Line) (end : Step) (n : Machine) → is_last end ≡ true → one_more events (Ran end n) ≡ Ran end n
last_more events Next n e = absurd (cc)
last_more events Quit n e = refl
last_more events Keep n e = refl

pub last_stays : (events : List Line) (k done : ℕ) (end : Step) (m n : Machine) → is_last end ≡ true → run events done m ≡ Ran end n → done ≤ k → run events k m ≡ Ran end n
unfolding run
last_stays events zero done end m n last e low = let same : done ≡ 0 = omega arith in ap (λ i. run events i m) (sym same) ∙ e
last_stays events (suc k) done end m n last e low = go (nat_lt k done) refl (λ few. last_stays events k done end m n last e few)
  where
    go : (b : Bool) → nat_lt k done ≡ b → (done ≤ k → run events k m ≡ Ran end n) → one_more events (run events k m) ≡ Ran end n
    go true g before =
        let high = ltb-true k done g in
        let same : done ≡ suc k = omega arith in
        ap (λ i. run events i m) (sym same) ∙ e
    go false g before = let few = ltb-false k done g in ap (one_more events) (before few) ∙ last_more events end n last

-- a machine that hasn't ended goes on
pub goes_on : (end : Step) → is_last end ≡ false → end ≡ Next
goes_on Next e = refl
goes_on Quit e = absurd (cc)
goes_on Keep e = absurd (cc)

-- ---- runs that stopped

-- why an outcome stopped
abbrev pub stopping_of : {A : Type 0} → Outcome A → Option Stopping
stopping_of (Go a m log) = None
stopping_of (Halt c log) = Some (ByCause c)
stopping_of (Spent log) = Some BySpentNames

-- a run that stopped in a cycle stays so
pub run_stopped : (events : List Line) (k done : ℕ) (m n : Machine) (why : Stopping) (log : List LogRow) → run events done m ≡ Ran Next n → run_of n (cycle events n) ≡ Stopped n why log → done < k → run events k m ≡ Stopped n why log
unfolding run
run_stopped events zero done m n why log e f low = absurd (omega arith)
run_stopped events (suc k) done m n why log e f low = go (nat_lt done k) refl (λ below. run_stopped events k done m n why log e f below)
  where
    go : (b : Bool) → nat_lt done k ≡ b → (done < k → run events k m ≡ Stopped n why log) → one_more events (run events k m) ≡ Stopped n why log
    go true g next = ap (one_more events) (next (ltb-true done k g))
    go false g next =
        let high = ltb-false done k g in
        let same : done ≡ k = omega arith in
        ap (one_more events) (ap (λ i. run events i m) (sym same) ∙ e) ∙ f

pub stopped_by : (n : Machine) (o : Outcome Step) (why : Stopping) → stopping_of o ≡ Some why → run_of n o ≡ Stopped n why (log_of o)
stopped_by n (Go a m log) why e = absurd (cc)
stopped_by n (Halt c log) why e = let same : ByCause c ≡ why = cc in ap (λ x. Stopped n x log) same
stopped_by n (Spent log) why e = let same : BySpentNames ≡ why = cc in ap (λ x. Stopped n x log) same

pub parked_by : (end : Step) (m : Machine) (o : Outcome (List ℕ)) (why : Stopping) → stopping_of o ≡ Some why → parked end m o ≡ Stuck why m.cpu.ran m.transcript
parked_by end m (Go a n log) why e = absurd (cc)
parked_by end m (Halt c log) why e = let same : ByCause c ≡ why = cc in ap (λ x. Stuck x m.cpu.ran m.transcript) same
parked_by end m (Spent log) why e = let same : BySpentNames ≡ why = cc in ap (λ x. Stuck x m.cpu.ran m.transcript) same

pub started_by : (events : List Line) (steps : ℕ) (o : Outcome (Unit {0})) (why : Stopping) → stopping_of o ≡ Some why → run_from events steps o ≡ Stuck why 0 []
started_by events steps (Go a n log) why e = absurd (cc)
started_by events steps (Halt c log) why e = let same : ByCause c ≡ why = cc in ap (λ x. Stuck x 0 []) same
started_by events steps (Spent log) why e = let same : BySpentNames ≡ why = cc in ap (λ x. Stuck x 0 []) same

-- ---- one or the other

-- a run that goes through isn't stuck
pub not_stuck : (why : Stopping) (ran : ℕ) (e : Ending) → IsParked e → IsStuckBy why ran e → ⊥
not_stuck why ran (Parked end m drawn) parked stuck = stuck
not_stuck why ran (Stuck reason count said) parked stuck = parked

pub parked_of : (end : Step) (ran : ℕ) (run : Ending) → IsParkedBy end ran run → IsParked run
parked_of end ran (Parked last m drawn) parked = tt
parked_of end ran (Stuck why count said) parked = parked
