-- What a whole run of the model comes to, at a cycle, at its start and at its end.
-- `course_from` has the course of a machine by what its beginning came to; of the machine at rest after something was said it is the
-- course of the heap with that in front (`course_begun`). The laws here say what its said, rows and lives are at the bytecode where a
-- run over a memory stopped.
use Rattle.std.proofs.Common.{zero, suc, ◌≡◌, ℕ, ◌+◌, ◌<◌, ◌≤◌, nat_lt, nat_le, Bool, true, false, cond, eqb, Some, List, [], ◌∷◌, ◌++◌, inl, inr, refl, ◌∙◌, ap, arith, le-leb}
use borrow.Author.Tests.{ltb-true, ltb-false}
use Rattle.std.proofs.lemmas.Grind.{common_steps}
use Rattle.long_names.specs.Heap.{Heap}
use Rattle.object_memory.specs.declared.fault.Need.{Need}
use Rattle.blue_model.specs.declared.event.Line.{Line}
use Rattle.blue_model.specs.declared.step.Step.{Step}
use Rattle.blue_model.specs.declared.step.Step.TheVariants.{Next, Quit, Keep}
use Rattle.blue_model.specs.Machine.{Machine, LogRow, Outcome, Go, Halt, Spent, log_of}
use Rattle.blue_model.specs.State.{State, begin}
use Rattle.blue_model.specs.Cycle.{Stopping, ByCause, BySpentNames, Stuck, Ran, run_of, one_more, run, cycle, park_and_draw}
use Rattle.blue_model.specs.Earlier.{course_with_earlier, ending_of, spoken_in, at_rest_after}
use Rattle.blue_model.specs.Logs.{Course, course, said_by, rows_after, rows_from, lives, lives_by, lives_from}
use Rattle.blue_model.proofs.StartLaws.{begin_leaves}
use Rattle.blue_model.proofs.EndingLaws.{stopping_of}
use Rattle.blue_model.proofs.EarlierLaws.{course_after}
use Rattle.blue_model.proofs.CountLaws.{runs_count, came_at}
use Rattle.contexts.specs.Serves.{IsLogged}

-- by what the beginning came to
abbrev pub course_from : List Line → ℕ → Machine → Outcome (Unit {0}) → Course
course_from events steps before o = record { ending = ending_of events steps before o; said = λ k. spoken_in events k before o; rows = λ k. rows_from events steps k o; lives = λ k. lives_from events steps k o }

pub course_begun : (z : List ℕ) (events : List Line) (steps : ℕ) (state : State) (h : Heap) → course_from events steps (at_rest_after z h) (begin state (at_rest_after z h)) ≡ course_with_earlier z (course events steps state h)
course_begun z events steps state h = course_after z events steps state h

-- a beginning that stopped
pub stopped_at_start : (events : List Line) (steps : ℕ) (before : Machine) (o : Outcome (Unit {0})) (why : Stopping) → stopping_of o ≡ Some why → ending_of events steps before o ≡ Stuck why 0 before.transcript
stopped_at_start events steps before (Go u m log) why e = absurd (cc)
stopped_at_start events steps before (Halt c log) why e = let same : ByCause c ≡ why = cc in ap (λ x. Stuck x 0 before.transcript) same
stopped_at_start events steps before (Spent log) why e = let same : BySpentNames ≡ why = cc in ap (λ x. Stuck x 0 before.transcript) same

-- ---- rows behind others

pub logged_behind : (need : Need) (xs ys : List LogRow) → IsLogged need ys → IsLogged need (xs ++ ys)
logged_behind need [] ys h = h
logged_behind need (x ∷ xs) ys h = inr (logged_behind need xs ys h)

pub logged_before : (need : Need) (xs ys : List LogRow) → IsLogged need xs → IsLogged need (xs ++ ys)
logged_before need [] ys h = absurd h
logged_before need (x ∷ xs) ys (inl h) = inl h
logged_before need (x ∷ xs) ys (inr h) = inr (logged_before need xs ys h)

-- ---- tests of numbers

below_by : (a b : ℕ) → a < b → nat_lt a b ≡ true
below_by a b low = go (nat_lt a b) refl
  where
    go : (x : Bool) → nat_lt a b ≡ x → nat_lt a b ≡ true
    go true e = e
    go false e = let high = ltb-false a b e in absurd (omega arith)

above_by : (a b : ℕ) → b ≤ a → nat_lt a b ≡ false
above_by a b high = go (nat_lt a b) refl
  where
    go : (x : Bool) → nat_lt a b ≡ x → nat_lt a b ≡ false
    go false e = e
    go true e = let low = ltb-true a b e in absurd (omega arith)

same_by : (a : ℕ) → eqb a a ≡ true
same_by a = grind (arith, common_steps)

-- ---- at a cycle

pub rows_at_cycle : (events : List Line) (steps k : ℕ) (m n : Machine) → run events k m ≡ Ran Next n → k < steps → rows_after events steps k (run events k m) ≡ log_of (cycle events n)
rows_at_cycle events steps k m n e low = ap (rows_after events steps k) e ∙ ap (λ b. cond b (log_of (cycle events n)) (cond (eqb k steps) (log_of (park_and_draw n)) [])) (below_by k steps low)

pub lives_at_cycle : (events : List Line) (steps k : ℕ) (m n : Machine) → run events k m ≡ Ran Next n → k < steps → lives_by events steps k (run events k m) ≡ lives events n
lives_at_cycle events steps k m n e low = ap (lives_by events steps k) e ∙ ap (λ b. cond b (lives events n) []) (below_by k steps low)

pub next_cycle : (events : List Line) (k : ℕ) (m n : Machine) → run events k m ≡ Ran Next n → run events (k + 1) m ≡ run_of n (cycle events n)
unfolding run
next_cycle events k m n e = ap (λ i. run events i m) (next k) ∙ ap (one_more events) e
  where
    next : (k : ℕ) → k + 1 ≡ suc k
    next k = omega arith

-- so many cycles, and then more
pub run_on : (events : List Line) (j k : ℕ) (m n : Machine) → run events j m ≡ Ran Next n → run events (j + k) m ≡ run events k n
unfolding run
run_on events j zero m n e = ap (λ i. run events i m) (let none : j + 0 ≡ j = omega arith in none) ∙ e
run_on events j (suc k) m n e = ap (λ i. run events i m) (let next : j + suc k ≡ suc (j + k) = omega arith in next) ∙ ap (one_more events) (run_on events j k m n e)

-- ---- at the start

pub said_at_start : (events : List Line) (state : State) (before : Machine) → spoken_in events 0 before (begin state before) ≡ before.transcript
unfolding run
said_at_start events state before = go (begin state before) refl
  where
    go : (o : Outcome (Unit {0})) → begin state before ≡ o → spoken_in events 0 before o ≡ before.transcript
    go (Go u m log) e = (begin_leaves state before m log e).1
    go (Halt c log) e = refl
    go (Spent log) e = refl

pub rows_at_start : (events : List Line) (steps : ℕ) (o : Outcome (Unit {0})) (need : Need) → IsLogged need (log_of o) → IsLogged need (rows_from events steps 0 o)
rows_at_start events steps (Go u m log) need h = logged_before need log (rows_after events steps 0 (run events 0 m)) h
rows_at_start events steps (Halt c log) need h = h
rows_at_start events steps (Spent log) need h = h

-- ---- at the end

pub rows_at_end : (events : List Line) (steps : ℕ) (end : Step) (m n : Machine) → m.cpu.ran ≡ 0 → run events steps m ≡ Ran end n → rows_after events steps n.cpu.ran (run events n.cpu.ran m) ≡ log_of (park_and_draw n)
rows_at_end events steps end m n fresh e = ap (rows_after events steps n.cpu.ran) (came_at events steps end m n fresh e).1 ∙ go end e
  where
    few : nat_le n.cpu.ran steps ≡ true
    few = le-leb n.cpu.ran steps (came_at events steps end m n fresh e).0

    last : cond (nat_le n.cpu.ran steps) (cond (eqb n.cpu.ran n.cpu.ran) (log_of (park_and_draw n)) []) [] ≡ log_of (park_and_draw n)
    last = ap (λ b. cond b (cond (eqb n.cpu.ran n.cpu.ran) (log_of (park_and_draw n)) []) []) few ∙ ap (λ b. cond b (log_of (park_and_draw n)) []) (same_by n.cpu.ran)

    go : (end : Step) → run events steps m ≡ Ran end n → rows_after events steps n.cpu.ran (Ran end n) ≡ log_of (park_and_draw n)
    go Next f =
        let all = runs_count events steps m n f in
        let same : n.cpu.ran ≡ steps = omega arith in
        ap (λ k. rows_after events steps k (Ran Next n)) same
        ∙ ap (λ b. cond b (log_of (cycle events n)) (cond (eqb steps steps) (log_of (park_and_draw n)) [])) (above_by steps steps (omega arith))
        ∙ ap (λ b. cond b (log_of (park_and_draw n)) []) (same_by steps)
    go Quit f = last
    go Keep f = last

pub said_at_end : (events : List Line) (k : ℕ) (end : Step) (m n : Machine) → m.cpu.ran ≡ 0 → run events k m ≡ Ran end n → said_by (run events n.cpu.ran m) ≡ n.transcript
said_at_end events k end m n fresh e = ap said_by (came_at events k end m n fresh e).1
