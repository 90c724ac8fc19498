-- What was said before changes nothing in a run, and stands in front of all that a whole run says.
use Rattle.std.proofs.Common.{◌≡◌, ℕ, ◌==◌, zero, suc, nat_lt, nat_le, List, [], ◌++◌, refl, sym, ◌∙◌, ap}
use Rattle.std.specs.Prelude.{if◌then◌else◌}
use Rattle.std.proofs.lemmas.List.{append-nil}
use Rattle.std.proofs.Math.Path.{fun_ext}
use Rattle.long_names.specs.Heap.{Heap}
use Rattle.blue_model.specs.declared.event.Line.{Line}
use Rattle.blue_model.specs.declared.step.Step.{Step}
use Rattle.blue_model.specs.declared.step.Step.TheVariants.{Next, Quit, Keep}
use Rattle.blue_model.specs.Machine.{Machine, Outcome, Go, Halt, Spent, log_of, at_rest}
use Rattle.blue_model.specs.State.{State, begin}
use Rattle.blue_model.specs.Cycle.{cycle, Run, Ran, Stopped, run_of, one_more, run, park_and_draw, Ending, Parked, Stuck, parked, ended, run_from, ending}
use Rattle.blue_model.specs.Logs.{lives_after, lives, living, rows_after, rows_from, rows_of_bytecode, lives_by, lives_from, lives_in_bytecode, said_by, said_from, said_after, Course, course}
use Rattle.blue_model.specs.Endings.{said_in}
use Rattle.blue_model.specs.Earlier.{with_earlier, outcome_with_earlier, run_with_earlier, ending_with_earlier, course_with_earlier, ending_of, spoken_in, course_of, at_rest_after}
use Rattle.blue_model.proofs.EarlierTurns.{ignores-cycle, ignores-begin, ignores-park_and_draw}

-- ---- runs

earlier_run_of : (z : List ℕ) (m : Machine) (o : Outcome Step) → run_of (with_earlier z m) (outcome_with_earlier z o) ≡ run_with_earlier z (run_of m o)
earlier_run_of z m (Go end next log) = refl
earlier_run_of z m (Halt c log) = refl
earlier_run_of z m (Spent log) = refl

earlier_more : (events : List Line) (z : List ℕ) (r : Run) → one_more events (run_with_earlier z r) ≡ run_with_earlier z (one_more events r)
earlier_more events z (Ran Next m) = ap (run_of (with_earlier z m)) ((ignores-cycle events).same z m) ∙ earlier_run_of z m (cycle events m)
earlier_more events z (Ran Quit m) = refl
earlier_more events z (Ran Keep m) = refl
earlier_more events z (Stopped m why log) = refl

pub earlier_run : (events : List Line) (k : ℕ) (z : List ℕ) (m : Machine) → run events k (with_earlier z m) ≡ run_with_earlier z (run events k m)
unfolding run
earlier_run events zero z m = refl
earlier_run events (suc k) z m = ap (one_more events) (earlier_run events k z m) ∙ earlier_more events z (run events k m)

-- ---- parts of a course

same_log : {A : Type 0} (z : List ℕ) (o : Outcome A) → log_of (outcome_with_earlier z o) ≡ log_of o
same_log z (Go a m log) = refl
same_log z (Halt c log) = refl
same_log z (Spent log) = refl

earlier_parked : (z : List ℕ) (end : Step) (m : Machine) (o : Outcome (List ℕ)) → parked end (with_earlier z m) (outcome_with_earlier z o) ≡ ending_with_earlier z (parked end m o)
earlier_parked z end m (Go bytes next log) = refl
earlier_parked z end m (Halt c log) = refl
earlier_parked z end m (Spent log) = refl

earlier_ended : (z : List ℕ) (r : Run) → ended (run_with_earlier z r) ≡ ending_with_earlier z (ended r)
earlier_ended z (Ran end m) = ap (parked end (with_earlier z m)) (ignores-park_and_draw.same z m) ∙ earlier_parked z end m (park_and_draw m)
earlier_ended z (Stopped m why log) = refl

earlier_said : (z : List ℕ) (r : Run) → said_by (run_with_earlier z r) ≡ z ++ said_by r
earlier_said z (Ran end m) = refl
earlier_said z (Stopped m why log) = refl

cycle_log : (events : List Line) (z : List ℕ) (m : Machine) → log_of (cycle events (with_earlier z m)) ≡ log_of (cycle events m)
cycle_log events z m = ap log_of ((ignores-cycle events).same z m) ∙ same_log z (cycle events m)

draw_log : (z : List ℕ) (m : Machine) → log_of (park_and_draw (with_earlier z m)) ≡ log_of (park_and_draw m)
draw_log z m = ap log_of (ignores-park_and_draw.same z m) ∙ same_log z (park_and_draw m)

earlier_rows : (events : List Line) (steps k : ℕ) (z : List ℕ) (r : Run) → rows_after events steps k (run_with_earlier z r) ≡ rows_after events steps k r
earlier_rows events steps k z (Ran Next m) = ap (λ x. if nat_lt k steps then x else (if k == steps then log_of (park_and_draw (with_earlier z m)) else [])) (cycle_log events z m) ∙ ap (λ x. if nat_lt k steps then log_of (cycle events m) else (if k == steps then x else [])) (draw_log z m)
earlier_rows events steps k z (Ran Quit m) = ap (λ x. if nat_le k steps then (if k == m.cpu.ran then x else []) else []) (draw_log z m)
earlier_rows events steps k z (Ran Keep m) = ap (λ x. if nat_le k steps then (if k == m.cpu.ran then x else []) else []) (draw_log z m)
earlier_rows events steps k z (Stopped m why log) = refl

earlier_lives : (events : List Line) (z : List ℕ) (m : Machine) → lives events (with_earlier z m) ≡ lives events m
unfolding lives living
earlier_lives events z m = ap (lives_after (living m)) (cycle_log events z m)

earlier_lives_by : (events : List Line) (steps k : ℕ) (z : List ℕ) (r : Run) → lives_by events steps k (run_with_earlier z r) ≡ lives_by events steps k r
earlier_lives_by events steps k z (Ran Next m) = ap (λ x. if nat_lt k steps then x else []) (earlier_lives events z m)
earlier_lives_by events steps k z (Ran Quit m) = refl
earlier_lives_by events steps k z (Ran Keep m) = refl
earlier_lives_by events steps k z (Stopped m why log) = refl

-- ---- courses, by what the start came to

ending_by : (events : List Line) (steps : ℕ) (z : List ℕ) (m : Machine) (o : Outcome (Unit {0})) → ending_of events steps (with_earlier z m) (outcome_with_earlier z o) ≡ ending_with_earlier z (ending_of events steps m o)
ending_by events steps z m (Go a next log) = ap ended (earlier_run events steps z next) ∙ earlier_ended z (run events steps next)
ending_by events steps z m (Halt c log) = refl
ending_by events steps z m (Spent log) = refl

said_start : (events : List Line) (k : ℕ) (z : List ℕ) (m : Machine) (o : Outcome (Unit {0})) → spoken_in events k (with_earlier z m) (outcome_with_earlier z o) ≡ z ++ spoken_in events k m o
said_start events k z m (Go a next log) = ap said_by (earlier_run events k z next) ∙ earlier_said z (run events k next)
said_start events k z m (Halt c log) = refl
said_start events k z m (Spent log) = refl

rows_start : (events : List Line) (steps k : ℕ) (z : List ℕ) (o : Outcome (Unit {0})) → rows_from events steps k (outcome_with_earlier z o) ≡ rows_from events steps k o
rows_start events steps k z (Go a next log) = ap (λ x. (if k == 0 then log else []) ++ x) (ap (rows_after events steps k) (earlier_run events k z next) ∙ earlier_rows events steps k z (run events k next))
rows_start events steps k z (Halt c log) = refl
rows_start events steps k z (Spent log) = refl

lives_start : (events : List Line) (steps k : ℕ) (z : List ℕ) (o : Outcome (Unit {0})) → lives_from events steps k (outcome_with_earlier z o) ≡ lives_from events steps k o
lives_start events steps k z (Go a next log) = ap (lives_by events steps k) (earlier_run events k z next) ∙ earlier_lives_by events steps k z (run events k next)
lives_start events steps k z (Halt c log) = refl
lives_start events steps k z (Spent log) = refl

-- two courses with the same parts
alike : (c d : Course) → c.ending ≡ d.ending → ((k : ℕ) → c.said k ≡ d.said k) → ((k : ℕ) → c.rows k ≡ d.rows k) → ((k : ℕ) → c.lives k ≡ d.lives k) → c ≡ d
alike c d ending said rows lives =
    ap (λ x. record c { ending = x }) ending
    ∙ ap (λ x. record { ending = d.ending; said = x; rows = c.rows; lives = c.lives }) (fun_ext said)
    ∙ ap (λ x. record { ending = d.ending; said = d.said; rows = x; lives = c.lives }) (fun_ext rows)
    ∙ ap (λ x. record { ending = d.ending; said = d.said; rows = d.rows; lives = x }) (fun_ext lives)

pub earlier_course : (z : List ℕ) (events : List Line) (steps : ℕ) (state : State) (m : Machine) → course_of events steps state (with_earlier z m) ≡ course_with_earlier z (course_of events steps state m)
earlier_course z events steps state m =
    alike (course_of events steps state (with_earlier z m)) (course_with_earlier z (course_of events steps state m))
    (ap (ending_of events steps (with_earlier z m)) begins ∙ ending_by events steps z m (begin state m))
    (λ k. ap (spoken_in events k (with_earlier z m)) begins ∙ said_start events k z m (begin state m))
    (λ k. ap (rows_from events steps k) begins ∙ rows_start events steps k z (begin state m))
    (λ k. ap (lives_from events steps k) begins ∙ lives_start events steps k z (begin state m))
  where
    begins : begin state (with_earlier z m) ≡ outcome_with_earlier z (begin state m)
    begins = (ignores-begin state).same z m

-- ---- at rest

ending_rest : (events : List Line) (steps : ℕ) (h : Heap) (o : Outcome (Unit {0})) → ending_of events steps (at_rest h) o ≡ run_from events steps o
ending_rest events steps h (Go a m log) = refl
ending_rest events steps h (Halt c log) = refl
ending_rest events steps h (Spent log) = refl

said_rest : (events : List Line) (k : ℕ) (h : Heap) (o : Outcome (Unit {0})) → spoken_in events k (at_rest h) o ≡ said_from events k o
said_rest events k h (Go a m log) = refl
said_rest events k h (Halt c log) = refl
said_rest events k h (Spent log) = refl

pub course_at_rest : (events : List Line) (steps : ℕ) (state : State) (h : Heap) → course_of events steps state (at_rest h) ≡ course events steps state h
unfolding ending said_after rows_of_bytecode lives_in_bytecode
course_at_rest events steps state h =
    alike (course_of events steps state (at_rest h)) (course events steps state h)
    (ending_rest events steps h (begin state (at_rest h)))
    (λ k. said_rest events k h (begin state (at_rest h)))
    (λ k. refl)
    (λ k. refl)

pub course_after : (z : List ℕ) (events : List Line) (steps : ℕ) (state : State) (h : Heap) → course_of events steps state (at_rest_after z h) ≡ course_with_earlier z (course events steps state h)
course_after z events steps state h =
    ap (λ t. course_of events steps state (record (at_rest h) { transcript = t })) (sym (append-nil z))
    ∙ earlier_course z events steps state (at_rest h)
    ∙ ap (course_with_earlier z) (course_at_rest events steps state h)

pub said_earlier : (z : List ℕ) (e : Ending) → said_in (ending_with_earlier z e) ≡ z ++ said_in e
said_earlier z (Parked end m drawn) = refl
said_earlier z (Stuck why ran said) = refl
