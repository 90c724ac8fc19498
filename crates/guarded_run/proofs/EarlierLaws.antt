-- What was said before a guarded run stands in front of all that it says, and changes nothing else of its course.
use Rattle.std.specs.Prelude.{if◌then◌else◌}
use Rattle.std.proofs.Common.{◌≡◌, ℕ, ◌==◌, zero, suc, nat_lt, nat_le, List, [], ◌++◌, append-nil, refl, sym, ◌∙◌, ap}
use Rattle.std.proofs.Math.Path.{fun_ext}
use Rattle.long_names.specs.Heap.{Heap}
use Rattle.blue_model.specs.declared.event.Line.{Line}
use Rattle.blue_model.specs.declared.step.Step.{Step}
use Rattle.blue_model.specs.declared.step.Step.TheVariants.{Next, Quit, Keep}
use Rattle.blue_model.specs.Machine.{Machine, LogRow, Outcome, Go, Halt, Spent, log_of, then_do, ◌>>=◌, at_rest}
use Rattle.blue_model.specs.Contexts.{park}
use Rattle.blue_model.specs.State.{State, begin}
use Rattle.blue_model.specs.Cycle.{Stopping, ByCause, BySpentNames, cycle, park_and_draw, parked}
use Rattle.blue_model.specs.Logs.{lives_after, lives, living, Course}
use Rattle.blue_model.specs.Earlier.{with_earlier, outcome_with_earlier, ending_with_earlier, course_with_earlier, at_rest_after}
use Rattle.blue_model.specs.Guarded.{Guarded, Going, Broken, broken_by, kept_after, guarded_step, guarded_more, guarded_on}
use Rattle.blue_model.specs.Loaded.{start_on_kept, loaded}
use Rattle.blue_model.proofs.EarlierRules.{ignores-park}
use Rattle.blue_model.proofs.EarlierTurns.{ignores-cycle, ignores-begin, ignores-park_and_draw}
use Rattle.guarded_run.specs.Course.{begun, said_at, rows_at, lives_at, ending_at, course_on, guarded_course}
use Rattle.guarded_run.specs.Legs.{guarded_first}

-- ---- guarded runs

-- where this was said before all that its machine has said
abbrev pub guarded_with_earlier : List ℕ → Guarded → Guarded
guarded_with_earlier z (Going end m serial rows) = Going end (with_earlier z m) serial rows
guarded_with_earlier z (Broken stage m serial why log) = Broken stage (with_earlier z m) serial why log

-- what is loaded has said nothing
earlier_loaded : (z : List ℕ) (m : Machine) → loaded (with_earlier z m) ≡ loaded m
unfolding loaded start_on_kept ◌>>=◌
earlier_loaded z m = ap (λ (o : Outcome (Unit {0})). then_do o (λ _. start_on_kept)) (ignores-park.same z m) ∙ go (park m)
  where
    go : (o : Outcome (Unit {0})) → then_do (outcome_with_earlier z o) (λ _. start_on_kept) ≡ then_do o (λ _. start_on_kept)
    go (Go a p log) = refl
    go (Halt c log) = refl
    go (Spent log) = refl

earlier_broken : (z : List ℕ) (serial : ℕ) (m : Machine) (o : Outcome (Unit {0})) (why : Stopping) (log : List LogRow) → broken_by serial (with_earlier z m) (outcome_with_earlier z o) why log ≡ guarded_with_earlier z (broken_by serial m o why log)
earlier_broken z serial m (Go a p rows) why log = refl
earlier_broken z serial m (Halt c rows) why log = refl
earlier_broken z serial m (Spent rows) why log = refl

earlier_kept : (z : List ℕ) (serial : ℕ) (m : Machine) (o : Outcome (Unit {0})) → kept_after serial (with_earlier z m) o ≡ guarded_with_earlier z (kept_after serial m o)
earlier_kept z serial m (Go a next log) = refl
earlier_kept z serial m (Halt c log) = ap (λ (o : Outcome (Unit {0})). broken_by serial (with_earlier z m) o (ByCause c) log) (ignores-park.same z m) ∙ earlier_broken z serial m (park m) (ByCause c) log
earlier_kept z serial m (Spent log) = ap (λ (o : Outcome (Unit {0})). broken_by serial (with_earlier z m) o BySpentNames log) (ignores-park.same z m) ∙ earlier_broken z serial m (park m) BySpentNames log

earlier_step : (z : List ℕ) (serial : ℕ) (rows : List LogRow) (m : Machine) (o : Outcome Step) → guarded_step serial rows (with_earlier z m) (outcome_with_earlier z o) ≡ guarded_with_earlier z (guarded_step serial rows m o)
earlier_step z serial rows m (Go Next next log) = refl
earlier_step z serial rows m (Go Quit next log) = refl
earlier_step z serial rows m (Go Keep next log) = ap (kept_after serial (with_earlier z next)) (earlier_loaded z next) ∙ earlier_kept z serial next (loaded next)
earlier_step z serial rows m (Halt c log) = refl
earlier_step z serial rows m (Spent log) = refl

earlier_more : (events : List Line) (z : List ℕ) (g : Guarded) → guarded_more events (guarded_with_earlier z g) ≡ guarded_with_earlier z (guarded_more events g)
earlier_more events z (Going Next m serial rows) = ap (guarded_step serial rows (with_earlier z m)) ((ignores-cycle events).same z m) ∙ earlier_step z serial rows m (cycle events m)
earlier_more events z (Going Quit m serial rows) = refl
earlier_more events z (Going Keep m serial rows) = refl
earlier_more events z (Broken stage m serial why log) = refl

pub earlier_on : (events : List Line) (k : ℕ) (z : List ℕ) (g : Guarded) → guarded_on events k (guarded_with_earlier z g) ≡ guarded_with_earlier z (guarded_on events k g)
unfolding guarded_on
earlier_on events zero z g = refl
earlier_on events (suc k) z g = ap (guarded_more events) (earlier_on events k z g) ∙ earlier_more events z (guarded_on events k g)

-- ---- parts of a course

same_log : {A : Type 0} (z : List ℕ) (o : Outcome A) → log_of (outcome_with_earlier z o) ≡ log_of o
same_log z (Go a m log) = refl
same_log z (Halt c log) = refl
same_log z (Spent log) = refl

pub earlier_parked : (z : List ℕ) (end : Step) (m : Machine) (o : Outcome (List ℕ)) → parked end (with_earlier z m) (outcome_with_earlier z o) ≡ ending_with_earlier z (parked end m o)
earlier_parked z end m (Go bytes next log) = refl
earlier_parked z end m (Halt c log) = refl
earlier_parked z end m (Spent log) = refl

earlier_ending : (z : List ℕ) (g : Guarded) → ending_at (guarded_with_earlier z g) ≡ ending_with_earlier z (ending_at g)
earlier_ending z (Going end m serial rows) = ap (parked end (with_earlier z m)) (ignores-park_and_draw.same z m) ∙ earlier_parked z end m (park_and_draw m)
earlier_ending z (Broken stage m serial why log) = refl

earlier_said : (z : List ℕ) (g : Guarded) → said_at (guarded_with_earlier z g) ≡ z ++ said_at g
earlier_said z (Going end m serial rows) = refl
earlier_said z (Broken stage m serial why log) = refl

cycle_log : (events : List Line) (z : List ℕ) (m : Machine) → log_of (cycle events (with_earlier z m)) ≡ log_of (cycle events m)
cycle_log events z m = ap log_of ((ignores-cycle events).same z m) ∙ same_log z (cycle events m)

draw_log : (z : List ℕ) (m : Machine) → log_of (park_and_draw (with_earlier z m)) ≡ log_of (park_and_draw m)
draw_log z m = ap log_of (ignores-park_and_draw.same z m) ∙ same_log z (park_and_draw m)

earlier_rows : (events : List Line) (steps k : ℕ) (z : List ℕ) (g : Guarded) → rows_at events steps k (guarded_with_earlier z g) ≡ rows_at events steps k g
earlier_rows events steps k z (Going Next m serial rows) =
    ap (λ x. if nat_lt k steps then rows ++ x else (if k == steps then rows ++ log_of (park_and_draw (with_earlier z m)) else [])) (cycle_log events z m)
    ∙ ap (λ x. if nat_lt k steps then rows ++ log_of (cycle events m) else (if k == steps then rows ++ x else [])) (draw_log z m)
earlier_rows events steps k z (Going Quit m serial rows) = ap (λ x. if nat_le k steps then (if k == m.cpu.ran then x else []) else []) (draw_log z m)
earlier_rows events steps k z (Going Keep m serial rows) = refl
earlier_rows events steps k z (Broken stage m serial why log) = refl

earlier_lives : (events : List Line) (z : List ℕ) (m : Machine) → lives events (with_earlier z m) ≡ lives events m
unfolding lives living
earlier_lives events z m = ap (lives_after (living m)) (cycle_log events z m)

earlier_lives_at : (events : List Line) (steps k : ℕ) (z : List ℕ) (g : Guarded) → lives_at events steps k (guarded_with_earlier z g) ≡ lives_at events steps k g
earlier_lives_at events steps k z (Going Next m serial rows) = ap (λ x. if nat_lt k steps then x else []) (earlier_lives events z m)
earlier_lives_at events steps k z (Going Quit m serial rows) = refl
earlier_lives_at events steps k z (Going Keep m serial rows) = refl
earlier_lives_at events steps k z (Broken stage m serial why log) = refl

-- ---- courses

-- two courses with the same parts
alike : (c d : Course) → c.ending ≡ d.ending → ((k : ℕ) → c.said k ≡ d.said k) → ((k : ℕ) → c.rows k ≡ d.rows k) → ((k : ℕ) → c.lives k ≡ d.lives k) → c ≡ d
alike c d ending said rows lives =
    ap (λ x. record c { ending = x }) ending
    ∙ ap (λ x. record { ending = d.ending; said = x; rows = c.rows; lives = c.lives }) (fun_ext said)
    ∙ ap (λ x. record { ending = d.ending; said = d.said; rows = x; lives = c.lives }) (fun_ext rows)
    ∙ ap (λ x. record { ending = d.ending; said = d.said; rows = d.rows; lives = x }) (fun_ext lives)

earlier_course : (events : List Line) (steps : ℕ) (z : List ℕ) (g : Guarded) → course_on events steps (guarded_with_earlier z g) ≡ course_with_earlier z (course_on events steps g)
earlier_course events steps z g =
    alike (course_on events steps (guarded_with_earlier z g)) (course_with_earlier z (course_on events steps g))
    (ap ending_at (earlier_on events steps z g) ∙ earlier_ending z (guarded_on events steps g))
    (λ k. ap said_at (earlier_on events k z g) ∙ earlier_said z (guarded_on events k g))
    (λ k. ap (rows_at events steps k) (earlier_on events k z g) ∙ earlier_rows events steps k z (guarded_on events k g))
    (λ k. ap (lives_at events steps k) (earlier_on events k z g) ∙ earlier_lives_at events steps k z (guarded_on events k g))

-- ---- starts

earlier_begun : (z : List ℕ) (serial : ℕ) (before : Machine) (o : Outcome (Unit {0})) → begun serial (with_earlier z before) (outcome_with_earlier z o) ≡ guarded_with_earlier z (begun serial before o)
earlier_begun z serial before (Go a m log) = refl
earlier_begun z serial before (Halt c log) = refl
earlier_begun z serial before (Spent log) = refl

-- a start behind what had been said is one at rest
pub begin_after : (z : List ℕ) (state : State) (h : Heap) → begin state (at_rest_after z h) ≡ outcome_with_earlier z (begin state (at_rest h))
begin_after z state h = ap (λ t. begin state (record (at_rest h) { transcript = t })) (sym (append-nil z)) ∙ (ignores-begin state).same z (at_rest h)

pub first_after : (serial : ℕ) (z : List ℕ) (state : State) (h : Heap) → guarded_first serial z state h ≡ guarded_with_earlier z (begun serial (at_rest h) (begin state (at_rest h)))
first_after serial z state h =
    ap (λ t. begun serial (record (at_rest h) { transcript = t }) (begin state (at_rest_after z h))) (sym (append-nil z))
    ∙ ap (begun serial (with_earlier z (at_rest h))) (begin_after z state h)
    ∙ earlier_begun z serial (at_rest h) (begin state (at_rest h))

pub guarded_course_after : (events : List Line) (steps serial : ℕ) (z : List ℕ) (state : State) (h : Heap) → course_on events steps (guarded_first serial z state h) ≡ course_with_earlier z (guarded_course events steps serial state h)
guarded_course_after events steps serial z state h = ap (course_on events steps) (first_after serial z state h) ∙ earlier_course events steps z (begun serial (at_rest h) (begin state (at_rest h)))
