-- What the course of a guarded run is at a bytecode: where a cycle, a parking or a loading stopped, and at the end.
-- `after_leg` is what a guarded run has come to where the run of a leg stands (`leg_at`), and `leg_keeps` finds the bytecode of it that did 97.
-- A guarded run that ended or broke stays so (`quit_stays`, `broken_stays`).
use Rattle.std.proofs.Common.{zero, suc, ◌≡◌, ℕ, ◌+◌, ◌-◌, ◌<◌, ◌≤◌, nat_lt, Bool, true, false, cond, eqb, Some, List, [], ◌++◌, refl, sym, ◌∙◌, ap, subst, arith, le-leb}
use borrow.Author.Tests.{ltb-true, ltb-false}
use Rattle.std.proofs.lemmas.Grind.{common_steps}
use Rattle.object_memory.specs.declared.fault.Need.{Need}
use Rattle.blue_model.specs.declared.event.Line.{Line}
use Rattle.blue_model.specs.declared.step.Step.{Step}
use Rattle.blue_model.specs.declared.step.Step.TheVariants.{Next, Quit, Keep}
use Rattle.blue_model.specs.Machine.{Machine, LogRow, Outcome, Go, Halt, Spent, log_of}
use Rattle.blue_model.specs.Cycle.{Stopping, ByCause, BySpentNames, Stuck, Run, Ran, Stopped, run_of, one_more, run, cycle, parked, park_and_draw}
use Rattle.blue_model.specs.Contexts.{park}
use Rattle.blue_model.specs.Guarded.{Stage, AtBytecode, AtParking, AtStart, Guarded, Going, Broken, allowed, as_before, broken_by, kept_after, guarded_step, guarded_more, guarded_on, rows_due}
use Rattle.blue_model.specs.Loaded.{loaded}
use Rattle.blue_model.specs.Logs.{lives}
use Rattle.blue_model.proofs.CountLaws.{cycle_counts, runs_count, last_came}
use Rattle.blue_model.proofs.EndingLaws.{stopping_of}
use Rattle.blue_model.proofs.GuardLaws.{on_adds, goes_next, goes_quit, goes_keep}
use Rattle.contexts.specs.Serves.{IsLogged}
use Rattle.machine_run.proofs.CourseLaws.{logged_behind, logged_before}
use Rattle.guarded_run.specs.Course.{begun, said_at, serial_at, rows_at, lives_at, ending_at}

-- ---- tests of numbers

below_by : (a b : ℕ) → a < b → nat_lt a b ≡ true
below_by a b low = go (nat_lt a b) refl
  where
    go : (x : Bool) → nat_lt a b ≡ x → nat_lt a b ≡ true
    go true e = e
    go false e = let high = ltb-false a b e in absurd (omega arith)

above_by : (a b : ℕ) → b ≤ a → nat_lt a b ≡ false
above_by a b high = go (nat_lt a b) refl
  where
    go : (x : Bool) → nat_lt a b ≡ x → nat_lt a b ≡ false
    go false e = e
    go true e = let low = ltb-true a b e in absurd (omega arith)

same_by : (a b : ℕ) → a ≡ b → eqb a b ≡ true
same_by a b same = grind (arith, common_steps, same)

-- ---- what ended or broke stays so

pub quit_stays : (events : List Line) (k : ℕ) (m : Machine) (serial : ℕ) (rows : List LogRow) → guarded_on events k (Going Quit m serial rows) ≡ Going Quit m serial rows
unfolding guarded_on
quit_stays events zero m serial rows = refl
quit_stays events (suc k) m serial rows = ap (guarded_more events) (quit_stays events k m serial rows)

broken_stays : (events : List Line) (k : ℕ) (stage : Stage) (m : Machine) (serial : ℕ) (why : Stopping) (log : List LogRow) → guarded_on events k (Broken stage m serial why log) ≡ Broken stage m serial why log
unfolding guarded_on
broken_stays events zero stage m serial why log = refl
broken_stays events (suc k) stage m serial why log = ap (guarded_more events) (broken_stays events k stage m serial why log)

-- so many cycles, and those that are left of all
pub on_from : (events : List Line) (j k : ℕ) (g : Guarded) → j ≤ k → guarded_on events k g ≡ guarded_on events (k - j) (guarded_on events j g)
on_from events j k g few = ap (λ i. guarded_on events i g) (let all : k ≡ j + (k - j) = omega arith in all) ∙ on_adds events j (k - j) g

pub on_none : (events : List Line) (g : Guarded) → guarded_on events 0 g ≡ g
unfolding guarded_on
on_none events g = refl

-- one cycle more
pub on_next : (events : List Line) (k : ℕ) (g : Guarded) → guarded_on events (k + 1) g ≡ guarded_more events (guarded_on events k g)
unfolding guarded_on
on_next events k g = ap (λ i. guarded_on events i g) (let next : k + 1 ≡ suc k = omega arith in next)

-- a guarded run that broke is stuck
pub broke : (events : List Line) (j k : ℕ) (g : Guarded) (stage : Stage) (m : Machine) (serial : ℕ) (why : Stopping) (log : List LogRow) → guarded_on events j g ≡ Broken stage m serial why log → j ≤ k → ending_at (guarded_on events k g) ≡ Stuck why m.cpu.ran m.transcript
broke events j k g stage m serial why log e few = ap ending_at (on_from events j k g few ∙ ap (guarded_on events (k - j)) e ∙ broken_stays events (k - j) stage m serial why log)

-- ---- at a machine that goes on

pub rows_going : (events : List Line) (steps k : ℕ) (m : Machine) (serial : ℕ) (rows : List LogRow) → k < steps → rows_at events steps k (Going Next m serial rows) ≡ rows ++ log_of (cycle events m)
rows_going events steps k m serial rows low = ap (λ b. cond b (rows ++ log_of (cycle events m)) (cond (eqb k steps) (rows ++ log_of (park_and_draw m)) [])) (below_by k steps low)

pub rows_last : (events : List Line) (steps k : ℕ) (m : Machine) (serial : ℕ) (rows : List LogRow) → k ≡ steps → rows_at events steps k (Going Next m serial rows) ≡ rows ++ log_of (park_and_draw m)
rows_last events steps k m serial rows same =
    ap (λ b. cond b (rows ++ log_of (cycle events m)) (cond (eqb k steps) (rows ++ log_of (park_and_draw m)) [])) (above_by k steps (omega arith))
    ∙ ap (λ b. cond b (rows ++ log_of (park_and_draw m)) []) (same_by k steps same)

pub rows_quit : (events : List Line) (steps k : ℕ) (m : Machine) (serial : ℕ) (rows : List LogRow) → k ≤ steps → k ≡ m.cpu.ran → rows_at events steps k (Going Quit m serial rows) ≡ log_of (park_and_draw m)
rows_quit events steps k m serial rows few same =
    ap (λ b. cond b (cond (eqb k m.cpu.ran) (log_of (park_and_draw m)) []) []) (le-leb k steps few)
    ∙ ap (λ b. cond b (log_of (park_and_draw m)) []) (same_by k m.cpu.ran same)

pub rows_broken : (events : List Line) (steps k : ℕ) (stage : Stage) (m : Machine) (serial : ℕ) (why : Stopping) (log : List LogRow) → k ≡ m.cpu.ran → rows_at events steps k (Broken stage m serial why log) ≡ log
rows_broken events steps k stage m serial why log same = ap (λ b. cond b log []) (same_by k m.cpu.ran same)

pub lives_going : (events : List Line) (steps k : ℕ) (m : Machine) (serial : ℕ) (rows : List LogRow) → k < steps → lives_at events steps k (Going Next m serial rows) ≡ lives events m
lives_going events steps k m serial rows low = ap (λ b. cond b (lives events m) []) (below_by k steps low)

-- rows that came before the next bytecode are rows of it
pub logged_due : (events : List Line) (steps k : ℕ) (m : Machine) (serial : ℕ) (rows : List LogRow) (need : Need) → k ≤ steps → IsLogged need rows → IsLogged need (rows_at events steps k (Going Next m serial rows))
logged_due events steps k m serial rows need few h = go (nat_lt k steps) refl
  where
    go : (b : Bool) → nat_lt k steps ≡ b → IsLogged need (rows_at events steps k (Going Next m serial rows))
    go true e = subst (IsLogged need) (sym (rows_going events steps k m serial rows (ltb-true k steps e))) (logged_before need rows (log_of (cycle events m)) h)
    go false e = let high = ltb-false k steps e in subst (IsLogged need) (sym (rows_last events steps k m serial rows (omega arith))) (logged_before need rows (log_of (park_and_draw m)) h)

-- what stopped its cycle is why the run is stuck
pub cycle_stuck : (events : List Line) (k steps : ℕ) (g : Guarded) (m : Machine) (serial : ℕ) (rows : List LogRow) (why : Stopping) → guarded_on events k g ≡ Going Next m serial rows → k < steps → stopping_of (cycle events m) ≡ Some why → ending_at (guarded_on events steps g) ≡ Stuck why m.cpu.ran m.transcript
cycle_stuck events k steps g m serial rows why here low s = go (cycle events m) refl s
  where
    next : (o : Outcome Step) → cycle events m ≡ o → guarded_on events (k + 1) g ≡ guarded_step serial rows m o
    next o e = on_next events k g ∙ ap (guarded_more events) here ∙ ap (guarded_step serial rows m) e

    go : (o : Outcome Step) → cycle events m ≡ o → stopping_of o ≡ Some why → ending_at (guarded_on events steps g) ≡ Stuck why m.cpu.ran m.transcript
    go (Go a n log) e s = absurd (cc)
    go (Halt c log) e s = let same : ByCause c ≡ why = cc in broke events (k + 1) steps g AtBytecode m serial (ByCause c) (rows ++ log) (next (Halt c log) e) (omega arith) ∙ ap (λ x. Stuck x m.cpu.ran m.transcript) same
    go (Spent log) e s = let same : BySpentNames ≡ why = cc in broke events (k + 1) steps g AtBytecode m serial BySpentNames (rows ++ log) (next (Spent log) e) (omega arith) ∙ ap (λ x. Stuck x m.cpu.ran m.transcript) same

-- ---- at a machine that is to be kept

-- by what parking came to
pub broken_either : (P : Guarded → Type 0) (serial : ℕ) (m : Machine) (o : Outcome (Unit {0})) (why : Stopping) (log : List LogRow) → ((stage : Stage) (last : ℕ) → P (Broken stage m last why log)) → P (broken_by serial m o why log)
broken_either P serial m (Go a p rows) why log f = f AtStart (serial + 1)
broken_either P serial m (Halt c rows) why log f = f AtParking serial
broken_either P serial m (Spent rows) why log f = f AtParking serial

pub said_kept : (serial : ℕ) (m : Machine) (o : Outcome (Unit {0})) → said_at (kept_after serial m o) ≡ m.transcript
said_kept serial m (Go a next log) = refl
said_kept serial m (Halt c log) = broken_either (λ g. said_at g ≡ m.transcript) serial m (park m) (ByCause c) log (λ stage last. refl)
said_kept serial m (Spent log) = broken_either (λ g. said_at g ≡ m.transcript) serial m (park m) BySpentNames log (λ stage last. refl)

pub rows_kept : (events : List Line) (steps k serial : ℕ) (m : Machine) (o : Outcome (Unit {0})) (need : Need) → k ≤ steps → k ≡ m.cpu.ran → IsLogged need (log_of o) → IsLogged need (rows_at events steps k (kept_after serial m o))
rows_kept events steps k serial m (Go a next log) need few same h = logged_due events steps k (allowed (serial + 1) (as_before m next)) (serial + 1) log need few h
rows_kept events steps k serial m (Halt c log) need few same h = broken_either (λ g. IsLogged need (rows_at events steps k g)) serial m (park m) (ByCause c) log (λ stage last. subst (IsLogged need) (sym (rows_broken events steps k stage m last (ByCause c) log same)) h)
rows_kept events steps k serial m (Spent log) need few same h = broken_either (λ g. IsLogged need (rows_at events steps k g)) serial m (park m) BySpentNames log (λ stage last. subst (IsLogged need) (sym (rows_broken events steps k stage m last BySpentNames log same)) h)

-- what stopped the loading is why the run is stuck
pub kept_stuck : (events : List Line) (j k : ℕ) (g : Guarded) (serial : ℕ) (m : Machine) (o : Outcome (Unit {0})) (why : Stopping) → guarded_on events j g ≡ kept_after serial m o → j ≤ k → stopping_of o ≡ Some why → ending_at (guarded_on events k g) ≡ Stuck why m.cpu.ran m.transcript
kept_stuck events j k g serial m o why e few s = go o e s
  where
    by : (reason : Stopping) (log : List LogRow) → guarded_on events j g ≡ broken_by serial m (park m) reason log → ending_at (guarded_on events k g) ≡ Stuck reason m.cpu.ran m.transcript
    by reason log f = broken_either (λ x. guarded_on events j g ≡ x → ending_at (guarded_on events k g) ≡ Stuck reason m.cpu.ran m.transcript) serial m (park m) reason log (λ stage last is. broke events j k g stage m last reason log is few) f

    go : (o : Outcome (Unit {0})) → guarded_on events j g ≡ kept_after serial m o → stopping_of o ≡ Some why → ending_at (guarded_on events k g) ≡ Stuck why m.cpu.ran m.transcript
    go (Go a next log) f s = absurd (cc)
    go (Halt c log) f s = let same : ByCause c ≡ why = cc in by (ByCause c) log f ∙ ap (λ x. Stuck x m.cpu.ran m.transcript) same
    go (Spent log) f s = let same : BySpentNames ≡ why = cc in by BySpentNames log f ∙ ap (λ x. Stuck x m.cpu.ran m.transcript) same

-- ---- before the first bytecode

pub said_begun : (serial : ℕ) (before : Machine) (o : Outcome (Unit {0})) → ((m : Machine) (log : List LogRow) → o ≡ Go tt m log → m.transcript ≡ before.transcript) → said_at (begun serial before o) ≡ before.transcript
said_begun serial before (Go a m log) same = same m log refl
said_begun serial before (Halt c log) same = refl
said_begun serial before (Spent log) same = refl

pub rows_begun : (events : List Line) (steps serial : ℕ) (before : Machine) (o : Outcome (Unit {0})) (need : Need) → 0 ≡ before.cpu.ran → IsLogged need (log_of o) → IsLogged need (rows_at events steps 0 (begun serial before o))
rows_begun events steps serial before (Go a m log) need same h = logged_due events steps 0 (allowed serial m) serial log need (omega arith) h
rows_begun events steps serial before (Halt c log) need same h = subst (IsLogged need) (sym (rows_broken events steps 0 AtStart before serial (ByCause c) log same)) h
rows_begun events steps serial before (Spent log) need same h = subst (IsLogged need) (sym (rows_broken events steps 0 AtStart before serial BySpentNames log same)) h

pub begun_stuck : (events : List Line) (k serial : ℕ) (before : Machine) (o : Outcome (Unit {0})) (why : Stopping) → stopping_of o ≡ Some why → ending_at (guarded_on events k (begun serial before o)) ≡ Stuck why before.cpu.ran before.transcript
begun_stuck events k serial before (Go a m log) why s = absurd (cc)
begun_stuck events k serial before (Halt c log) why s = let same : ByCause c ≡ why = cc in ap ending_at (broken_stays events k AtStart before serial (ByCause c) log) ∙ ap (λ x. Stuck x before.cpu.ran before.transcript) same
begun_stuck events k serial before (Spent log) why s = let same : BySpentNames ≡ why = cc in ap ending_at (broken_stays events k AtStart before serial BySpentNames log) ∙ ap (λ x. Stuck x before.cpu.ran before.transcript) same

-- ---- where a leg stands

-- what the guarded run has come to where the run of a leg from m has come to n
abbrev pub after_leg : ℕ → List LogRow → Machine → Step → Machine → Guarded
after_leg serial rows m Next n = Going Next n serial (rows_due m n rows)
after_leg serial rows m Quit n = Going Quit n serial []
after_leg serial rows m Keep n = kept_after serial n (loaded n)

pub said_leg : (serial : ℕ) (rows : List LogRow) (m : Machine) (end : Step) (n : Machine) → said_at (after_leg serial rows m end n) ≡ n.transcript
said_leg serial rows m Next n = refl
said_leg serial rows m Quit n = refl
said_leg serial rows m Keep n = said_kept serial n (loaded n)

pub leg_at : (events : List Line) (j : ℕ) (g : Guarded) (serial : ℕ) (rows : List LogRow) (m n : Machine) (end : Step) → guarded_on events m.cpu.ran g ≡ Going Next m serial rows → run events j m ≡ Ran end n → (n.cpu.ran ≤ m.cpu.ran + j) × (guarded_on events n.cpu.ran g ≡ after_leg serial rows m end n)
leg_at events j g serial rows m n Next here e =
    let all = runs_count events j m n e in
    (omega arith, ap (λ i. guarded_on events i g) all ∙ on_adds events m.cpu.ran j g ∙ ap (guarded_on events j) here ∙ goes_next events j serial rows m n e)
leg_at events j g serial rows m n Quit here e =
    let came = last_came events j Quit m n refl e in
    let few = came.1 in
    let all = came.3 in
    (omega arith, ap (λ i. guarded_on events i g) all ∙ on_adds events m.cpu.ran came.0 g ∙ ap (guarded_on events came.0) here ∙ goes_quit events came.0 serial rows m n came.2)
leg_at events j g serial rows m n Keep here e =
    let came = goes_keep events j serial rows m n e in
    let few = came.1 in
    let all = came.2 in
    (omega arith, ap (λ i. guarded_on events i g) all ∙ on_adds events m.cpu.ran (came.0 + 1) g ∙ ap (guarded_on events (came.0 + 1)) here ∙ came.3)

-- the rows of park and of the picture are rows of the bytecode after the last
pub rows_at_end : (events : List Line) (steps serial : ℕ) (rows : List LogRow) (m : Machine) (end : Step) (n : Machine) (need : Need) → n.cpu.ran ≤ steps → (end ≡ Next → n.cpu.ran ≡ steps) → (end ≡ Keep → ⊥) → IsLogged need (log_of (park_and_draw n)) → IsLogged need (rows_at events steps n.cpu.ran (after_leg serial rows m end n))
rows_at_end events steps serial rows m Next n need few all parts h = subst (IsLogged need) (sym (rows_last events steps n.cpu.ran n serial (rows_due m n rows) (all refl))) (logged_behind need (rows_due m n rows) (log_of (park_and_draw n)) h)
rows_at_end events steps serial rows m Quit n need few all parts h = subst (IsLogged need) (sym (rows_quit events steps n.cpu.ran n serial [] few refl)) h
rows_at_end events steps serial rows m Keep n need few all parts h = absurd (parts refl)

-- and the run ends with them
pub ends_leg : (events : List Line) (steps : ℕ) (g : Guarded) (serial : ℕ) (rows : List LogRow) (m : Machine) (end : Step) (n : Machine) → n.cpu.ran ≤ steps → (end ≡ Next → n.cpu.ran ≡ steps) → (end ≡ Keep → ⊥) → guarded_on events n.cpu.ran g ≡ after_leg serial rows m end n → ending_at (guarded_on events steps g) ≡ parked end n (park_and_draw n)
ends_leg events steps g serial rows m Next n few all parts e = ap (λ i. ending_at (guarded_on events i g)) (sym (all refl)) ∙ ap ending_at e
ends_leg events steps g serial rows m Quit n few all parts e = ap ending_at (on_from events n.cpu.ran steps g few ∙ ap (guarded_on events (steps - n.cpu.ran)) e ∙ quit_stays events (steps - n.cpu.ran) n serial [])
ends_leg events steps g serial rows m Keep n few all parts e = absurd (parts refl)

-- under the serial that the leg had
pub serial_leg : (events : List Line) (steps : ℕ) (g : Guarded) (serial : ℕ) (rows : List LogRow) (m : Machine) (end : Step) (n : Machine) → n.cpu.ran ≤ steps → (end ≡ Next → n.cpu.ran ≡ steps) → (end ≡ Keep → ⊥) → guarded_on events n.cpu.ran g ≡ after_leg serial rows m end n → serial_at (guarded_on events steps g) ≡ serial
serial_leg events steps g serial rows m Next n few all parts e = ap (λ i. serial_at (guarded_on events i g)) (sym (all refl)) ∙ ap serial_at e
serial_leg events steps g serial rows m Quit n few all parts e = ap serial_at (on_from events n.cpu.ran steps g few ∙ ap (guarded_on events (steps - n.cpu.ran)) e ∙ quit_stays events (steps - n.cpu.ran) n serial [])
serial_leg events steps g serial rows m Keep n few all parts e = absurd (parts refl)

-- ---- the bytecode that did 97

run_none : (events : List Line) (m : Machine) → run events 0 m ≡ Ran Next m
unfolding run
run_none events m = refl

run_next : (events : List Line) (k : ℕ) (m : Machine) → run events (suc k) m ≡ one_more events (run events k m)
unfolding run
run_next events k m = refl

-- a run that came to a machine that is to be kept went on to the machine before it
record KeepsFrom (events : List Line) (k : ℕ) (m n : Machine) : Type 0 where
  done : ℕ
  few : done < k
  before : Machine
  ran : run events done m ≡ Ran Next before
  log : List LogRow
  did : cycle events before ≡ Go Keep n log

keeps_from : (events : List Line) (k : ℕ) (m n : Machine) → run events k m ≡ Ran Keep n → KeepsFrom events k m n
keeps_from events zero m n e = let no : Ran Next m ≡ Ran Keep n = sym (run_none events m) ∙ e in absurd (cc)
keeps_from events (suc k) m n e = go (run events k m) refl (sym (run_next events k m) ∙ e) (λ f. keeps_from events k m n f)
  where
    go : (r : Run) → run events k m ≡ r → one_more events r ≡ Ran Keep n → (run events k m ≡ Ran Keep n → KeepsFrom events k m n) → KeepsFrom events (suc k) m n
    go (Ran Next x) h f past = by (cycle events x) refl f
      where
        by : (o : Outcome Step) → cycle events x ≡ o → run_of x o ≡ Ran Keep n → KeepsFrom events (suc k) m n
        by (Go end y log) i g =
            let same : end ≡ Keep = cc in
            let left : y ≡ n = cc in
            record { done = k; few = omega arith; before = x; ran = h; log = log; did = i ∙ ap (λ s. Go s y log) same ∙ ap (λ z. Go Keep z log) left }
        by (Halt c log) i g = let no : Stopped x (ByCause c) log ≡ Ran Keep n = g in absurd (cc)
        by (Spent log) i g = let no : Stopped x BySpentNames log ≡ Ran Keep n = g in absurd (cc)
    go (Ran Quit x) h f past = let no : Ran Quit x ≡ Ran Keep n = f in absurd (cc)
    go (Ran Keep x) h f past = let p = past (h ∙ f) in let low = p.few in record { done = p.done; few = omega arith; before = p.before; ran = p.ran; log = p.log; did = p.did }
    go (Stopped x why log) h f past = let no : Stopped x why log ≡ Ran Keep n = f in absurd (cc)

-- in a guarded run, too, after so many bytecodes of all legs
pub record KeepsAfter (events : List Line) (g : Guarded) (serial : ℕ) (n : Machine) : Type 0 where
  pub earlier : ℕ
  pub ran : n.cpu.ran ≡ earlier + 1
  pub before : Machine
  pub behind : List LogRow
  pub was : guarded_on events earlier g ≡ Going Next before serial behind
  pub log : List LogRow
  pub did : cycle events before ≡ Go Keep n log

pub leg_keeps : (events : List Line) (j : ℕ) (g : Guarded) (serial : ℕ) (rows : List LogRow) (m n : Machine) → guarded_on events m.cpu.ran g ≡ Going Next m serial rows → run events j m ≡ Ran Keep n → KeepsAfter events g serial n
leg_keeps events j g serial rows m n here e =
    let k = keeps_from events j m n e in
    record {
      earlier = k.before.cpu.ran;
      ran = cycle_counts events Keep k.before n (ap (run_of k.before) k.did);
      before = k.before;
      behind = rows_due m k.before rows;
      was = (leg_at events k.done g serial rows m k.before Next here k.ran).1;
      log = k.log;
      did = k.did;
    }
