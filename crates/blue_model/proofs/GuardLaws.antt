-- Guarded runs: over a thinning, of j + k cycles, between two checkpoints, and their serials.
use Rattle.std.specs.Prelude.{if◌then◌else◌}
use Rattle.std.proofs.Common.{◌≡◌, ℕ, zero, suc, ◌+◌, ◌<◌, ◌≤◌, ◌==◌, nat_lt, Bool, true, false, List, [], ◌++◌, refl, sym, ◌∙◌, ap, ap₂, subst, arith, eq-eqb, ne_eqb}
use borrow.Author.Tests.{ltb-true}
use Rattle.blue_model.specs.declared.cause.Cause.{Cause}
use Rattle.blue_model.specs.declared.cpu.Cpu.{Cpu}
use Rattle.blue_model.specs.declared.event.Line.{Line}
use Rattle.blue_model.specs.declared.limits.TheConstants.{LAST_SERIAL}
use Rattle.blue_model.specs.declared.step.Step.{Step}
use Rattle.blue_model.specs.declared.step.Step.TheVariants.{Next, Quit, Keep}
use Rattle.blue_model.specs.Machine.{Machine, LogRow, Outcome, Go, Halt, Spent, then_do, ◌>>=◌}
use Rattle.blue_model.specs.Cycle.{Stopping, ByCause, BySpentNames, Run, Ran, Stopped, run_of, one_more, run, cycle}
use Rattle.blue_model.specs.Law.{IsThinned, Agree, RespectsThinning}
use Rattle.blue_model.specs.Loaded.{loaded, start_on_kept}
use Rattle.blue_model.specs.Guarded.{Stage, AtBytecode, AtParking, AtStart, Guarded, Going, Broken, allowed, as_before, broken_by, kept_after, guarded_step, guarded_more, guarded_on, guarded, GuardedAgree, guarded_of, rows_due, is_keep, keeps_next, times_kept, times_unkept}
use Rattle.blue_model.proofs.LawSteps.{respects}
use Rattle.blue_model.proofs.TurnLaws.{law-cycle}
use Rattle.blue_model.proofs.CountLaws.{cycle_counts, runs_count}
use Rattle.blue_model.proofs.KeepLaws.{cycle_leaves, run_never_keeps}
use Rattle.blue_model.proofs.LoadLaws.{loaded-agree}
use Rattle.blue_model.proofs.RuleLaws.{law-park}
use Rattle.blue_model.specs.Contexts.{park}

-- ---- thinning

allowed_thinned : (serial : ℕ) (m s : Machine) → IsThinned m s → IsThinned (allowed serial m) (allowed serial s)
allowed_thinned serial m s h = record { thinning = h.thinning; bounded = h.bounded; regs = h.regs; slots = h.slots; transcript = h.transcript; largest = h.largest; cpu = ap (λ (c : Cpu). record c { vault = nat_lt serial LAST_SERIAL }) h.cpu }

abbrev numbers_before : Cpu → Cpu → Cpu
numbers_before c d = record d { base = c.base; ran = c.ran; line = c.line; words_in = c.words_in; words_out = c.words_out }

before_thinned : (m s x y : Machine) → IsThinned m s → IsThinned x y → IsThinned (as_before m x) (as_before s y)
before_thinned m s x y h t = record { thinning = t.thinning; bounded = t.bounded; regs = t.regs; slots = t.slots; transcript = h.transcript; largest = h.largest; cpu = ap₂ numbers_before h.cpu t.cpu }

broken_agree : (serial : ℕ) (m s : Machine) (o p : Outcome (Unit {0})) (why reason : Stopping) (log rows : List LogRow) → IsThinned m s → Agree o p → why ≡ reason → log ≡ rows → GuardedAgree (broken_by serial m o why log) (broken_by serial s p reason rows)
broken_agree serial m s (Go a x lines) (Go b y los) why reason log rows t h same equal = (refl, refl, same, equal, t)
broken_agree serial m s (Halt c lines) (Halt d los) why reason log rows t h same equal = (refl, refl, same, equal, t)
broken_agree serial m s (Spent lines) (Spent los) why reason log rows t h same equal = (refl, refl, same, equal, t)
broken_agree serial m s _ _ why reason log rows t h same equal = absurd h

kept_agree : (serial : ℕ) (m s : Machine) (o p : Outcome (Unit {0})) → IsThinned m s → Agree (park m) (park s) → Agree o p → GuardedAgree (kept_after serial m o) (kept_after serial s p)
kept_agree serial m s (Go a x log) (Go b y rows) t q h = (refl, refl, h.1, allowed_thinned (serial + 1) (as_before m x) (as_before s y) (before_thinned m s x y t h.2))
kept_agree serial m s (Halt c log) (Halt d rows) t q h = broken_agree serial m s (park m) (park s) (ByCause c) (ByCause d) log rows t q (ap (λ e. ByCause e) h.0) h.1
kept_agree serial m s (Spent log) (Spent rows) t q h = broken_agree serial m s (park m) (park s) BySpentNames BySpentNames log rows t q refl h
kept_agree serial m s _ _ t q h = absurd h

step_agree : (serial : ℕ) (before : List LogRow) (m s : Machine) (o p : Outcome Step) → IsThinned m s → Agree o p → GuardedAgree (guarded_step serial before m o) (guarded_step serial before s p)
step_agree serial before m s (Go a x log) (Go b y rows) t h = subst (λ z. GuardedAgree (guarded_step serial before m (Go a x log)) (guarded_step serial before s (Go z y rows))) h.0 (by a)
  where
    by : (a : Step) → GuardedAgree (guarded_step serial before m (Go a x log)) (guarded_step serial before s (Go a y rows))
    by Next = (refl, refl, refl, h.2)
    by Quit = (refl, refl, refl, h.2)
    by Keep = kept_agree serial x y (loaded x) (loaded y) h.2 ((respects (λ w. law-park {w = w})).agree x y h.2) (loaded-agree.agree x y h.2)
step_agree serial before m s (Halt c log) (Halt d rows) t h = (refl, refl, ap (λ e. ByCause e) h.0, ap (λ l. before ++ l) h.1, t)
step_agree serial before m s (Spent log) (Spent rows) t h = (refl, refl, refl, ap (λ l. before ++ l) h, t)
step_agree serial before m s _ _ t h = absurd h

more_agree : (events : List Line) (a b : Guarded) → RespectsThinning (cycle events) → GuardedAgree a b → GuardedAgree (guarded_more events a) (guarded_more events b)
more_agree events (Going a m serial rows) (Going b s number lines) law h =
    subst (λ x. GuardedAgree (guarded_more events (Going a m serial rows)) (guarded_more events (Going x s number lines))) h.0
    (subst (λ x. GuardedAgree (guarded_more events (Going a m serial rows)) (guarded_more events (Going a s x lines))) h.1
    (subst (λ x. GuardedAgree (guarded_more events (Going a m serial rows)) (guarded_more events (Going a s serial x))) h.2 (by a)))
  where
    by : (a : Step) → GuardedAgree (guarded_more events (Going a m serial rows)) (guarded_more events (Going a s serial rows))
    by Next = step_agree serial rows m s (cycle events m) (cycle events s) h.3 (law.agree m s h.3)
    by Quit = (refl, refl, refl, h.3)
    by Keep = (refl, refl, refl, h.3)
more_agree events (Broken stage m serial why log) (Broken place s number reason rows) law h = h
more_agree events _ _ law h = absurd h

on_agree : (events : List Line) (k : ℕ) (a b : Guarded) → RespectsThinning (cycle events) → GuardedAgree a b → GuardedAgree (guarded_on events k a) (guarded_on events k b)
unfolding guarded_on
on_agree events zero a b law h = h
on_agree events (suc k) a b law h = more_agree events (guarded_on events k a) (guarded_on events k b) law (on_agree events k a b law h)

pub guarded-agree : (events : List Line) (k serial : ℕ) (m s : Machine) → IsThinned m s → GuardedAgree (guarded events k serial m) (guarded events k serial s)
unfolding guarded
guarded-agree events k serial m s h = on_agree events k (Going Next (allowed serial m) serial []) (Going Next (allowed serial s) serial []) (respects (λ w. law-cycle {w = w} events)) (refl, refl, refl, allowed_thinned serial m s h)

-- ---- j + k cycles

pub on_adds : (events : List Line) (j k : ℕ) (g : Guarded) → guarded_on events (j + k) g ≡ guarded_on events k (guarded_on events j g)
unfolding guarded_on
on_adds events j zero g = ap (λ i. guarded_on events i g) (let e : j + 0 ≡ j = omega arith in e)
on_adds events j (suc k) g = ap (λ i. guarded_on events i g) (let e : j + suc k ≡ suc (j + k) = omega arith in e) ∙ ap (guarded_more events) (on_adds events j k g)

on_once : (events : List Line) (g : Guarded) → guarded_on events 1 g ≡ guarded_more events g
unfolding guarded_on
on_once events g = refl

pub guarded_adds : (events : List Line) (j k serial : ℕ) (m : Machine) → guarded events (j + k) serial m ≡ guarded_on events k (guarded events j serial m)
unfolding guarded
guarded_adds events j k serial m = on_adds events j k (Going Next (allowed serial m) serial [])

-- ---- up to a checkpoint

due_first : (m : Machine) (rows : List LogRow) → rows ≡ rows_due m m rows
due_first m rows = sym (ap (λ b. if b then rows else []) (eq-eqb m.cpu.ran m.cpu.ran refl))

due_later : (m n : Machine) (rows : List LogRow) → (n.cpu.ran ≡ m.cpu.ran → ⊥) → [] ≡ rows_due m n rows
due_later m n rows apart = sym (ap (λ b. if b then rows else []) (ne_eqb n.cpu.ran m.cpu.ran apart))

-- what one cycle more makes of a run that goes on
abbrev AsRun : List Line → ℕ → List LogRow → Machine → Run → Guarded → Type 0
AsRun events serial rows m (Ran Next n) g = g ≡ Going Next n serial (rows_due m n rows)
AsRun events serial rows m (Ran Quit n) g = g ≡ Going Quit n serial []
AsRun events serial rows m (Ran Keep n) g = Unit {0}
AsRun events serial rows m (Stopped n why log) g = g ≡ Broken AtBytecode n serial why (rows_due m n rows ++ log)

as_more : (events : List Line) (serial k : ℕ) (rows : List LogRow) (m : Machine) (r : Run) (g : Guarded) → ((n : Machine) → r ≡ Ran Next n → n.cpu.ran ≡ m.cpu.ran + k) → AsRun events serial rows m r g → AsRun events serial rows m (one_more events r) (guarded_more events g)
as_more events serial k rows m (Ran Next x) g counted h = by (cycle events x) refl
  where
    by : (o : Outcome Step) → cycle events x ≡ o → AsRun events serial rows m (run_of x o) (guarded_more events g)
    by (Go Next n log) e =
        let one : n.cpu.ran ≡ x.cpu.ran + 1 = cycle_counts events Next x n (ap (run_of x) e) in
        let all = counted x refl in
        ap (guarded_more events) h ∙ ap (guarded_step serial (rows_due m x rows) x) e ∙ ap (Going Next n serial) (due_later m n rows (λ same. omega arith))
    by (Go Quit n log) e = ap (guarded_more events) h ∙ ap (guarded_step serial (rows_due m x rows) x) e
    by (Go Keep n log) e = tt
    by (Halt c log) e = ap (guarded_more events) h ∙ ap (guarded_step serial (rows_due m x rows) x) e
    by (Spent log) e = ap (guarded_more events) h ∙ ap (guarded_step serial (rows_due m x rows) x) e
as_more events serial k rows m (Ran Quit x) g counted h = ap (guarded_more events) h
as_more events serial k rows m (Ran Keep x) g counted h = tt
as_more events serial k rows m (Stopped x why log) g counted h = ap (guarded_more events) h

as_run : (events : List Line) (serial k : ℕ) (rows : List LogRow) (m : Machine) → AsRun events serial rows m (run events k m) (guarded_on events k (Going Next m serial rows))
unfolding run guarded_on
as_run events serial zero rows m = ap (Going Next m serial) (due_first m rows)
as_run events serial (suc k) rows m = as_more events serial k rows m (run events k m) (guarded_on events k (Going Next m serial rows)) (λ n e. runs_count events k m n e) (as_run events serial k rows m)

pub goes_next : (events : List Line) (k serial : ℕ) (rows : List LogRow) (m n : Machine) → run events k m ≡ Ran Next n → guarded_on events k (Going Next m serial rows) ≡ Going Next n serial (rows_due m n rows)
goes_next events k serial rows m n e = subst (λ r. AsRun events serial rows m r (guarded_on events k (Going Next m serial rows))) e (as_run events serial k rows m)

pub goes_quit : (events : List Line) (k serial : ℕ) (rows : List LogRow) (m n : Machine) → run events k m ≡ Ran Quit n → guarded_on events k (Going Next m serial rows) ≡ Going Quit n serial []
goes_quit events k serial rows m n e = subst (λ r. AsRun events serial rows m r (guarded_on events k (Going Next m serial rows))) e (as_run events serial k rows m)

pub goes_stop : (events : List Line) (k serial : ℕ) (rows : List LogRow) (m n : Machine) (why : Stopping) (log : List LogRow) → run events k m ≡ Stopped n why log → guarded_on events k (Going Next m serial rows) ≡ Broken AtBytecode n serial why (rows_due m n rows ++ log)
goes_stop events k serial rows m n why log e = subst (λ r. AsRun events serial rows m r (guarded_on events k (Going Next m serial rows))) e (as_run events serial k rows m)

-- the number of the bytecode that did 97, and what becomes of its machine
abbrev KeepsAt : List Line → ℕ → ℕ → List LogRow → Machine → Machine → Type 0
KeepsAt events k serial rows m n = (j : ℕ) × (j < k) × (n.cpu.ran ≡ m.cpu.ran + (j + 1)) × (guarded_on events (j + 1) (Going Next m serial rows) ≡ kept_after serial n (loaded n))

pub goes_keep : (events : List Line) (k serial : ℕ) (rows : List LogRow) (m n : Machine) → run events k m ≡ Ran Keep n → (j : ℕ) × (j < k) × (n.cpu.ran ≡ m.cpu.ran + (j + 1)) × (guarded_on events (j + 1) (Going Next m serial rows) ≡ kept_after serial n (loaded n))
unfolding run
goes_keep events zero serial rows m n e = let no : Ran Next m ≡ Ran Keep n = e in absurd (cc)
goes_keep events (suc k) serial rows m n e = go (run events k m) refl e (λ h. goes_keep events k serial rows m n h)
  where
    go : (r : Run) → run events k m ≡ r → one_more events r ≡ Ran Keep n → (run events k m ≡ Ran Keep n → KeepsAt events k serial rows m n) → KeepsAt events (suc k) serial rows m n
    go (Ran Next x) h f past = by (cycle events x) refl f
      where
        by : (o : Outcome Step) → cycle events x ≡ o → run_of x o ≡ Ran Keep n → KeepsAt events (suc k) serial rows m n
        by (Go end y log) i g =
            let same : end ≡ Keep = cc in
            let left : y ≡ n = cc in
            let is : cycle events x ≡ Go Keep n log = i ∙ ap (λ s. Go s y log) same ∙ ap (λ z. Go Keep z log) left in
            let one : n.cpu.ran ≡ x.cpu.ran + 1 = cycle_counts events Keep x n (ap (run_of x) is) in
            let all : x.cpu.ran ≡ m.cpu.ran + k = runs_count events k m x h in
            (k, (omega arith), (omega arith), on_adds events k 1 (Going Next m serial rows) ∙ ap (guarded_on events 1) (goes_next events k serial rows m x h) ∙ on_once events (Going Next x serial (rows_due m x rows)) ∙ ap (guarded_step serial (rows_due m x rows) x) is)
        by (Halt c log) i g = let no : Stopped x (ByCause c) log ≡ Ran Keep n = g in absurd (cc)
        by (Spent log) i g = let no : Stopped x BySpentNames log ≡ Ran Keep n = g in absurd (cc)
    go (Ran Quit x) h f past = let no : Ran Quit x ≡ Ran Keep n = f in absurd (cc)
    go (Ran Keep x) h f past = let before = past (h ∙ f) in (before.0, (let low = before.1 in omega arith), before.2, before.3)
    go (Stopped x why log) h f past = let no : Stopped x why log ≡ Ran Keep n = f in absurd (cc)

-- ---- where nothing is kept

pub nothing_kept : (events : List Line) (k serial : ℕ) (m : Machine) → ((n : Machine) → run events k (allowed serial m) ≡ Ran Keep n → ⊥) → guarded events k serial m ≡ guarded_of serial (run events k (allowed serial m))
unfolding guarded
nothing_kept events k serial m none = go (run events k (allowed serial m)) refl
  where
    no_rows : (n : Machine) → rows_due (allowed serial m) n [] ≡ []
    no_rows n = same (n.cpu.ran == m.cpu.ran)
      where
        same : (b : Bool) → ◌≡◌ {A = List LogRow} (if b then [] else []) []
        same true = refl
        same false = refl

    go : (r : Run) → run events k (allowed serial m) ≡ r → guarded_on events k (Going Next (allowed serial m) serial []) ≡ guarded_of serial r
    go (Ran Next n) e = goes_next events k serial [] (allowed serial m) n e ∙ ap (Going Next n serial) (no_rows n)
    go (Ran Quit n) e = goes_quit events k serial [] (allowed serial m) n e
    go (Ran Keep n) e = absurd (none n e)
    go (Stopped n why log) e = goes_stop events k serial [] (allowed serial m) n why log e ∙ ap (λ (rows : List LogRow). Broken AtBytecode n serial why (rows ++ log)) (no_rows n)

pub last_serial : (events : List Line) (k serial : ℕ) (m : Machine) → LAST_SERIAL ≤ serial → guarded events k serial m ≡ guarded_of serial (run events k (allowed serial m))
last_serial events k serial m high = nothing_kept events k serial m (λ n e. run_never_keeps events k (allowed serial m) n (shut (nat_lt serial LAST_SERIAL) refl) e)
  where
    shut : (b : Bool) → nat_lt serial LAST_SERIAL ≡ b → nat_lt serial LAST_SERIAL ≡ false
    shut true e = let low = ltb-true serial LAST_SERIAL e in absurd (omega arith)
    shut false e = e

-- ---- serials and counts

-- P holds of the machine and the serial of a run that goes on or ended
abbrev OnGoing : Guarded → (Step → Machine → ℕ → Type 0) → Type 0
OnGoing (Going end m serial rows) P = P end m serial
OnGoing (Broken stage m serial why log) P = Unit {0}

-- of one that broke there is nothing to say
broken_free : (serial : ℕ) (m : Machine) (o : Outcome (Unit {0})) (why : Stopping) (log : List LogRow) (P : Step → Machine → ℕ → Type 0) → OnGoing (broken_by serial m o why log) P
broken_free serial m (Go a p rows) why log P = tt
broken_free serial m (Halt c rows) why log P = tt
broken_free serial m (Spent rows) why log P = tt

abbrev HasVault : Step → Machine → ℕ → Type 0
HasVault end m serial = m.cpu.vault ≡ nat_lt serial LAST_SERIAL

vault_more : (events : List Line) (g : Guarded) → OnGoing g HasVault → OnGoing (guarded_more events g) HasVault
vault_more events (Going Next m serial rows) h = by (cycle events m) refl
  where
    kept : (n : Machine) (o : Outcome (Unit {0})) → OnGoing (kept_after serial n o) HasVault
    kept n (Go a s log) = refl
    kept n (Halt c log) = broken_free serial n (park n) (ByCause c) log HasVault
    kept n (Spent log) = broken_free serial n (park n) BySpentNames log HasVault

    by : (o : Outcome Step) → cycle events m ≡ o → OnGoing (guarded_step serial rows m o) HasVault
    by (Go Next n log) e = cycle_leaves events m n Next log e ∙ h
    by (Go Quit n log) e = cycle_leaves events m n Quit log e ∙ h
    by (Go Keep n log) e = kept n (loaded n)
    by (Halt c log) e = tt
    by (Spent log) e = tt
vault_more events (Going Quit m serial rows) h = h
vault_more events (Going Keep m serial rows) h = h
vault_more events (Broken stage m serial why log) h = tt

vault_on : (events : List Line) (k : ℕ) (g : Guarded) → OnGoing g HasVault → OnGoing (guarded_on events k g) HasVault
unfolding guarded_on
vault_on events zero g h = h
vault_on events (suc k) g h = vault_more events (guarded_on events k g) (vault_on events k g h)

pub guarded_vault : (events : List Line) (k serial last : ℕ) (m n : Machine) (end : Step) (rows : List LogRow) → guarded events k serial m ≡ Going end n last rows → n.cpu.vault ≡ nat_lt last LAST_SERIAL
unfolding guarded
guarded_vault events k serial last m n end rows e = subst (λ g. OnGoing g HasVault) e (vault_on events k (Going Next (allowed serial m) serial []) refl)

-- the serial of what was kept last, and a 97 that kept nothing, are so many
abbrev HasKept : ℕ → Guarded → Type 0
HasKept all (Going end m serial rows) = serial ≡ all
HasKept all (Broken stage m serial why log) = serial + times_unkept stage ≡ all

broken_kept : (serial all : ℕ) (m : Machine) (o : Outcome (Unit {0})) (why : Stopping) (log : List LogRow) → serial ≡ all → HasKept (all + 1) (broken_by serial m o why log)
broken_kept serial all m (Go a p rows) why log h = omega arith
broken_kept serial all m (Halt c rows) why log h = omega arith
broken_kept serial all m (Spent rows) why log h = omega arith

serial_more : (events : List Line) (g : Guarded) (all : ℕ) → HasKept all g → HasKept (all + (if keeps_next events g then 1 else 0)) (guarded_more events g)
serial_more events (Going Next m serial rows) all h = by (cycle events m)
  where
    kept : (n : Machine) (o : Outcome (Unit {0})) → HasKept (all + 1) (kept_after serial n o)
    kept n (Go a s log) = ap (λ i. i + 1) h
    kept n (Halt c log) = broken_kept serial all n (park n) (ByCause c) log h
    kept n (Spent log) = broken_kept serial all n (park n) BySpentNames log h

    by : (o : Outcome Step) → HasKept (all + (if is_keep o then 1 else 0)) (guarded_step serial rows m o)
    by (Go Next n log) = omega arith
    by (Go Quit n log) = omega arith
    by (Go Keep n log) = kept n (loaded n)
    by (Halt c log) = omega arith
    by (Spent log) = omega arith
serial_more events (Going Quit m serial rows) all h = omega arith
serial_more events (Going Keep m serial rows) all h = omega arith
serial_more events (Broken stage m serial why log) all h = omega arith

serial_on : (events : List Line) (k : ℕ) (g : Guarded) (first : ℕ) → HasKept first g → HasKept (first + times_kept events k g) (guarded_on events k g)
unfolding guarded_on
serial_on events zero g first h = subst (λ i. HasKept i g) (let e : first ≡ first + 0 = omega arith in e) h
serial_on events (suc k) g first h =
    let one = if keeps_next events (guarded_on events k g) then 1 else 0 in
    subst (λ i. HasKept i (guarded_on events (suc k) g)) (let e : first + times_kept events k g + one ≡ first + (times_kept events k g + one) = omega arith in e) (serial_more events (guarded_on events k g) (first + times_kept events k g) (serial_on events k g first h))

pub guarded_serial : (events : List Line) (k serial last : ℕ) (m n : Machine) (end : Step) (rows : List LogRow) → guarded events k serial m ≡ Going end n last rows → last ≡ serial + times_kept events k (Going Next (allowed serial m) serial [])
unfolding guarded
guarded_serial events k serial last m n end rows e = subst (HasKept (serial + times_kept events k (Going Next (allowed serial m) serial []))) e (serial_on events k (Going Next (allowed serial m) serial []) serial refl)

pub broken_serial : (events : List Line) (k serial last : ℕ) (m n : Machine) (stage : Stage) (why : Stopping) (log : List LogRow) → guarded events k serial m ≡ Broken stage n last why log → last + times_unkept stage ≡ serial + times_kept events k (Going Next (allowed serial m) serial [])
unfolding guarded
broken_serial events k serial last m n stage why log e = subst (HasKept (serial + times_kept events k (Going Next (allowed serial m) serial []))) e (serial_on events k (Going Next (allowed serial m) serial []) serial refl)

-- a run that goes on has counted each cycle
abbrev HasRun : ℕ → Step → Machine → ℕ → Type 0
HasRun all Next m serial = m.cpu.ran ≡ all
HasRun all Quit m serial = m.cpu.ran ≤ all
HasRun all Keep m serial = m.cpu.ran ≤ all

count_more : (events : List Line) (g : Guarded) (all : ℕ) → OnGoing g (HasRun all) → OnGoing (guarded_more events g) (HasRun (all + 1))
count_more events (Going Next m serial rows) all h = by (cycle events m) refl
  where
    kept : (n : Machine) (o : Outcome (Unit {0})) → n.cpu.ran ≡ all + 1 → OnGoing (kept_after serial n o) (HasRun (all + 1))
    kept n (Go a s log) e = e
    kept n (Halt c log) e = broken_free serial n (park n) (ByCause c) log (HasRun (all + 1))
    kept n (Spent log) e = broken_free serial n (park n) BySpentNames log (HasRun (all + 1))

    by : (o : Outcome Step) → cycle events m ≡ o → OnGoing (guarded_step serial rows m o) (HasRun (all + 1))
    by (Go Next n log) e = cycle_counts events Next m n (ap (run_of m) e) ∙ ap (λ i. i + 1) h
    by (Go Quit n log) e = let one = cycle_counts events Quit m n (ap (run_of m) e) in omega arith
    by (Go Keep n log) e = kept n (loaded n) (cycle_counts events Keep m n (ap (run_of m) e) ∙ ap (λ i. i + 1) h)
    by (Halt c log) e = tt
    by (Spent log) e = tt
count_more events (Going Quit m serial rows) all h = omega arith
count_more events (Going Keep m serial rows) all h = omega arith
count_more events (Broken stage m serial why log) all h = tt

count_on : (events : List Line) (k : ℕ) (m : Machine) (serial : ℕ) (rows : List LogRow) → OnGoing (guarded_on events k (Going Next m serial rows)) (HasRun (m.cpu.ran + k))
unfolding guarded_on
count_on events zero m serial rows = omega arith
count_on events (suc k) m serial rows = subst (λ i. OnGoing (guarded_on events (suc k) (Going Next m serial rows)) (HasRun i)) (let e : m.cpu.ran + k + 1 ≡ m.cpu.ran + suc k = omega arith in e) (count_more events (guarded_on events k (Going Next m serial rows)) (m.cpu.ran + k) (count_on events k m serial rows))

pub guarded_counts : (events : List Line) (k serial last : ℕ) (m n : Machine) (rows : List LogRow) → guarded events k serial m ≡ Going Next n last rows → n.cpu.ran ≡ m.cpu.ran + k
unfolding guarded
guarded_counts events k serial last m n rows e = subst (λ g. OnGoing g (HasRun (m.cpu.ran + k))) e (count_on events k (allowed serial m) serial [])

-- ---- where a checkpoint breaks

pub breaks_in_parking : (m : Machine) (serial : ℕ) (c : Cause) (log : List LogRow) → park m ≡ Halt c log → kept_after serial m (loaded m) ≡ Broken AtParking m serial (ByCause c) log
unfolding loaded ◌>>=◌
breaks_in_parking m serial c log e = ap (λ (o : Outcome (Unit {0})). kept_after serial m (then_do o (λ _. start_on_kept))) e ∙ ap (λ (o : Outcome (Unit {0})). broken_by serial m o (ByCause c) log) e

pub breaks_in_the_start : (m p : Machine) (serial : ℕ) (c : Cause) (rows log : List LogRow) → park m ≡ Go tt p rows → loaded m ≡ Halt c log → kept_after serial m (loaded m) ≡ Broken AtStart m (serial + 1) (ByCause c) log
breaks_in_the_start m p serial c rows log e f = ap (kept_after serial m) f ∙ ap (λ (o : Outcome (Unit {0})). broken_by serial m o (ByCause c) log) e
