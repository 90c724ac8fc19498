-- A run counts its bytecodes.
use Rattle.blue_model.specs.declared.event.Line.{Line}
use Rattle.std.proofs.Common.{zero, suc, ◌≡◌, ℕ, ◌+◌, ◌≤◌, true, [], refl, sym, ◌∙◌, ap, arith, List}
use Rattle.blue_model.specs.declared.step.Step.{Step}
use Rattle.blue_model.specs.declared.step.Step.TheVariants.{Next, Quit, Keep}
use Rattle.blue_model.specs.Machine.{Machine, Outcome, Go, Halt, Spent, after, then_do, ◌>>=◌, done, numbers, set_numbers}
use Rattle.blue_model.specs.Endings.{is_last}
use Rattle.blue_model.specs.Cycle.{count_bytecode, cycle, turn, Run, Ran, Stopped, run_of, one_more, run}

inside : (end last : Step) (m n : Machine) → Ran end m ≡ Ran last n → m ≡ n
inside end last m n e = cc

pub cycle_counts : (events : List Line) (end : Step) (m n : Machine) → run_of m (cycle events m) ≡ Ran end n → n.cpu.ran ≡ m.cpu.ran + 1
unfolding cycle ◌>>=◌ done numbers set_numbers count_bytecode
cycle_counts events end m n e = go (turn events m) e
  where
    go : (o : Outcome Step) → run_of m (after [] (then_do o (λ last j. then_do (count_bytecode m.cpu.ran j) (λ _. done last)))) ≡ Ran end n → n.cpu.ran ≡ m.cpu.ran + 1
    go (Go last j rows) f = let next : Machine = record j { cpu = record j.cpu { ran = m.cpu.ran + 1 } } in sym (ap (λ (x : Machine). x.cpu.ran) (inside last end next n f))
    go (Halt c rows) f = absurd (cc)
    go (Spent rows) f = absurd (cc)

pub runs_count : (events : List Line) (k : ℕ) (m n : Machine) → run events k m ≡ Ran Next n → n.cpu.ran ≡ m.cpu.ran + k
unfolding run
runs_count events zero m n e = let same : m ≡ n = inside Next Next m n e in sym (ap (λ (x : Machine). x.cpu.ran) same) ∙ omega arith
runs_count events (suc k) m n e = go (run events k m) e (λ x f. runs_count events k m x f)
  where
    go : (r : Run) → one_more events r ≡ Ran Next n → ((x : Machine) → r ≡ Ran Next x → x.cpu.ran ≡ m.cpu.ran + k) → n.cpu.ran ≡ m.cpu.ran + suc k
    go (Ran Next x) f before = let one = cycle_counts events Next x n f in let sum = before x refl in omega arith
    go (Ran Quit x) f before = absurd (cc)
    go (Ran Keep x) f before = absurd (cc)
    go (Stopped x why log) f before = let no : Stopped x why log ≡ Ran Next n = f in absurd (cc)

-- of the last bytecode of a run, too
pub last_counts : (events : List Line) (k : ℕ) (end : Step) (m n : Machine) → is_last end ≡ true → run events k m ≡ Ran end n → n.cpu.ran ≤ m.cpu.ran + k
unfolding run
last_counts events zero Next m n last e = absurd (cc)
last_counts events zero Quit m n last e = absurd (cc)
last_counts events zero Keep m n last e = absurd (cc)
last_counts events (suc k) end m n last e = go (run events k m) e (λ x f. runs_count events k m x f) (λ x f. last_counts events k end m x last f)
  where
    go : (r : Run) → one_more events r ≡ Ran end n → ((x : Machine) → r ≡ Ran Next x → x.cpu.ran ≡ m.cpu.ran + k) → ((x : Machine) → r ≡ Ran end x → x.cpu.ran ≤ m.cpu.ran + k) → n.cpu.ran ≤ m.cpu.ran + suc k
    go (Ran Next x) f before past = let one = cycle_counts events end x n f in let sum = before x refl in omega arith
    go (Ran Quit x) f before past = let few = past n f in omega arith
    go (Ran Keep x) f before past = let few = past n f in omega arith
    go (Stopped x why log) f before past = let no : Stopped x why log ≡ Ran end n = f in absurd (cc)

-- and it came as the last of as many cycles
pub last_came : (events : List Line) (k : ℕ) (end : Step) (m n : Machine) → is_last end ≡ true → run events k m ≡ Ran end n → (j : ℕ) × (j ≤ k) × (run events j m ≡ Ran end n) × (n.cpu.ran ≡ m.cpu.ran + j)
unfolding run
last_came events zero Next m n last e = absurd (cc)
last_came events zero Quit m n last e = absurd (cc)
last_came events zero Keep m n last e = absurd (cc)
last_came events (suc k) end m n last e = go (run events k m) refl e (λ x f. runs_count events k m x f) (λ x f. last_came events k end m x last f)
  where
    go : (r : Run) → run events k m ≡ r → one_more events r ≡ Ran end n → ((x : Machine) → run events k m ≡ Ran Next x → x.cpu.ran ≡ m.cpu.ran + k) → ((x : Machine) → run events k m ≡ Ran end x → (j : ℕ) × (j ≤ k) × (run events j m ≡ Ran end x) × (x.cpu.ran ≡ m.cpu.ran + j)) → (j : ℕ) × (j ≤ suc k) × (run events j m ≡ Ran end n) × (n.cpu.ran ≡ m.cpu.ran + j)
    go (Ran Next x) g f before past = let one = cycle_counts events end x n f in let sum = before x g in (suc k, omega arith, ap (one_more events) g ∙ f, omega arith)
    go (Ran Quit x) g f before past = let p = past n (g ∙ f) in let few = p.1 in (p.0, omega arith, p.2, p.3)
    go (Ran Keep x) g f before past = let p = past n (g ∙ f) in let few = p.1 in (p.0, omega arith, p.2, p.3)
    go (Stopped x why log) g f before past = let no : Stopped x why log ≡ Ran end n = f in absurd (cc)

-- a run that went through, or that its last bytecode ended, has come there in as many cycles as bytecodes
pub came_at : (events : List Line) (k : ℕ) (end : Step) (m n : Machine) → m.cpu.ran ≡ 0 → run events k m ≡ Ran end n → (n.cpu.ran ≤ k) × (run events n.cpu.ran m ≡ Ran end n)
came_at events k Next m n fresh e = let all = runs_count events k m n e in let same : n.cpu.ran ≡ k = omega arith in (omega arith, ap (λ j. run events j m) same ∙ e)
came_at events k Quit m n fresh e = let at = last_came events k Quit m n refl e in let few = at.1 in let count = at.3 in let same : n.cpu.ran ≡ at.0 = omega arith in (omega arith, ap (λ j. run events j m) same ∙ at.2)
came_at events k Keep m n fresh e = let at = last_came events k Keep m n refl e in let few = at.1 in let count = at.3 in let same : n.cpu.ran ≡ at.0 = omega arith in (omega arith, ap (λ j. run events j m) same ∙ at.2)
