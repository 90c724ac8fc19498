use Rattle.blue_model.specs.declared.event.Line.{Line}
use Rattle.std.proofs.Common.{◌≡◌, ℕ, zero, suc, ◌+◌, refl, ap, ◌∙◌, arith, List}
use Rattle.blue_model.specs.declared.step.Step.TheVariants.{Next, Quit, Keep}
use Rattle.blue_model.specs.Machine.{Machine}
use Rattle.blue_model.specs.Cycle.{Run, Ran, Stopped, run, one_more}
use Rattle.blue_model.specs.Law.{go_on}
use Rattle.blue_model.proofs.laws.runs_add_up.Goals as goal

none : (events : List Line) (r : Run) → r ≡ go_on events zero r
unfolding run
none events (Ran Next m) = refl
none events (Ran Quit m) = refl
none events (Ran Keep m) = refl
none events (Stopped m why log) = refl

one : (events : List Line) (k : ℕ) (r : Run) → one_more events (go_on events k r) ≡ go_on events (suc k) r
unfolding run
one events k (Ran Next m) = refl
one events k (Ran Quit m) = refl
one events k (Ran Keep m) = refl
one events k (Stopped m why log) = refl

add_up : (events : List Line) (j k : ℕ) (m : Machine) → run events (j + k) m ≡ go_on events k (run events j m)
unfolding run
add_up events j zero m = ap (λ i. run events i m) (let e : j + 0 ≡ j = omega arith in e) ∙ none events (run events j m)
add_up events j (suc k) m = ap (λ i. run events i m) (let e : j + suc k ≡ suc (j + k) = omega arith in e) ∙ ap (one_more events) (add_up events j k m) ∙ one events k (run events j m)

pub returns : goal.returns
returns c = add_up
