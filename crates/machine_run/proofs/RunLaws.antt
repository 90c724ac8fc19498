-- What a whole run over a memory says of the model's run over its heap.
-- `EndsAs` compares a whole run over a memory with `ending` of the model. What the memory keeps is what the model's parked
-- machine keeps (`parked-kept`): its heap is a thinning of the machine's, whose heap is bounded since the law of whole runs, at
-- one heap, says that the machine is whole.
use Rattle.std.proofs.Common.{◌≡◌, ℕ, pos, Bool, false, true, List, [], Option, Some, None, Result, IsTrue, refl, sym, ◌∙◌, ap, subst}
use Rattle.long_names.specs.declared.value.Value.TheVariants.{Int}
use Rattle.long_names.specs.Heap.{Heap, Has}
use Rattle.long_names.specs.Kept.{kept, no_roots}
use Rattle.long_names.specs.Thin.{IsThinner, IsWhole}
use Rattle.long_names.proofs.KeptLaws.{kept-thinning}
use Rattle.long_names.proofs.ThinLemmas.{IsThinner-refl, IsThinning-refl, IsWhole-bounded}
use Rattle.object_memory.specs.Told.{Told, IsReady}
use Rattle.object_memory.specs.Plain.{fresh}
use Rattle.blue_model.specs.declared.event.Line.{Line}
use Rattle.blue_model.specs.State.{State, no_state}
use Rattle.blue_model.specs.Cycle.{Ending, Parked, Stuck, ending}
use Rattle.blue_model.specs.Law.{EndingsAgree, HasState}
use Rattle.blue_model.specs.Logs.{Course, course}
use Rattle.blue_model.specs.Earlier.{ending_with_earlier, course_with_earlier}
use Rattle.blue_model.proofs.RunLaws.{endings-agree}
use Rattle.blue_model.specs.Endings.{OnParked}
use Rattle.machine_run.specs.declared.running.Finished.{Finished}
use Rattle.machine_run.specs.declared.running.Halted.{Halted}
use Rattle.machine_run.specs.Run.{Begins, EndsAs}

-- a fresh memory of a heap begins with it
pub begins-fresh : (h : Heap) (t : Told) → t ≡ fresh h → Begins h t
begins-fresh h t e = subst (Begins h) (sym e) record {
  heap = IsThinner-refl h;
  slots = λ i. refl;
  rows = λ class selector method. refl;
  base = tt;
}

no_earlier : (c : Course) → course_with_earlier [] c ≡ c
no_earlier c = ap (λ e. record c { ending = e }) (go c.ending)
  where
    go : (e : Ending) → ending_with_earlier [] e ≡ e
    go (Parked end m drawn) = refl
    go (Stuck why ran said) = refl

-- over a fresh memory a run says just what the model's run says
pub ends-fresh : (h : Heap) (t new : Told) (run : Result Finished Halted) (events : List Line) (steps : ℕ) (state : State) → t ≡ fresh h → IsTrue t.tells → (IsTrue t.tells → (k : Heap) → Begins k t → EndsAs new steps run (course_with_earlier t.transcript (course events steps state k))) → EndsAs new steps run (course events steps state h)
ends-fresh h t new run events steps state e tells ends =
    subst (EndsAs new steps run) (ap (λ (u : Told). course_with_earlier u.transcript (course events steps state h)) e ∙ no_earlier (course events steps state h)) (ends tells h (begins-fresh h t e))

-- no state names nothing
pub nameless : (h : Heap) → HasState no_state h
nameless h = record { display = λ n e. none n e; input = λ n e. none n e; timer = λ n e. none n e }
  where
    none : (n : ℕ) → ◌≡◌ {A = Option ℕ} None (Some n) → Has h n
    none n e = absurd (cc)

-- a whole heap runs as itself
agrees : (events : List Line) (steps : ℕ) (state : State) (h : Heap) → IsWhole h (λ r. Int (pos 0)) (λ i. None) → HasState state h → EndingsAgree (ending events steps state h) (ending events steps state h)
agrees events steps state h whole has = endings-agree events steps state h h (record { thinning = IsThinning-refl h (λ r. Int (pos 0)) (λ i. None) whole; bounded = IsWhole-bounded h (λ r. Int (pos 0)) (λ i. None) whole; regs = refl; slots = refl; transcript = refl; cpu = refl; largest = refl }) has

-- what a memory keeps is what the model's parked machine keeps
pub parked-kept : (events : List Line) (steps : ℕ) (state : State) (h : Heap) (new : Told) → IsWhole h (λ r. Int (pos 0)) (λ i. None) → HasState state h → OnParked (ending events steps state h) (λ m. IsThinner m.heap new.heap) → IsReady new → IsTrue new.tells → OnParked (ending events steps state h) (λ m. kept new.heap no_roots ≡ kept m.heap no_roots)
parked-kept events steps state h new whole has ends ready tells = go (ending events steps state h) (agrees events steps state h whole has) ends
  where
    go : (e : Ending) → EndingsAgree e e → OnParked e (λ m. IsThinner m.heap new.heap) → OnParked e (λ m. kept new.heap no_roots ≡ kept m.heap no_roots)
    go (Parked end m picture) agree thinner = kept-thinning m.heap new.heap new.regs new.slots no_roots record { thinner = thinner; whole = ready.whole tells } agree.2.bounded (λ n e. let no : ◌≡◌ {A = Bool} false true = e in absurd (cc))
    go (Stuck why ran said) agree ends = absurd ends
