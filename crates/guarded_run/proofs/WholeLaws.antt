-- A guarded run of a whole machine comes to whole machines.
use Rattle.std.proofs.Common.{◌≡◌, ℕ, zero, suc, Bool, false, true, List, is_some, IsTrue, refl, sym, ◌∙◌, ap, subst, arith}
use Rattle.long_names.specs.declared.value.Value.{Value}
use Rattle.long_names.specs.State.{INPUT_SEMAPHORE, TIMER_SEMAPHORE, DISPLAY}
use Rattle.long_names.specs.Heap.{Heap}
use Rattle.long_names.specs.Kept.{kept, no_roots}
use Rattle.long_names.specs.Thin.{IsThinner}
use Rattle.long_names.proofs.KeptLaws.{kept-thinner}
use Rattle.long_names.proofs.ThinLemmas.{IsWhole-bounded}
use Rattle.object_memory.specs.Told.{Told, IsReady}
use Rattle.blue_model.specs.declared.cpu.Cpu.{Cpu}
use Rattle.blue_model.specs.declared.event.Line.{Line}
use Rattle.blue_model.specs.declared.step.Step.{Step}
use Rattle.blue_model.specs.declared.step.Step.TheVariants.{Next, Quit, Keep}
use Rattle.blue_model.specs.Machine.{Machine, LogRow, Outcome, Go, Halt, Spent, at_rest}
use Rattle.blue_model.specs.Contexts.{park}
use Rattle.blue_model.specs.Cycle.{ByCause, BySpentNames, Run, Ran, run, cycle, park_and_draw, parked}
use Rattle.blue_model.specs.Earlier.{at_rest_after}
use Rattle.blue_model.specs.Endings.{OnParked}
use Rattle.blue_model.specs.Guarded.{Guarded, Going, Broken, kept_after, guarded_step, guarded_more, guarded_on}
use Rattle.blue_model.specs.Law.{IsWholeMachine, HasState, Agree, RespectsThinning, RunsAgree}
use Rattle.blue_model.specs.Loaded.{loaded}
use Rattle.blue_model.specs.Devices.{clock}
use Rattle.blue_model.specs.State.{State, begin, tick_or}
use Rattle.blue_model.proofs.LawSteps.{respects}
use Rattle.blue_model.proofs.LoadLaws.{thinned_same, loaded_whole}
use Rattle.blue_model.proofs.RuleLaws.{law-park}
use Rattle.blue_model.proofs.RunLaws.{runs-agree}
use Rattle.blue_model.proofs.StateLaws.{begins-agree}
use Rattle.blue_model.proofs.TurnLaws.{law-cycle, law-park_and_draw}
use Rattle.contexts.specs.Serves.{Stands}
use Rattle.machine_run.specs.States.{word_held, state_held}
use Rattle.guarded_run.specs.Course.{begun, ending_at, course_on}
use Rattle.guarded_run.specs.Legs.{HasWhole, IsToKeep, guarded_first}
use Rattle.guarded_run.proofs.CourseLaws.{broken_either}

whole_kept : (serial : ℕ) (m : Machine) (o : Outcome (Unit {0})) → loaded m ≡ o → IsWholeMachine m → HasWhole (kept_after serial m o)
whole_kept serial m (Go a next log) e whole = loaded_whole m next log whole e
whole_kept serial m (Halt c log) e whole = broken_either HasWhole serial m (park m) (ByCause c) log (λ stage last. whole)
whole_kept serial m (Spent log) e whole = broken_either HasWhole serial m (park m) BySpentNames log (λ stage last. whole)

whole_step : (serial : ℕ) (rows : List LogRow) (m : Machine) (o : Outcome Step) → Agree o o → IsWholeMachine m → HasWhole (guarded_step serial rows m o)
whole_step serial rows m (Go Next next log) h whole = h.2.thinning.whole
whole_step serial rows m (Go Quit next log) h whole = h.2.thinning.whole
whole_step serial rows m (Go Keep next log) h whole = whole_kept serial next (loaded next) refl h.2.thinning.whole
whole_step serial rows m (Halt c log) h whole = whole
whole_step serial rows m (Spent log) h whole = whole

whole_more : (events : List Line) (g : Guarded) → HasWhole g → HasWhole (guarded_more events g)
whole_more events (Going Next m serial rows) whole = whole_step serial rows m (cycle events m) (law.agree m m (thinned_same m whole)) whole
  where
    law : RespectsThinning (cycle events)
    law = respects (λ w. law-cycle {w = w} events)
whole_more events (Going Quit m serial rows) whole = whole
whole_more events (Going Keep m serial rows) whole = whole
whole_more events (Broken stage m serial why log) whole = whole

pub whole_on : (events : List Line) (k : ℕ) (g : Guarded) → HasWhole g → HasWhole (guarded_on events k g)
unfolding guarded_on
whole_on events zero g whole = whole
whole_on events (suc k) g whole = whole_more events (guarded_on events k g) (whole_on events k g whole)

-- so does the run of a leg
pub whole_run : (events : List Line) (k : ℕ) (m n : Machine) (end : Step) → run events k m ≡ Ran end n → IsWholeMachine m → IsWholeMachine n
whole_run events k m n end e whole = (subst (λ (r : Run). RunsAgree r r) e (runs-agree events k m m (thinned_same m whole))).1.thinning.whole

pub whole_parked : (m p : Machine) (log : List LogRow) → park m ≡ Go tt p log → IsWholeMachine m → IsWholeMachine p
whole_parked m p log e whole = (subst (λ (o : Outcome (Unit {0})). Agree o o) e (law.agree m m (thinned_same m whole))).2.thinning.whole
  where
    law : RespectsThinning park
    law = respects (λ w. law-park {w = w})

-- ---- the start

whole_begun : (serial : ℕ) (before : Machine) (o : Outcome (Unit {0})) → Agree o o → IsWholeMachine before → HasWhole (begun serial before o)
whole_begun serial before (Go a m log) h whole = h.2.thinning.whole
whole_begun serial before (Halt c log) h whole = whole
whole_begun serial before (Spent log) h whole = whole

pub whole_first : (serial : ℕ) (said : List ℕ) (state : State) (h : Heap) → IsWholeMachine (at_rest h) → HasState state h → HasWhole (guarded_first serial said state h)
whole_first serial said state h whole has = whole_begun serial (at_rest_after said h) (begin state (at_rest_after said h)) (begins-agree state (at_rest_after said h) (at_rest_after said h) (thinned_same (at_rest_after said h) whole) has) whole

-- ---- what a memory keeps

-- what is kept of a whole machine is kept of a memory that stands for it
kept_same : (m : Machine) (t : Told) → IsWholeMachine m → IsThinner m.heap t.heap → IsReady t → IsTrue t.tells → kept t.heap no_roots ≡ kept m.heap no_roots
kept_same m t whole thinner ready tells =
    let there = ready.whole tells in
    kept-thinner m.heap t.heap no_roots thinner there.closed there.known (λ n e. let no : ◌≡◌ {A = Bool} false true = e in absurd (cc)) (IsWhole-bounded m.heap m.regs m.slots whole)

pub kept_stands : (events : List Line) (g : Guarded) (serial : ℕ) (t : Told) (cpu : Cpu) (parked : Machine) → HasWhole g → IsToKeep events g serial t cpu parked → IsReady t → IsTrue t.tells → kept t.heap no_roots ≡ kept parked.heap no_roots
kept_stands events g serial t cpu parked whole k ready tells = kept_same parked t (whole_parked k.machine parked k.rows k.parks (k.whole whole)) k.stands.heap ready tells

-- what the memory's registers say of the state, those of the machine do
pub state_stands : (t : Told) (cpu : Cpu) (m : Machine) → Stands t cpu m → state_held t.regs cpu ≡ state_held m.regs m.cpu
state_stands t cpu m st =
    ap (λ v. with_words v (t.regs INPUT_SEMAPHORE) (t.regs TIMER_SEMAPHORE) cpu) (sym (st.regs DISPLAY (omega arith)))
    ∙ ap (λ v. with_words (m.regs DISPLAY) v (t.regs TIMER_SEMAPHORE) cpu) (sym (st.regs INPUT_SEMAPHORE (omega arith)))
    ∙ ap (λ v. with_words (m.regs DISPLAY) (m.regs INPUT_SEMAPHORE) v cpu) (sym (st.regs TIMER_SEMAPHORE (omega arith)))
    ∙ ap (λ (c : Cpu). state_held m.regs c) (sym st.numbers)
  where
    with_words : Value → Value → Value → Cpu → State
    with_words display input timer cpu = record { clock = clock cpu; display = word_held cpu.display display; input = word_held cpu.input input; timer = word_held (is_some cpu.timer) timer; tick = tick_or cpu.timer }

kept_drawn : (end : Step) (m : Machine) (t : Told) (o : Outcome (List ℕ)) → Agree o o → OnParked (parked end m o) (λ p. IsThinner p.heap t.heap) → IsReady t → IsTrue t.tells → OnParked (parked end m o) (λ p. kept t.heap no_roots ≡ kept p.heap no_roots)
kept_drawn end m t (Go bytes p log) h thinner ready tells = kept_same p t h.2.thinning.whole thinner ready tells
kept_drawn end m t (Halt c log) h thinner ready tells = absurd thinner
kept_drawn end m t (Spent log) h thinner ready tells = absurd thinner

kept_ended : (g : Guarded) (t : Told) → HasWhole g → OnParked (ending_at g) (λ p. IsThinner p.heap t.heap) → IsReady t → IsTrue t.tells → OnParked (ending_at g) (λ p. kept t.heap no_roots ≡ kept p.heap no_roots)
kept_ended (Going end m serial rows) t whole thinner ready tells = kept_drawn end m t (park_and_draw m) (law.agree m m (thinned_same m whole)) thinner ready tells
  where
    law : RespectsThinning park_and_draw
    law = respects (λ w. law-park_and_draw {w = w})
kept_ended (Broken stage m serial why log) t whole thinner ready tells = absurd thinner

pub kept_at_end : (events : List Line) (steps : ℕ) (g : Guarded) (t : Told) → HasWhole g → OnParked (course_on events steps g).ending (λ m. IsThinner m.heap t.heap) → IsReady t → IsTrue t.tells → OnParked (course_on events steps g).ending (λ m. kept t.heap no_roots ≡ kept m.heap no_roots)
kept_at_end events steps g t whole thinner ready tells = kept_ended (guarded_on events steps g) t (whole_on events steps g whole) thinner ready tells
