-- What was saved of a parked machine is an image, and what is read of its bytes is what was saved: the kept heap, and the machine's state.
use Rattle.std.proofs.Common.{zero, suc, ◌≡◌, ℕ, ◌<◌, ◌≤◌, Bool, true, false, cond, List, ◌++◌, Option, is_some, refl, sym, ◌∙◌, ap, ap₂, subst, arith, inl, inr}
use Rattle.std.specs.Prelude.{◌^◌}
use Rattle.long_names.specs.declared.value.Value.{Value}
use Rattle.long_names.specs.declared.value.Value.TheVariants.{Int, Ref}
use Rattle.long_names.specs.Heap.{Heap}
use Rattle.long_names.specs.Kept.{kept, no_roots}
use Rattle.long_names.specs.State.{INPUT_SEMAPHORE, TIMER_SEMAPHORE, DISPLAY}
use Rattle.image_format.specs.declared.opening.ImageHead.{ImageHead}
use Rattle.image_format.specs.declared.opening.State.{State as Words}
use Rattle.image_format.specs.Rules.{IsState, IsStateWord}
use Rattle.image_format.specs.Valid.{IsImageHeap}
use Rattle.image_format.proofs.ImageLaws.{same_image}
use Rattle.blue_model.specs.declared.event.Line.{Line}
use Rattle.blue_model.specs.Contexts.{park}
use Rattle.blue_model.specs.Machine.{Machine, LogRow, Go, after, at_rest}
use Rattle.blue_model.specs.State.{State, begin, state_of, tick_or, tick_with, word_of}
use Rattle.blue_model.specs.Loaded.{HasLoaded, start_on_kept}
use Rattle.blue_model.proofs.LoadedLaws.{loaded_found, loaded_starts}
use Rattle.blue_model.specs.Cycle.{Ending, Parked, Stuck}
use Rattle.blue_model.specs.Endings.{OnParked}
use Rattle.blue_model.specs.Logs.{course}
use Rattle.machine_run.specs.States.{model_state, state_held}
use Rattle.loom_run.specs.Ends.{IsImageOf, head_of, image_of, words_of}

-- ---- it is an image

word-is : (h : Heap) (b : Bool) (v : Value) → IsStateWord h (word_of h b v)
word-is h false v = inl refl
word-is h true (Int z) = inl refl
word-is h true (Ref n) = go (is_some (h.at n)) refl
  where
    go : (b : Bool) → is_some (h.at n) ≡ b → IsStateWord h (cond b n 0)
    go true e = inr e
    go false e = inl refl

no-tick : (timer : ℕ) (tick : Option ℕ) → timer ≡ 0 → tick_with timer tick ≡ 0
no-tick zero tick none = refl
no-tick (suc n) tick none = absurd (omega arith)

state-is : (m : Machine) → (state_of m).tick < 2 ^ 32 → IsState (kept m.heap no_roots) (words_of (state_of m))
state-is m fits = record {
  display = word-is (kept m.heap no_roots) m.cpu.display (m.regs DISPLAY);
  input = word-is (kept m.heap no_roots) m.cpu.input (m.regs INPUT_SEMAPHORE);
  timer = word-is (kept m.heap no_roots) (is_some m.cpu.timer) (m.regs TIMER_SEMAPHORE);
  tick = no-tick (word_of (kept m.heap no_roots) (is_some m.cpu.timer) (m.regs TIMER_SEMAPHORE)) m.cpu.timer;
  clock_fits = omega arith;
  tick_fits = fits;
}

-- what is saved is an image, where what is kept is the heap of one and the tick fits a head
pub saved-image : (m : Machine) → IsImageHeap (kept m.heap no_roots) → (state_of m).tick < 2 ^ 32 → IsImageOf (image_of m) (head_of m) (kept m.heap no_roots)
saved-image m is fits = record {
  is = is;
  of_heap = record { version = inr (refl, state-is m fits); objects = refl; next = refl };
  text = refl;
}

-- ---- it is read as what was saved

module _ (m : Machine) (head : ImageHead) (heap : Heap) (saved : IsImageOf (image_of m) (head_of m) (kept m.heap no_roots)) (read : IsImageOf (image_of m) head heap) where
  same : (heap ≡ kept m.heap no_roots) × (head ≡ head_of m)
  same = same_image heap (kept m.heap no_roots) head (head_of m) read.is saved.is read.of_heap saved.of_heap (sym read.text ∙ saved.text)

  pub saved-heap : heap ≡ kept m.heap no_roots
  saved-heap = same.0

  pub saved-state : model_state head.state ≡ state_of m
  saved-state = ap (λ (h : ImageHead). model_state h.state) same.1

  -- a run over it begins where the machine starts on what is kept of it
  pub saved-start : begin (model_state head.state) (at_rest heap) ≡ start_on_kept m
  unfolding start_on_kept
  saved-start = ap₂ (λ (s : State) (h : Heap). begin s (at_rest h)) saved-state saved-heap

  -- and is the model's from there
  pub saved-course : (lines : List Line) (steps : ℕ) → course lines steps (model_state head.state) heap ≡ course lines steps (state_of m) (kept m.heap no_roots)
  saved-course lines steps = ap₂ (λ (s : State) (h : Heap). course lines steps s h) saved-state saved-heap

-- where a machine was parked and started so, it is in the context that it was in, with its home, its method and its receiver
pub saved-registers : (before m s : Machine) (head : ImageHead) (heap : Heap) (rows log : List LogRow) → park before ≡ Go tt m rows → IsImageOf (image_of m) (head_of m) (kept m.heap no_roots) → IsImageOf (image_of m) head heap → begin (model_state head.state) (at_rest heap) ≡ Go tt s log → HasLoaded m s
unfolding start_on_kept
saved-registers before m s head heap rows log parked saved read starts =
    loaded_found before m s rows (rows ++ log) parked (loaded_starts before m rows parked ∙ ap (after rows) (sym (saved-start m head heap saved read) ∙ starts))

-- ---- over a memory that keeps what the machine keeps

tick-most : (timer : ℕ) (tick : Option ℕ) → tick_with timer tick ≤ tick_or tick
tick-most zero tick = omega arith
tick-most (suc n) tick = omega arith

pub image-left : (left : Heap) (held : Words) (m : Machine) → kept left no_roots ≡ kept m.heap no_roots → IsImageHeap (kept left no_roots) → model_state held ≡ state_held m.regs m.cpu → held.tick < 2 ^ 32
    → IsImageOf (image_of m) (head_of m) (kept m.heap no_roots)
image-left left held m same is state fits =
    let tick : held.tick ≡ tick_or m.cpu.timer = ap (λ (s : State). s.tick) state in
    let most = tick-most (word_of (kept m.heap no_roots) (is_some m.cpu.timer) (m.regs TIMER_SEMAPHORE)) m.cpu.timer in
    saved-image m (subst IsImageHeap same is) (omega arith)

pub images-left : (e : Ending) (left : Heap) (held : Words) → OnParked e (λ m. kept left no_roots ≡ kept m.heap no_roots) → IsImageHeap (kept left no_roots) → OnParked e (λ m. model_state held ≡ state_held m.regs m.cpu) → held.tick < 2 ^ 32
    → OnParked e (λ m. IsImageOf (image_of m) (head_of m) (kept m.heap no_roots))
images-left (Parked end m drawn) left held same is state fits = image-left left held m same is state fits
images-left (Stuck why ran said) left held same is state fits = same
