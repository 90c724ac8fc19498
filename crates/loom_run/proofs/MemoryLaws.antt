-- The memory of two levels over an image: what a run may begin with, and what is saved of what it leaves.
use Rattle.std.proofs.Common.{zero, suc, ◌≡◌, ℕ, pos, ◌<◌, Bool, true, false, List, Option, Some, None, is_some, IsTrue, inl, inr, refl, sym, ◌∙◌, ap, subst, arith}
use Rattle.std.specs.Prelude.{◌^◌}
use Rattle.std.proofs.Math.Path.{fun_ext}
use Rattle.long_names.specs.declared.value.Value.{Value}
use Rattle.long_names.specs.declared.value.Value.TheVariants.{Int}
use Rattle.long_names.specs.Names.{IsName}
use Rattle.long_names.specs.declared.object.Object.{Object}
use Rattle.long_names.specs.Heap.{Heap, Has, object_count}
use Rattle.long_names.proofs.KeptLaws.{kept-part}
use Rattle.loom_host.specs.declared.outside.Host.{Ghosts}
use Rattle.loom_host.specs.declared.outside.Role.TheVariants.{Work}
use Rattle.loom_memory.specs.declared.memory.LoomMemory.{LoomMemory}
use Rattle.loom_memory.specs.Memory.{loom_now, loom_parts, loom_rest, loom_told, IsSound}
use Rattle.loom_memory.proofs.ExactLaws.{levels-told}
use Rattle.long_names.specs.Kept.{kept, no_roots}
use Rattle.long_names.specs.Thin.{IsThinner, IsWhole}
use Rattle.long_names.proofs.ThinLemmas.{IsThinner-refl}
use Rattle.image_format.specs.declared.opening.State.{State as Words}
use Rattle.image_format.specs.Rules.{IsStateWord, text_under}
use Rattle.image_format.specs.Valid.{IsImageHeap}
use Rattle.image_writer.specs.Saved.{saved_text}
use Rattle.object_memory.specs.Told.{Told, Bounds, IsReady}
use Rattle.object_memory.specs.Contract.{ForBounds, IfBounds}
use Rattle.blue_model.specs.declared.event.Line.{Line}
use Rattle.blue_model.specs.Machine.{Machine}
use Rattle.blue_model.specs.State as model
use Rattle.blue_model.specs.State.{name_in, state_of}
use Rattle.blue_model.specs.Cycle.{Ending, Parked, Stuck, ending}
use Rattle.blue_model.specs.Law.{HasState}
use Rattle.blue_model.specs.Endings.{OnParked}
use Rattle.machine_run.specs.Run.{Begins, CountsAll}
use Rattle.machine_run.specs.States.{HasLongNames, KeepsState, model_state, state_held, state_left}
use Rattle.machine_run.proofs.RunLaws.{parked-kept}
use Rattle.machine_run.proofs.StateLaws.{keeps-begun, left_held}
use Rattle.loom_run.specs.Ends.{IsImageOf, head_of, image_of, words_of}
use Rattle.loom_run.specs.Steps.{BeginsImage}
use Rattle.loom_run.proofs.SavedLaws.{images-left}

-- ---- what is saved

-- what is saved of a parked machine is its image
pub text-of : (left : Heap) (held : Words) (m : Machine) → kept left no_roots ≡ kept m.heap no_roots → HasLongNames (kept left no_roots) → model_state held ≡ state_held m.regs m.cpu → saved_text (kept left no_roots) held ≡ image_of m
text-of left held m same long state =
    subst (λ (k : Heap). HasLongNames k → saved_text k held ≡ image_of m) (sym same) (λ names.
    let words : state_left (kept m.heap no_roots) (model_state held) ≡ state_of m = ap (state_left (kept m.heap no_roots)) state ∙ left_held (kept m.heap no_roots) m names in
    ap (λ (x : model.State). text_under (record { opening = record { version = 2; objects = object_count (kept m.heap no_roots); next = (kept m.heap no_roots).next }; state = words_of x }) (kept m.heap no_roots)) words) long

pub saves-of : (e : Ending) (left : Heap) (held : Words) → OnParked e (λ m. kept left no_roots ≡ kept m.heap no_roots) → HasLongNames (kept left no_roots) → OnParked e (λ m. model_state held ≡ state_held m.regs m.cpu) → OnParked e (λ m. saved_text (kept left no_roots) held ≡ image_of m)
saves-of (Parked end m drawn) left held same long state = text-of left held m same long state
saves-of (Stuck why ran said) left held same long state = same

-- ---- the beginning

module _ (h : Heap) (s : Words) (t : Told) (begins : BeginsImage h s t) where
  counts : (o : Option Bounds) → ForBounds o (λ b. (b.made ≡ 0) × (b.base ≡ Some (object_count h))) → IfBounds o (λ b. (b.made ≡ 0) × CountsAll h b.base)
  counts None has = tt
  counts (Some b) has = (has.0, subst (CountsAll h) (sym has.1) (λ root. ap object_count (begins.begins.lives root)))

  pub begins-run : Begins h t
  begins-run = record {
    heap = subst (IsThinner h) (sym begins.begins.heap) (IsThinner-refl h);
    slots = begins.begins.slots;
    rows = begins.begins.rows;
    base = counts t.bounds begins.begins.base;
  }

  named : (word : ℕ) → IsStateWord h word → 0 < word → IsName word × Has (kept h no_roots) word
  named word (inl none) above = absurd (omega (arith, none, above))
  named word (inr has) above = (begins.image.names word has, subst (λ (g : Heap). Has g word) (sym (begins.begins.lives no_roots)) has)

  pub keeps-state : IsReady t → IsTrue t.tells → KeepsState t (model_state s)
  keeps-state ready told = record {
    display = keeps-begun h t s.display begins-run ready told begins.image.bounded (named s.display begins.state_is.display);
    input = keeps-begun h t s.input begins-run ready told begins.image.bounded (named s.input begins.state_is.input);
    timer = keeps-begun h t s.timer begins-run ready told begins.image.bounded (named s.timer begins.state_is.timer);
  }

  word-has : (word n : ℕ) → IsStateWord h word → name_in word ≡ Some n → Has h n
  word-has zero n is e = let no : ◌≡◌ {A = Option ℕ} None (Some n) = e in absurd (cc)
  word-has (suc k) n (inl none) e = let no : suc k ≡ 0 = none in absurd (omega (arith, no))
  word-has (suc k) n (inr has) e = let same : suc k ≡ n = cc in subst (Has h) same has

  has-state : HasState (model_state s) h
  has-state = record {
    display = λ n e. word-has s.display n begins.state_is.display e;
    input = λ n e. word-has s.input n begins.state_is.input e;
    timer = λ n e. word-has s.timer n begins.state_is.timer e;
  }

  whole-start : IsReady t → IsTrue t.tells → IsWhole h (λ r. Int (pos 0)) (λ i. None)
  whole-start ready told = subst (λ (g : Heap). IsWhole g (λ r. Int (pos 0)) (λ i. None)) begins.begins.heap
      (subst (λ (regs : ℕ → Value). IsWhole t.heap regs (λ i. None)) (fun_ext begins.begins.regs) (subst (λ (slots : ℕ → Option ℕ). IsWhole t.heap t.regs slots) (fun_ext begins.begins.slots) (ready.whole told)))

  -- ---- the end

  -- what is saved is the model's image
  pub saves-run : (events : List Line) (steps : ℕ) (new : Told) (held : Words) → IsReady t → IsTrue t.tells → IsReady new → IsTrue new.tells → HasLongNames (kept new.heap no_roots) → OnParked (ending events steps (model_state s) h) (λ m. IsThinner m.heap new.heap) → OnParked (ending events steps (model_state s) h) (λ m. model_state held ≡ state_held m.regs m.cpu)
      → OnParked (ending events steps (model_state s) h) (λ m. saved_text (kept new.heap no_roots) held ≡ image_of m)
  saves-run events steps new held ready told now still long thinner state =
      saves-of (ending events steps (model_state s) h) new.heap held (parked-kept events steps (model_state s) h new (whole-start ready told) has-state thinner now still) long state

  -- and it is an image
  pub images-run : (events : List Line) (steps : ℕ) (new : Told) (held : Words) → IsReady t → IsTrue t.tells → IsReady new → IsTrue new.tells → IsImageHeap (kept new.heap no_roots) → held.tick < 2 ^ 32 → OnParked (ending events steps (model_state s) h) (λ m. IsThinner m.heap new.heap) → OnParked (ending events steps (model_state s) h) (λ m. model_state held ≡ state_held m.regs m.cpu)
      → OnParked (ending events steps (model_state s) h) (λ m. IsImageOf (image_of m) (head_of m) (kept m.heap no_roots))
  images-run events steps new held ready told now still is fits thinner state =
      images-left (ending events steps (model_state s) h) new.heap held (parked-kept events steps (model_state s) h new (whole-start ready told) has-state thinner now still) is state fits

-- ---- names

part-has : (h : Heap) (n : ℕ) (o : Option Object) → (kept h no_roots).at n ≡ o → is_some o ≡ true → Has h n
part-has h n None e some = let no : ◌≡◌ {A = Bool} false true = some in absurd (cc)
part-has h n (Some o) e some = ap is_some ((kept-part h no_roots).same n o e)

-- objects of a memory have names of 32 bits
pub long-kept : {H : Type 0} (host : Ghosts H) (m : LoomMemory H host) → IsTrue (host.tells Work) → IsSound host m → HasLongNames (kept (loom_told host m).heap no_roots)
unfolding loom_told
long-kept host m told sound =
    let e = sound.exact told in
    let heap = levels-told host (loom_parts m) (loom_now m) (loom_rest m) e.0 m.ledger.next e.1 e.3 told in
    λ n has. e.2.heap.long n (subst (λ (h : Heap). Has h n) heap (part-has (loom_told host m).heap n ((kept (loom_told host m).heap no_roots).at n) refl has))
