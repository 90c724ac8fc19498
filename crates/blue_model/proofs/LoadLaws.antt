-- Loading what was saved goes the same way over a thinning, and leaves a whole heap whole.
use Rattle.std.specs.Prelude.{if◌then◌else◌}
use Rattle.std.proofs.Common.{◌≡◌, ℕ, zero, suc, pos, Bool, true, false, List, ◌++◌, Option, Some, None, is_some, refl, sym, ◌∙◌, ap, ap₂, subst, arith}
use Rattle.long_names.specs.declared.value.Value.{Value}
use Rattle.long_names.specs.declared.value.Value.TheVariants.{Int, Ref}
use Rattle.long_names.specs.declared.object.Object.{Object}
use Rattle.long_names.specs.Heap.{Heap, Has}
use Rattle.long_names.specs.Kept.{kept, no_roots}
use Rattle.long_names.specs.State.{INPUT_SEMAPHORE, TIMER_SEMAPHORE, DISPLAY}
use Rattle.long_names.specs.Thin.{IsWhole}
use Rattle.long_names.proofs.ThinLemmas.{IsThinning-refl, IsWhole-bounded}
use Rattle.long_names.proofs.KeptLaws.{kept-part, kept-known, kept-closed, kept-thinning}
use Rattle.blue_model.specs.declared.cpu.Cpu.{Cpu}
use Rattle.blue_model.specs.Machine.{Machine, LogRow, Outcome, Go, Halt, Spent, after, then_do, ◌>>=◌, at_rest}
use Rattle.blue_model.specs.Contexts.{park}
use Rattle.blue_model.specs.State.{State, name_in, word_of, state_in, state_of, begin}
use Rattle.blue_model.specs.Law.{IsWholeMachine, IsThinned, HasState, Agree, RespectsThinning}
use Rattle.blue_model.specs.Loaded.{start_on_kept, loaded}
use Rattle.blue_model.proofs.LawSteps.{respects}
use Rattle.blue_model.proofs.RuleLaws.{law-park}
use Rattle.blue_model.proofs.StateLaws.{begins-agree}

-- ---- a machine at rest on kept objects

has_kept : (h : Heap) (n : ℕ) → Has (kept h no_roots) n → Has h n
has_kept h n there = go ((kept h no_roots).at n) refl
  where
    go : (x : Option Object) → (kept h no_roots).at n ≡ x → Has h n
    go None e = let no : false ≡ true = ap is_some (sym e) ∙ there in absurd (cc)
    go (Some o) e = ap is_some ((kept-part h no_roots).same n o e)

pub kept_whole : (h : Heap) (regs : ℕ → Value) (slots : ℕ → Option ℕ) → IsWhole h regs slots → IsWholeMachine (at_rest (kept h no_roots))
kept_whole h regs slots whole =
    let bounded = IsWhole-bounded h regs slots whole in
    record {
      known = λ n e. kept-known h no_roots n e (whole.known n e);
      below = λ n there. (let low = whole.below n (has_kept h n there) in let next = (kept-part h no_roots).next in omega arith);
      closed = kept-closed h no_roots bounded whole.closed;
      rooted = λ r n e. (let no : ◌≡◌ {A = Value} (Int (pos 0)) (Ref n) = e in absurd (cc));
      pinned = λ i n e. (let no : ◌≡◌ {A = Option ℕ} None (Some n) = e in absurd (cc));
    }

pub thinned_same : (m : Machine) → IsWholeMachine m → IsThinned m m
thinned_same m whole = record { thinning = IsThinning-refl m.heap m.regs m.slots whole; bounded = IsWhole-bounded m.heap m.regs m.slots whole; regs = refl; slots = refl; transcript = refl; cpu = refl; largest = refl }

-- ---- its state

name_same : (k n : ℕ) → name_in k ≡ Some n → k ≡ n
name_same zero n e = let no : ◌≡◌ {A = Option ℕ} None (Some n) = e in absurd (cc)
name_same (suc k) n e = cc

-- a word of the state names an object of the heap
word_has : (h : Heap) (b : Bool) (v : Value) (n : ℕ) → name_in (word_of h b v) ≡ Some n → Has h n
word_has h false v n e = let no : ◌≡◌ {A = Option ℕ} None (Some n) = e in absurd (cc)
word_has h true (Int z) n e = let no : ◌≡◌ {A = Option ℕ} None (Some n) = e in absurd (cc)
word_has h true (Ref k) n e = go (is_some (h.at k)) refl e
  where
    go : (b : Bool) → is_some (h.at k) ≡ b → name_in (if b then k else 0) ≡ Some n → Has h n
    go true there f = subst (Has h) (name_same k n f) there
    go false there f = let no : ◌≡◌ {A = Option ℕ} None (Some n) = f in absurd (cc)

state_has : (m : Machine) → HasState (state_of m) (kept m.heap no_roots)
state_has m = record {
  display = λ n e. word_has (kept m.heap no_roots) m.cpu.display (m.regs DISPLAY) n e;
  input = λ n e. word_has (kept m.heap no_roots) m.cpu.input (m.regs INPUT_SEMAPHORE) n e;
  timer = λ n e. word_has (kept m.heap no_roots) (is_some m.cpu.timer) (m.regs TIMER_SEMAPHORE) n e;
}

state_same : (h : Heap) (m s : Machine) → s.regs ≡ m.regs → s.cpu ≡ m.cpu → state_in h s ≡ state_in h m
state_same h m s regs cpu = ap (λ (r : ℕ → Value). state_in h (record m { regs = r; cpu = s.cpu })) regs ∙ ap (λ (c : Cpu). state_in h (record m { cpu = c })) cpu

-- ---- the law

-- what is kept of a thinning is what is kept of the heap
start_same : (m s : Machine) → IsThinned m s → start_on_kept s ≡ start_on_kept m
unfolding start_on_kept
start_same m s h =
    let heaps : kept s.heap no_roots ≡ kept m.heap no_roots = kept-thinning m.heap s.heap s.regs s.slots no_roots h.thinning h.bounded (λ n e. let no : false ≡ true = e in absurd (cc)) in
    ap (λ (state : State). begin state (at_rest (kept s.heap no_roots))) (state_same (kept s.heap no_roots) m s h.regs h.cpu)
    ∙ ap (λ (k : Heap). begin (state_in k m) (at_rest k)) heaps

start_agrees : (m s : Machine) → IsThinned m s → Agree (start_on_kept m) (start_on_kept s)
unfolding start_on_kept
start_agrees m s h =
    subst (λ (o : Outcome (Unit {0})). Agree o (start_on_kept s)) (start_same m s h)
    (begins-agree (state_of s) (at_rest (kept s.heap no_roots)) (at_rest (kept s.heap no_roots)) (thinned_same _ (kept_whole s.heap s.regs s.slots h.thinning.whole)) (state_has s))

agree_after : {A : Type 0} (rows lines : List LogRow) (a b : Outcome A) → rows ≡ lines → Agree a b → Agree (after rows a) (after lines b)
agree_after rows lines (Go x m log) (Go y s los) e h = (h.0, ap₂ (λ p q. p ++ q) e h.1, h.2)
agree_after rows lines (Halt c log) (Halt d los) e h = (h.0, ap₂ (λ p q. p ++ q) e h.1)
agree_after rows lines (Spent log) (Spent los) e h = ap₂ (λ p q. p ++ q) e h
agree_after rows lines _ _ e h = absurd h

pub loaded-agree : RespectsThinning loaded
unfolding loaded ◌>>=◌
loaded-agree = record { agree = λ m s h. go (park m) (park s) (law.agree m s h) }
  where
    law : RespectsThinning park
    law = respects (λ w. law-park {w = w})

    go : (o p : Outcome (Unit {0})) → Agree o p → Agree (then_do o (λ _. start_on_kept)) (then_do p (λ _. start_on_kept))
    go (Go a m log) (Go b s rows) h = agree_after log rows (start_on_kept m) (start_on_kept s) h.1 (start_agrees m s h.2)
    go (Halt c log) (Halt d rows) h = h
    go (Spent log) (Spent rows) h = h
    go _ _ h = absurd h

-- a whole heap is whole again
pub loaded_whole : (m s : Machine) (log : List LogRow) → IsWholeMachine m → loaded m ≡ Go tt s log → IsWholeMachine s
loaded_whole m s log whole e = let same = loaded-agree.agree m m (thinned_same m whole) in (subst (λ (o : Outcome (Unit {0})). Agree o o) e same).2.thinning.whole
