-- What lives: how many objects at each making of a log, over a thinning as over the heap, and in a heap that an image may have all.
use Rattle.std.proofs.Common.{zero, suc, ◌≡◌, ℕ, ◌+◌, ◌<◌, ◌≤◌, nat_lt, Bool, true, false, ◌||◌, cond, List, [], ◌∷◌, length, Option, Some, None, inl, inr, ◌⊎◌, refl, sym, ◌∙◌, ap, ap₂, arith}
use borrow.Author.Tests.{ltb-false}
use Rattle.std.specs.List.{slice_get}
use Rattle.long_names.specs.declared.value.Value.{Value}
use Rattle.long_names.specs.declared.value.Value.TheVariants.{Int, Ref}
use Rattle.long_names.specs.Names.{is_known}
use Rattle.long_names.specs.Objects.{is_ref}
use Rattle.long_names.specs.Heap.{Heap, Has, IsBounded, object_count, count_of}
use Rattle.long_names.specs.Kept.{any_below, kept}
use Rattle.long_names.specs.Need.{is_pinned}
use Rattle.long_names.specs.declared.limits.TheConstants.{MACHINE_REGISTERS, SLOTS}
use Rattle.long_names.proofs.KeptLaws.{any_below-at, fixed-same, kept-same, kept-thinning, left-by_count}
use Rattle.long_names.proofs.ThinLemmas.{or_cases}
use Rattle.std.proofs.lemmas.Grind.{common_steps}
use Rattle.blue_model.specs.declared.event.Line.{Line}
use Rattle.blue_model.specs.declared.step.Step.{Step}
use Rattle.blue_model.specs.Machine.{Machine, LogRow, Outcome, Go, Halt, Spent, Rule, log_of}
use Rattle.blue_model.specs.Cycle.{cycle}
use Rattle.blue_model.specs.Law.{IsThinned, Agree, RespectsThinning}
use Rattle.blue_model.specs.Logs.{made_in, names_from, is_root, living, lives_after, lives}
use Rattle.blue_model.proofs.LawSteps.{respects}
use Rattle.blue_model.proofs.TurnLaws.{law-cycle}
use Rattle.blue_model.proofs.MakingSteps.{Makes, MakesAtMost, MakesNone}

-- ---- logs of rules that make few objects

pub few_made : {A : Type 0} (n : ℕ) (p : Rule A) (m : Machine) → MakesAtMost n p → (k : ℕ) × (k ≤ n) × (made_in (log_of (p m)) ≡ names_from m.heap.next k)
few_made {A} n p m f = go (p m) (f.makes m)
  where
    go : (o : Outcome A) → Makes (λ a k. k ≤ n) n m o → (k : ℕ) × (k ≤ n) × (made_in (log_of o) ≡ names_from m.heap.next k)
    go (Go a s log) h = (h.0, h.1, h.2)
    go (Halt c log) h = h
    go (Spent log) h = h

pub none_made : {A : Type 0} (p : Rule A) (m : Machine) → MakesNone p → made_in (log_of (p m)) ≡ []
none_made {A} p m f = go (p m) (f.makes m)
  where
    at : (n k : ℕ) (rows : List LogRow) → k ≤ 0 → made_in rows ≡ names_from n k → made_in rows ≡ []
    at n k rows low e = let is : k ≡ 0 = omega arith in e ∙ ap (names_from n) is

    go : (o : Outcome A) → Makes (λ a k. k ≤ 0) 0 m o → made_in (log_of o) ≡ []
    go (Go a s log) h = at m.heap.next h.0 log h.1 h.2
    go (Halt c log) h = at m.heap.next h.0 log h.1 h.2
    go (Spent log) h = at m.heap.next h.0 log h.1 h.2

-- ---- at each making

pub lives_at : (before i : ℕ) (log : List LogRow) → i < length (made_in log) → slice_get (lives_after before log) i ≡ Some (before + i + 1)
lives_at before i [] low = absurd (omega arith)
lives_at before i (row ∷ rows) low = go row.makes i (λ b k few. lives_at b k rows few) low
  where
    go : (b : Bool) (i : ℕ) → ((c k : ℕ) → k < length (made_in rows) → slice_get (lives_after c rows) k ≡ Some (c + k + 1)) → i < length (cond b (row.object ∷ made_in rows) (made_in rows)) → slice_get (cond b ((before + 1) ∷ lives_after (before + 1) rows) (lives_after before rows)) i ≡ Some (before + i + 1)
    go false i next low = next before i low
    go true zero next low = let same : before + 1 ≡ before + 0 + 1 = omega arith in ap (λ (n : ℕ). Some n) same
    go true (suc i) next low = let same : before + 1 + i + 1 ≡ before + suc i + 1 = omega arith in next (before + 1) i (omega arith) ∙ ap (λ (n : ℕ). Some n) same

-- ---- thinnings

-- a root of a whole machine has its object
rooted : (m s : Machine) → IsThinned m s → (n : ℕ) → is_root s n ≡ true → Has s.heap n
rooted m s t n e = go (or_cases _ _ e)
  where
    of_value : (v : Value) → is_ref n v ≡ true → v ≡ Ref n
    of_value (Int z) f = absurd (cc)
    of_value (Ref k) f = let same : k ≡ n = grind (arith, common_steps, f) in ap (λ j. Ref j) same

    of_slot : (x : Option ℕ) → is_pinned n x ≡ true → x ≡ Some n
    of_slot None f = absurd (cc)
    of_slot (Some k) f = let same : k ≡ n = grind (arith, common_steps, f) in ap (λ j. Some j) same

    go : (any_below MACHINE_REGISTERS (λ r. is_ref n (s.regs r)) ≡ true) ⊎ (any_below SLOTS (λ i. is_pinned n (s.slots i)) ≡ true) → Has s.heap n
    go (inl f) = let at = any_below-at MACHINE_REGISTERS (λ r. is_ref n (s.regs r)) f in t.thinning.whole.rooted at.0 n (of_value (s.regs at.0) at.1)
    go (inr f) = let at = any_below-at SLOTS (λ i. is_pinned n (s.slots i)) f in t.thinning.whole.pinned at.0 n (of_slot (s.slots at.0) at.1)

roots_same : (m s : Machine) → IsThinned m s → is_root s ≡ is_root m
roots_same m s t = ap (λ (regs : ℕ → Value). λ n. any_below MACHINE_REGISTERS (λ r. is_ref n (regs r)) || any_below SLOTS (λ i. is_pinned n (s.slots i))) t.regs ∙ ap (λ (slots : ℕ → Option ℕ). λ n. any_below MACHINE_REGISTERS (λ r. is_ref n (m.regs r)) || any_below SLOTS (λ i. is_pinned n (slots i))) t.slots

pub living_thinned : (m s : Machine) → IsThinned m s → living s ≡ living m
unfolding living
living_thinned m s t =
    ap object_count (kept-thinning m.heap s.heap s.regs s.slots (is_root s) t.thinning t.bounded (rooted m s t))
    ∙ ap (λ root. object_count (kept m.heap root)) (roots_same m s t)

pub lives_thinned : (events : List Line) (m s : Machine) → IsThinned m s → lives events s ≡ lives events m
unfolding lives
lives_thinned events m s t =
    let law : RespectsThinning (cycle events) = respects (λ w. law-cycle {w = w} events) in
    ap₂ (λ n log. lives_after n log) (living_thinned m s t) (sym (logs (cycle events m) (cycle events s) (law.agree m s t)))
  where
    logs : (o p : Outcome Step) → Agree o p → log_of o ≡ log_of p
    logs (Go a n log) (Go b k rows) h = h.1
    logs (Halt c log) (Halt d rows) h = h.1
    logs (Spent log) (Spent rows) h = h
    logs _ _ h = absurd h

-- ---- heaps in which all is held

-- an object that is known or held is left
pub all_kept : (h : Heap) (root : ℕ → Bool) → IsBounded h → ((n : ℕ) → Has h n → count_of h n ≡ 0 → is_known n ≡ true) → kept h root ≡ h
all_kept h root bounded held = kept-same h root (fixed-same h root record { fixed = λ n there. left-by_count h root n ∙ go n there (nat_lt 0 (count_of h n)) refl })
  where
    last : (a b : Bool) → (a || (b || true)) ≡ true
    last true b = refl
    last false true = refl
    last false false = refl

    go : (n : ℕ) → Has h n → (b : Bool) → nat_lt 0 (count_of h n) ≡ b → (is_known n || (root n || nat_lt 0 (count_of h n))) ≡ true
    go n there true e = ap (λ x. is_known n || (root n || x)) e ∙ last (is_known n) (root n)
    go n there false e =
        let none = ltb-false 0 (count_of h n) e in
        ap (λ x. x || (root n || nat_lt 0 (count_of h n))) (held n there (omega arith))
