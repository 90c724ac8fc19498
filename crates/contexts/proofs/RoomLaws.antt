-- The kept objects of a memory after a refusal are those before it, with registers and slots as roots.
use Rattle.std.proofs.Common.{◌≡◌, ℕ, ◌+◌, ◌<◌, Bool, true, ◌||◌, Option, Some, None, IsTrue, inl, inr, ◌⊎◌, sym, ◌∙◌, ap, arith}
use Rattle.std.proofs.lemmas.Grind.{common_steps}
use Rattle.long_names.specs.declared.value.Value.{Value}
use Rattle.long_names.specs.declared.value.Value.TheVariants.{Int, Ref}
use Rattle.long_names.specs.Objects.{is_ref}
use Rattle.long_names.specs.Heap.{Heap, Has, object_count}
use Rattle.long_names.specs.Kept.{any_below, kept}
use Rattle.long_names.specs.Need.{is_pinned}
use Rattle.long_names.specs.declared.limits.TheConstants.{REGISTERS, SLOTS}
use Rattle.long_names.proofs.ThinLemmas.{IsWhole-bounded, or_cases}
use Rattle.long_names.proofs.KeptLaws.{any_below-at, kept-thinning}
use Rattle.object_memory.specs.Told.{Told, Bounds, IsReady, is_root}
use Rattle.object_memory.specs.Contract.{ForBounds, IsLater, Raised, Lives, IsLeft}

-- roots, by registers and slots
abbrev pub root_of : (ℕ → Value) → (ℕ → Option ℕ) → ℕ → Bool
root_of regs slots n = any_below REGISTERS (λ r. is_ref n (regs r)) || any_below SLOTS (λ i. is_pinned n (slots i))

pub named : (n : ℕ) (v : Value) → is_ref n v ≡ true → v ≡ Ref n
named n (Int z) e = absurd (cc)
named n (Ref k) e = let same : k ≡ n = grind (arith, common_steps, e) in ap (λ q. Ref q) same

pub pinned_name : (n : ℕ) (o : Option ℕ) → is_pinned n o ≡ true → o ≡ Some n
pinned_name n None e = absurd (cc)
pinned_name n (Some k) e = let same : k ≡ n = grind (arith, common_steps, e) in ap (λ q. Some q) same

-- a root of a memory that is ready has its object
pub root_there : (t : Told) → IsReady t → IsTrue t.tells → (n : ℕ) → is_root t n ≡ true → Has t.heap n
root_there t ready told n e = go (or_cases _ _ e)
  where
    go : (any_below REGISTERS (λ r. is_ref n (t.regs r)) ≡ true) ⊎ (any_below SLOTS (λ i. is_pinned n (t.slots i)) ≡ true) → Has t.heap n
    go (inl f) = let at = any_below-at REGISTERS (λ r. is_ref n (t.regs r)) f in (ready.whole told).rooted at.0 n (named n (t.regs at.0) at.1)
    go (inr f) = let at = any_below-at SLOTS (λ i. is_pinned n (t.slots i)) f in (ready.whole told).pinned at.0 n (pinned_name n (t.slots at.0) at.1)

pub kept_left : (old new : Told) → IsReady old → IsLeft old new → IsLater old new → IsTrue old.tells → kept new.heap (is_root new) ≡ kept old.heap (is_root old)
kept_left old new ready left later told =
    let now = later.tells ∙ told in
    kept-thinning old.heap new.heap new.regs new.slots (is_root new) (record { thinner = left.heap told; whole = left.ready.whole now }) (IsWhole-bounded old.heap old.regs old.slots (ready.whole told)) (root_there new left.ready now)
    ∙ ap (λ (regs : ℕ → Value). kept old.heap (root_of regs new.slots)) left.regs
    ∙ ap (λ (slots : ℕ → Option ℕ). kept old.heap (root_of old.regs slots)) left.slots

-- ---- how many objects live

-- what a refused call said of the objects that live holds of what it left
pub lives_left : (old new : Told) (a b : Option Bounds) (live room : ℕ) → Raised 0 a b → (IsTrue new.tells → kept new.heap (is_root new) ≡ kept old.heap (is_root old)) → (IsTrue new.tells → IsTrue old.tells) → ForBounds b (λ b. (b.room ≡ room) × (room < live)) → ForBounds a (λ b. Lives old b live) → ForBounds b (λ b. (b.room ≡ room) × (room < live) × Lives new b live)
lives_left old new None None live room r same told full lives = full
lives_left old new None (Some y) live room r same told full lives = absurd r
lives_left old new (Some x) None live room r same told full lives = full
lives_left old new (Some x) (Some y) live room r same told full (inl h) = (full.0, full.1, inl (h.0, r.0 ∙ h.1, (let made = r.1 in let all = h.2 in omega arith)))
lives_left old new (Some x) (Some y) live room r same told full (inr h) = (full.0, full.1, inr ((let made = r.1 in let many = h.0 in omega arith), λ now. h.1 (told now) ∙ ap (λ (heap : Heap). object_count heap + 1) (sym (same now))))
