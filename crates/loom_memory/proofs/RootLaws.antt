-- What registers and slots name, as the levels have it and as it is told; and what is left where nothing is dead.
use Rattle.std.proofs.Common.{zero, suc, ◌≡◌, ℕ, ◌<◌, ◌≤◌, ◌||◌, Bool, true, false, cond, eqb, List, [], ◌∷◌, length, Option, Some, None, IsTrue, refl, sym, ◌∙◌, ap, subst, arith, count_by}
use Rattle.std.proofs.lemmas.Grind.{common_steps}
use Rattle.std.specs.List.{slice_get}
use Rattle.long_names.specs.declared.value.Value.{Value}
use Rattle.long_names.specs.declared.value.Value.TheVariants.{Ref}
use Rattle.long_names.specs.Objects.{is_ref}
use Rattle.long_names.specs.Heap.{Heap, Has, IsBounded, object_count}
use Rattle.long_names.specs.Kept.{any_below, kept}
use Rattle.long_names.specs.Need.{is_pinned}
use Rattle.long_names.specs.Thin.{IsWhole}
use Rattle.long_names.specs.declared.limits.TheConstants.{REGISTERS, SLOTS}
use Rattle.long_names.proofs.CountLaws.{kept-rooted}
use Rattle.long_names.proofs.KeptLaws.{any_below-at, any_below-from, kept-thinner}
use Rattle.object_table.specs.Entries.{is_short}
use Rattle.object_memory.specs.Told.{Told, has_slot, is_root}
use Rattle.core_view.specs.Core.{Core}
use Rattle.core_view.specs.Counts.{names}
use Rattle.core_view.specs.Words.{meant}
use Rattle.core_view.proofs.Lists.{count-cons}
use Rattle.core_view.proofs.Words.{meant-short}
use Rattle.core_view.specs.Levels.{Levels, heap_of}
use Rattle.core_view.specs.Counted.{IsSound as AreSound}
use Rattle.core_view.specs.Dead.{NoneDead, outside_by, roots_of}
use Rattle.purger.specs.declared.room.Pinned.{Pinned}
use Rattle.loom_memory.specs.Memory.{name_if, pin_in, word_in}
use Rattle.loom_memory.specs.Makings.{HasThinned}
use Rattle.loom_memory.proofs.RegLaws.{IsRooted, count-append}
use Rattle.loom_memory.proofs.CacheLaws.{and-both}

-- ---- words that name an entry

-- a list that has such a word has it at some place
word-at : (s : ℕ) (ws : List ℕ) → 1 ≤ count_by (names s) ws → (i : ℕ) × (slice_get ws i ≡ Some s) × (is_short s ≡ true)
word-at s [] some = absurd (omega arith)
word-at s (w ∷ ws) some = go (names s w) refl (word-at s ws)
  where
    go : (b : Bool) → names s w ≡ b → (1 ≤ count_by (names s) ws → (i : ℕ) × (slice_get ws i ≡ Some s) × (is_short s ≡ true)) → (i : ℕ) × (slice_get (w ∷ ws) i ≡ Some s) × (is_short s ≡ true)
    go true e next = let both = and-both (is_short s) (eqb w s) e in let second = both.1 in let same : w ≡ s = grind (arith, common_steps, second) in (0, ap Some same, both.0)
    go false e next = let rest = next (let a = count-cons s w ws in let b = ap (λ (x : Bool). let k : ℕ = cond x 1 0 in k) e in omega arith) in (suc rest.0, rest.1, rest.2)

place-below : (ws : List ℕ) (i w : ℕ) → slice_get ws i ≡ Some w → i < length ws
place-below [] i w e = cc
place-below (x ∷ xs) zero w e = omega arith
place-below (x ∷ xs) (suc i) w e = let rest = place-below xs i w e in omega arith

word-in : (ws : List ℕ) (i w : ℕ) → slice_get ws i ≡ Some w → word_in ws i ≡ w
word-in [] i w e = cc
word-in (x ∷ xs) zero w e = let f : Some x ≡ Some w = e in cc
word-in (x ∷ xs) (suc i) w e = word-in xs i w e

ref-here : (n : ℕ) → is_ref n (Ref n) ≡ true
ref-here n = grind (arith, common_steps)

or-false : (a b : Bool) → a || b ≡ false → (a ≡ false) × (b ≡ false)
or-false true b e = let no_ : true ≡ false = e in cc
or-false false b e = (refl, e)

no-both : (b : Bool) → b ≡ true → b ≡ false → ⊥
no-both b on off = let both : true ≡ false = sym on ∙ off in cc

-- of a register
register-root : (c : Core) (regs : List ℕ) (s n : ℕ) → length regs ≡ 24 → (c.entries s).name ≡ n → 1 ≤ count_by (names s) regs → any_below REGISTERS (λ r. is_ref n (meant c.entries [] 0 (word_in regs r))) ≡ true
register-root c regs s n many name some =
    let at = word-at s regs some in
    let low = place-below regs at.0 s at.1 in
    let means : meant c.entries [] 0 (word_in regs at.0) ≡ Ref n = ap (meant c.entries [] 0) (word-in regs at.0 s at.1) ∙ meant-short c.entries [] 0 s at.2 ∙ ap Ref name in
    any_below-from REGISTERS (λ r. is_ref n (meant c.entries [] 0 (word_in regs r))) at.0 (omega (arith, low, many)) (ap (is_ref n) means ∙ ref-here n)

pin-word : (pins : Pinned) (i s : ℕ) → slice_get (pins.a ∷ (pins.b ∷ (pins.d ∷ []))) i ≡ Some s → (i < 3) × (pin_in pins i ≡ s)
pin-word pins zero s e = let f : Some pins.a ≡ Some s = e in (omega arith, cc)
pin-word pins (suc zero) s e = let f : Some pins.b ≡ Some s = e in (omega arith, cc)
pin-word pins (suc (suc zero)) s e = let f : Some pins.d ≡ Some s = e in (omega arith, cc)
pin-word pins (suc (suc (suc i))) s e = cc

-- of a slot
slot-root : (c : Core) (pins : Pinned) (s n : ℕ) → (c.entries s).name ≡ n → 1 ≤ count_by (names s) (pins.a ∷ (pins.b ∷ (pins.d ∷ []))) → has_slot (λ i. name_if c.entries (pin_in pins i)) n ≡ true
slot-root c pins s n name some =
    let at = word-at s (pins.a ∷ (pins.b ∷ (pins.d ∷ []))) some in
    let pin = pin-word pins at.0 s at.1 in
    let there : name_if c.entries (pin_in pins at.0) ≡ Some n = ap (name_if c.entries) pin.1 ∙ ap (λ (b : Bool). cond b None (Some (c.entries s).name)) (apart s at.2) ∙ ap Some name in
    any_below-from SLOTS (λ i. is_pinned n (name_if c.entries (pin_in pins i))) at.0 pin.0 (ap (is_pinned n) there ∙ here n)
  where
    apart : (s : ℕ) → is_short s ≡ true → eqb s 0 ≡ false
    apart s e = grind (arith, common_steps, e)

    here : (n : ℕ) → eqb n n ≡ true
    here n = grind (arith, common_steps)

-- what no register and no slot names has no reference from outside
pub free-told : (c : Core) (regs : List ℕ) (pins : Pinned) (n : ℕ) → IsRooted c regs pins → length regs ≡ 24
    → any_below REGISTERS (λ r. is_ref n (meant c.entries [] 0 (word_in regs r))) || has_slot (λ i. name_if c.entries (pin_in pins i)) n ≡ false → outside_by c (c.find n) ≡ 0
free-told c regs pins n root many free = go (c.find n) refl
  where
    none : any_below REGISTERS (λ r. is_ref n (meant c.entries [] 0 (word_in regs r))) ≡ false
    none = (or-false (any_below REGISTERS (λ r. is_ref n (meant c.entries [] 0 (word_in regs r)))) (has_slot (λ i. name_if c.entries (pin_in pins i)) n) free).0

    unslotted : has_slot (λ i. name_if c.entries (pin_in pins i)) n ≡ false
    unslotted = (or-false (any_below REGISTERS (λ r. is_ref n (meant c.entries [] 0 (word_in regs r)))) (has_slot (λ i. name_if c.entries (pin_in pins i)) n) free).1

    register : (s : ℕ) → (c.entries s).name ≡ n → (k : ℕ) → count_by (names s) regs ≡ k → count_by (names s) regs ≡ 0
    register s name zero e = e
    register s name (suc k) e = absurd (no-both (any_below REGISTERS (λ r. is_ref n (meant c.entries [] 0 (word_in regs r)))) (register-root c regs s n many name (omega arith)) none)

    slot : (s : ℕ) → (c.entries s).name ≡ n → (k : ℕ) → count_by (names s) (pins.a ∷ (pins.b ∷ (pins.d ∷ []))) ≡ k → count_by (names s) (pins.a ∷ (pins.b ∷ (pins.d ∷ []))) ≡ 0
    slot s name zero e = e
    slot s name (suc k) e = absurd (no-both (has_slot (λ i. name_if c.entries (pin_in pins i)) n) (slot-root c pins s n name (omega arith)) unslotted)

    go : (o : Option ℕ) → c.find n ≡ o → outside_by c o ≡ 0
    go None e = refl
    go (Some s) e =
        let name = root.core.named n s e in
        let out = root.outside s in
        let split = count-append s regs (pins.a ∷ (pins.b ∷ (pins.d ∷ []))) in
        let one_ = register s name (count_by (names s) regs) refl in
        let two = slot s name (count_by (names s) (pins.a ∷ (pins.b ∷ (pins.d ∷ [])))) refl in
        omega (arith, out, split, one_, two)

-- ---- what is left

-- what registers and slots name is there
pub rooted-there : (h : Heap) (regs : ℕ → Value) (slots : ℕ → Option ℕ) (n : ℕ) → IsWhole h regs slots → any_below REGISTERS (λ r. is_ref n (regs r)) || has_slot slots n ≡ true → Has h n
rooted-there h regs slots n whole is = go (any_below REGISTERS (λ r. is_ref n (regs r))) refl
  where
    ref-of : (v : Value) → is_ref n v ≡ true → v ≡ Ref n
    ref-of (Rattle.long_names.specs.declared.value.Value.TheVariants.Int z) e = absurd (let f : false ≡ true = e in cc)
    ref-of (Ref m) e = let same : m ≡ n = grind (arith, common_steps, e) in ap Ref same

    pin-of : (o : Option ℕ) → is_pinned n o ≡ true → o ≡ Some n
    pin-of None e = absurd (let f : false ≡ true = e in cc)
    pin-of (Some m) e = let same : m ≡ n = grind (arith, common_steps, e) in ap Some same

    go : (b : Bool) → any_below REGISTERS (λ r. is_ref n (regs r)) ≡ b → Has h n
    go true e = let at = any_below-at REGISTERS (λ r. is_ref n (regs r)) e in whole.rooted at.0 n (ref-of (regs at.0) at.1)
    go false e =
        let slot : has_slot slots n ≡ true = sym (ap (λ (b : Bool). b || has_slot slots n) e) ∙ is in
        let at = any_below-at SLOTS (λ i. is_pinned n (slots i)) slot in
        whole.pinned at.0 n (pin-of (slots at.0) at.1)

-- where nothing is dead after a thinning, what is left is what is kept
pub kept-told : (t u : Told) (v : Levels) → HasThinned t u → IsTrue t.tells → IsBounded t.heap → u.heap ≡ heap_of v → AreSound v [] → NoneDead v → ((q : ℕ) → is_root t q ≡ false → roots_of v q ≡ 0) → u.heap ≡ kept t.heap (is_root t)
kept-told t u v thin told bounded is sound none free =
    let whole = (thin.thinning told).whole in
    sym (kept-rooted u.heap (is_root t) (λ q there unknown out zero_count. none q (record {
      held = subst (λ (h : Heap). Has h q) is there;
      unknown = unknown;
      uncounted = ap (λ (h : Heap). Rattle.long_names.specs.Heap.count_of h q) (sym is) ∙ zero_count;
      free = free q out;
    })))
    ∙ kept-thinner t.heap u.heap (is_root t) (thin.thinning told).thinner whole.closed whole.known (λ q on. rooted-there u.heap t.regs t.slots q whole on) bounded

-- and what is left is kept again
pub kept-again : (u : Told) (v : Levels) → u.heap ≡ heap_of v → AreSound v [] → NoneDead v → ((q : ℕ) → is_root u q ≡ false → roots_of v q ≡ 0) → kept u.heap (is_root u) ≡ u.heap
kept-again u v is sound none free = kept-rooted u.heap (is_root u) (λ q there unknown out zero_count. none q (record {
  held = subst (λ (h : Heap). Has h q) is there;
  unknown = unknown;
  uncounted = ap (λ (h : Heap). Rattle.long_names.specs.Heap.count_of h q) (sym is) ∙ zero_count;
  free = free q out;
}))
