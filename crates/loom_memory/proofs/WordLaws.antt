-- The words of registers, and what they mean.
use Rattle.std.proofs.Common.{◌≡◌, ◌≢◌, ℕ, ℤ, ◌%◌, ◌||◌, Bool, true, false, cond, eqb, [], refl, sym, ◌∙◌, ap, subst, arith, Some, None}
use Rattle.std.proofs.lemmas.Grind.{common_steps}
use Rattle.long_names.specs.declared.value.Value.{Value}
use Rattle.long_names.specs.declared.value.Value.TheVariants.{Int}
use Rattle.long_names.specs.State.{IsRef}
use Rattle.long_names.specs.Need.{is_pinned}
use Rattle.object_table.specs.declared.entry.Entry.{Entry}
use Rattle.object_table.specs.Entries.{is_short, is_used}
use Rattle.core_view.specs.Core.{Core}
use Rattle.core_view.specs.Words.{meant, int_of_short}
use Rattle.core_view.specs.Kept.{IsCore}
use Rattle.core_view.specs.Room.{is_among}
use Rattle.core_view.proofs.Core.{placed-used}
use Rattle.core_view.proofs.Words.{meant-odd}
use Rattle.purger.specs.declared.room.Pinned.{Pinned}
use Rattle.loom_memory.specs.Memory.{pin_in, name_if, IsPinned}
use Rattle.loom_memory.proofs.NeedLaws.{names-eq}

-- an odd word names no entry
pub odd-apart : (w : ℕ) → w % 2 ≡ 1 → is_short w ≡ true → ⊥
odd-apart w odd is = let even : w % 2 ≡ 0 = grind (arith, common_steps) in omega arith

-- a word that is none and names no entry is odd
pub odd-else : (w : ℕ) → w ≢ 0 → is_short w ≡ false → w % 2 ≡ 1
odd-else w some off = go (eqb (w % 2) 1) refl
  where
    go : (b : Bool) → eqb (w % 2) 1 ≡ b → w % 2 ≡ 1
    go true e = grind (arith, common_steps)
    go false e = let is : is_short w ≡ true = grind (arith, common_steps) in absurd (let both : true ≡ false = sym is ∙ off in cc)

pub number-means : (entries : ℕ → Entry) (w : ℕ) (z : ℤ) → w % 2 ≡ 1 → int_of_short w ≡ z → meant entries [] 0 w ≡ Int z
number-means entries w z odd is = meant-odd entries [] 0 w odd ∙ ap Int is

-- a word that means a name is that of an entry
pub named-short : (entries : ℕ → Entry) (w : ℕ) (v : Value) → w ≢ 0 → v ≡ meant entries [] 0 w → IsRef v → is_short w ≡ true
named-short entries w v some is named = go (is_short w) refl
  where
    go : (b : Bool) → is_short w ≡ b → is_short w ≡ true
    go true e = e
    go false e = absurd (subst IsRef (is ∙ number-means entries w (int_of_short w) (odd-else w some e) refl) named)

-- whether a slot has the name of an entry in use is whether it is that entry
used-pinned : (c : Core) (w v : ℕ) → IsCore c → IsPinned c w → is_used (c.entries v).state ≡ true → v ≢ 0 → is_pinned (c.entries v).name (name_if c.entries w) ≡ eqb v w
used-pinned c w v core pw on some = go (eqb w 0) refl
  where
    swap : eqb w v ≡ eqb v w
    swap = grind (arith, common_steps)

    go : (b : Bool) → eqb w 0 ≡ b → is_pinned (c.entries v).name (cond b None (Some (c.entries w).name)) ≡ eqb v w
    go true e = let is : w ≡ 0 = grind (arith, common_steps) in let differ : eqb v w ≡ false = grind (arith, common_steps) in sym differ
    go false e =
        let there : w ≢ 0 = (λ h. let yes_ : eqb w 0 ≡ true = grind (arith, common_steps) in absurd (let no_ : true ≡ false = sym yes_ ∙ e in cc)) in
        names-eq c w v core (placed-used (c.entries w).state (pw there).1.0 (pw there).1.1) on ∙ swap

turn : (x y z : Bool) → x || (y || z) ≡ z || (y || (x || false))
turn true true true = refl
turn true true false = refl
turn true false true = refl
turn true false false = refl
turn false true true = refl
turn false true false = refl
turn false false true = refl
turn false false false = refl

-- so the slots have it where one of them is the entry
pub slots-have : (c : Core) (pins : Pinned) (v n : ℕ) → IsCore c → ((i : ℕ) → IsPinned c (pin_in pins i)) → is_used (c.entries v).state ≡ true → v ≢ 0 → n ≡ (c.entries v).name
    → is_among pins.a pins.b pins.d v ≡ is_pinned n (name_if c.entries pins.d) || (is_pinned n (name_if c.entries pins.b) || (is_pinned n (name_if c.entries pins.a) || false))
slots-have c pins v n core pinned on some is =
    turn (eqb v pins.a) (eqb v pins.b) (eqb v pins.d)
    ∙ sym (ap (λ (k : ℕ). is_pinned k (name_if c.entries pins.d) || (is_pinned k (name_if c.entries pins.b) || (is_pinned k (name_if c.entries pins.a) || false))) is
    ∙ ap (λ (x : Bool). x || (is_pinned (c.entries v).name (name_if c.entries pins.b) || (is_pinned (c.entries v).name (name_if c.entries pins.a) || false))) (used-pinned c pins.d v core (pinned 2) on some)
    ∙ ap (λ (x : Bool). eqb v pins.d || (x || (is_pinned (c.entries v).name (name_if c.entries pins.a) || false))) (used-pinned c pins.b v core (pinned 1) on some)
    ∙ ap (λ (x : Bool). eqb v pins.d || (eqb v pins.b || (x || false))) (used-pinned c pins.a v core (pinned 0) on some))
