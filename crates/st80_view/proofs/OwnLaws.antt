-- Methods of a class, one by one.
use Rattle.std.proofs.Common.{◌≡◌, ℕ, zero, suc, ◌+◌, ◌<◌, Bool, true, false, ltb, List, [], ◌∷◌, length, get_or, Option, Some, None, slice_get, refl, sym, ap, ◌∙◌, subst, arith}
use Rattle.std.proofs.lemmas.Bool.{ltb-false, ltb-true}
use Rattle.std.proofs.lemmas.Option.{slice_get_within}
use Rattle.long_names.specs.declared.value.Value.{Value}
use Rattle.st80_view.specs.declared.classes.MethodHome.{MethodHome}
use Rattle.st80_view.specs.Homes.{IsOwn, IsUnder}

-- none of the first so many is one
abbrev pub HasNoneBelow : List MethodHome → ℕ → Value → ℕ → Type 0
HasNoneBelow homes class selector n = (k : ℕ) (h : MethodHome) → k < n → slice_get homes k ≡ Some h → IsUnder class selector h → ⊥

pub at_place : (homes : List MethodHome) (i : ℕ) (h : MethodHome) → i < length homes → h ≡ get_or homes i h → slice_get homes i ≡ Some h
at_place [] i h lt e = absurd (omega (arith, lt))
at_place (x ∷ homes) zero h lt e = ap Some (sym e)
at_place (x ∷ homes) (suc i) h lt e = at_place homes i h (omega (arith, lt)) e

pub one_more : (homes : List MethodHome) (class : ℕ) (selector : Value) (n : ℕ) (x : MethodHome) → slice_get homes n ≡ Some x → HasNoneBelow homes class selector n → (IsUnder class selector x → ⊥) → HasNoneBelow homes class selector (n + 1)
one_more homes class selector n x at before here k h lt e under = go (ltb k n) refl
  where
    go : (b : Bool) → ltb k n ≡ b → ⊥
    go true t = before k h (ltb-true _ _ t) e under
    go false t =
        let same : k ≡ n = omega (arith, ltb-false _ _ t, lt) in
        let both : ◌≡◌ {A = Option MethodHome} (Some x) (Some h) = sym at ∙ ap (slice_get homes) (sym same) ∙ e in
        let one : x ≡ h = cc in
        here (subst (IsUnder class selector) (sym one) under)

pub none_own : (homes : List MethodHome) (class : ℕ) (selector : Value) (n : ℕ) → HasNoneBelow homes class selector n → length homes ≡ n → (home : MethodHome) → IsOwn homes class selector home → ⊥
none_own homes class selector n below all home own =
    let within = slice_get_within homes own.place home own.stands in
    below own.place home (omega (arith, within, all)) own.stands own.under
