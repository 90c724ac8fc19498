-- Images that have each other's objects are the same, and the reverse.
use Rattle.std.proofs.Common.{◌≡◌, ℕ, zero, suc, ◌+◌, ◌<◌, ◌≢◌, Bool, true, false, cond, eqb, ltb, List, [], ◌∷◌, length, get_or, Option, Some, None, option_map, slice_get, refl, sym, ap, ap₂, ◌∙◌, subst, arith}
use Rattle.std.proofs.lemmas.Bool.{eq-eqb, ltb-false, ltb-true, ne_eqb}
use Rattle.std.proofs.lemmas.Bool.Decides.{nat_tests}
use Rattle.std.proofs.lemmas.Option.{get_or_from_slice_get}
use Rattle.long_names.specs.declared.object.Object.{Object}
use Rattle.long_names.specs.declared.object.Rec.{Rec}
use Rattle.long_names.specs.declared.value.Value.{Value}
use Rattle.image_format.specs.Rules.{object_in, object_of_rec, rec_in}
use Rattle.st80_objects.specs.Rising.{IsRising, name_at}
use Rattle.st80_show.specs.Same.{HasSame}

-- lists of the same length, with the same item at each place
pub same_lists : (a b : List Value) → length a ≡ length b → ((k : ℕ) → k < length a → slice_get a k ≡ slice_get b k) → a ≡ b
same_lists [] [] len same = refl
same_lists [] (y ∷ b) len same = absurd (omega (arith, len))
same_lists (x ∷ a) [] len same = absurd (omega (arith, len))
same_lists (x ∷ a) (y ∷ b) len same =
    let first : ◌≡◌ {A = Option Value} (Some x) (Some y) = same 0 (omega arith) in
    let one : x ≡ y = cc in
    ap₂ (λ (v : Value) (vs : List Value). v ∷ vs) one (same_lists a b (omega (arith, len)) (λ k lt. same (suc k) (omega (arith, lt))))

-- the record of a name stands somewhere
pub record IsPlaced (l : List Rec) (n : ℕ) (r : Rec) : Type 0 where
  pub place : ℕ
  pub at : slice_get l place ≡ Some r
  pub named : r.name ≡ n

placed : (l : List Rec) (n : ℕ) (r : Rec) → rec_in l n ≡ Some r → IsPlaced l n r
placed [] n r e = let clash : ◌≡◌ {A = Option Rec} None (Some r) = e in absurd (cc)
placed (x ∷ l) n r e = go (eqb x.name n) refl (placed l n r)
  where
    go : (b : Bool) → eqb x.name n ≡ b → (rec_in l n ≡ Some r → IsPlaced l n r) → IsPlaced (x ∷ l) n r
    go true is rest =
        let here : ◌≡◌ {A = Option Rec} (Some x) (Some r) = sym (ap (λ (b : Bool). cond b (Some x) (rec_in l n)) is) ∙ e in
        let same : x ≡ r = cc in
        record { place = 0; at = here; named = ap (λ (r : Rec). r.name) (sym same) ∙ grind (arith, nat_tests, is) }
    go false is rest =
        let behind = rest (sym (ap (λ (b : Bool). cond b (Some x) (rec_in l n)) is) ∙ e) in
        record { place = suc behind.place; at = behind.at; named = behind.named }

rising_tail : (x : Rec) (l : List Rec) → IsRising (x ∷ l) → IsRising l
rising_tail x l rising i j d lt in_range = rising (suc i) (suc j) d (omega (arith, lt)) (omega (arith, in_range))

pub in_range : (l : List Rec) (i : ℕ) (r : Rec) → slice_get l i ≡ Some r → i < length l
in_range [] i r e = let clash : ◌≡◌ {A = Option Rec} None (Some r) = e in absurd (cc)
in_range (x ∷ l) zero r e = omega arith
in_range (x ∷ l) (suc i) r e = omega (arith, in_range l i r e)

-- and is the one that is found by its name
again : (l : List Rec) (i : ℕ) (r : Rec) → IsRising l → slice_get l i ≡ Some r → rec_in l r.name ≡ Some r
again [] i r rising e = e
again (x ∷ l) zero r rising e =
    let same : x ≡ r = cc in
    let test : eqb x.name r.name ≡ true = eq-eqb _ _ (ap (λ (r : Rec). r.name) same) in
    ap (λ (b : Bool). cond b (Some x) (rec_in l r.name)) test ∙ e
again (x ∷ l) (suc i) r rising e =
    let higher : name_at (x ∷ l) 0 r < name_at (x ∷ l) (suc i) r = rising 0 (suc i) r (omega arith) (omega (arith, in_range l i r e)) in
    let named : name_at l i r ≡ r.name = ap (λ (r : Rec). r.name) (get_or_from_slice_get l i r r e) in
    let test : eqb x.name r.name ≡ false = ne_eqb _ _ (λ same. omega (arith, higher, named, same)) in
    ap (λ (b : Bool). cond b (Some x) (rec_in l r.name)) test ∙ again l i r (rising_tail x l rising) e

-- ---- each other's objects

pub from_both : (a b : List Rec) → HasSame a b → HasSame b a → (n : ℕ) → object_in a n ≡ object_in b n
from_both a b ab ba n = go (rec_in a n) (rec_in b n) refl refl
  where
    go : (x y : Option Rec) → rec_in a n ≡ x → rec_in b n ≡ y → object_in a n ≡ object_in b n
    go (Some r) y ex ey =
        let p = placed a n r ex in
        ap (option_map object_of_rec) ex ∙ sym (ab p.place r p.at) ∙ ap (object_in b) p.named
    go None (Some s) ex ey =
        let p = placed b n s ey in
        sym (ap (object_in a) p.named) ∙ ba p.place s p.at ∙ sym (ap (option_map object_of_rec) ey)
    go None None ex ey = ap (option_map object_of_rec) ex ∙ sym (ap (option_map object_of_rec) ey)

pub to_each : (a b : List Rec) → IsRising a → ((n : ℕ) → object_in a n ≡ object_in b n) → HasSame a b
to_each a b rising same i r e = sym (same r.name) ∙ ap (option_map object_of_rec) (again a i r rising e)

-- ---- one object of the first

pub at_place : (l : List Rec) (i : ℕ) (r : Rec) → i < length l → r ≡ get_or l i r → slice_get l i ≡ Some r
at_place [] i r lt e = absurd (omega (arith, lt))
at_place (x ∷ l) zero r lt e = ap Some (sym e)
at_place (x ∷ l) (suc i) r lt e = at_place l i r (omega (arith, lt)) e

pub not_same : (a b : List Rec) (i : ℕ) (r s : Rec) → slice_get a i ≡ Some r → Some s ≡ rec_in b r.name → (object_of_rec r ≡ object_of_rec s → ⊥) → HasSame a b → ⊥
not_same a b i r s at found other has =
    let both : ◌≡◌ {A = Option Object} (Some (object_of_rec s)) (Some (object_of_rec r)) = ap (option_map object_of_rec) found ∙ has i r at in
    let same : object_of_rec s ≡ object_of_rec r = cc in
    other (sym same)

pub none_same : (a b : List Rec) (i : ℕ) (r : Rec) → slice_get a i ≡ Some r → None ≡ rec_in b r.name → HasSame a b → ⊥
none_same a b i r at found has =
    let clash : ◌≡◌ {A = Option Object} None (Some (object_of_rec r)) = ap (option_map object_of_rec) found ∙ has i r at in
    absurd (cc)

pub one_same : (b : List Rec) (r s : Rec) → Some s ≡ rec_in b r.name → object_of_rec r ≡ object_of_rec s → object_in b r.name ≡ Some (object_of_rec r)
one_same b r s found same = sym (ap (option_map object_of_rec) found) ∙ ap Some (sym same)

-- one record more
pub step : (P : Rec → Type 0) (a : List Rec) (n : ℕ) (x : Rec) → slice_get a n ≡ Some x → ((k : ℕ) (r : Rec) → k < n → slice_get a k ≡ Some r → P r) → P x → (k : ℕ) (r : Rec) → k < n + 1 → slice_get a k ≡ Some r → P r
step P a n x at before here k r lt e = go (ltb k n) refl
  where
    go : (b : Bool) → ltb k n ≡ b → P r
    go true t = before k r (ltb-true _ _ t) e
    go false t =
        let same : k ≡ n = omega (arith, ltb-false _ _ t, lt) in
        let both : ◌≡◌ {A = Option Rec} (Some x) (Some r) = sym at ∙ ap (slice_get a) (sym same) ∙ e in
        let one : x ≡ r = cc in
        subst P one here

pub true_unless : (b : Bool) → (b ≡ false → ⊥) → b ≡ true
true_unless true never = refl
true_unless false never = absurd (never refl)
