-- Words of bodies, and fields among them.
use Rattle.std.proofs.Common.{zero, suc, pos, negsuc, ◌≡◌, ℕ, ◌-◌, ◌/◌, ◌<◌, ◌≤◌, Bool, true, false, cond, nat_lt, List, [], ◌∷◌, length, get_or, refl, sym, ◌∙◌, arith, Some}
use Rattle.std.proofs.lemmas.Grind.{common_steps}
use Rattle.std.proofs.lemmas.Option.{slice_get_within, slice_get-get_or}
use Rattle.std.specs.List.{slice_get}
use Rattle.std.specs.Prelude.{take}
use Rattle.long_names.specs.Words.{literal_count, IsSmallInteger}
use Rattle.long_names.specs.declared.object.Kind.{Kind}
use Rattle.long_names.specs.declared.object.Kind.TheVariants as kind
use Rattle.object_table.specs.Entries.{place_of}
use Rattle.core_view.specs.Core.{Core}
use Rattle.core_view.specs.Words.{pointers, spot, literals_in, int_of_short}
use Rattle.core_view.specs.Kept.{IsCore}
use Rattle.core_view.specs.Steps.{IsAt}
use Rattle.core_view.proofs.Few.{pointers-small}

take-get : (n : ℕ) (xs : List ℕ) (i w : ℕ) → slice_get (take n xs) i ≡ Some w → slice_get xs i ≡ Some w
take-get zero xs i w e = cc
take-get (suc n) [] i w e = cc
take-get (suc n) (x ∷ xs) zero w e = e
take-get (suc n) (x ∷ xs) (suc i) w e = take-get n xs i w e

literals-get : (ws : List ℕ) (i w : ℕ) → slice_get (literals_in ws) i ≡ Some w → slice_get ws (suc i) ≡ Some w
literals-get [] i w e = cc
literals-get (h ∷ rest) i w e = take-get (literal_count (int_of_short h)) rest i w e

-- a field's word stands at its spot
pub spot-get : (k : Kind) (ws : List ℕ) (i w : ℕ) → slice_get (pointers k ws) i ≡ Some w → slice_get ws (spot k i) ≡ Some w
spot-get kind.Pointers ws i w e = e
spot-get kind.Words ws i w e = cc
spot-get kind.Bytes ws i w e = cc
spot-get kind.Method ws i w e = literals-get ws i w e

get-at-take : (n : ℕ) (xs : List ℕ) (i w v : ℕ) → slice_get (take n xs) i ≡ Some v → slice_get xs i ≡ Some w → slice_get (take n xs) i ≡ Some w
get-at-take n xs i w v e f = e ∙ sym (take-get n xs i v e) ∙ f

literals-at : (ws : List ℕ) (i w v : ℕ) → slice_get (literals_in ws) i ≡ Some v → slice_get ws (suc i) ≡ Some w → slice_get (literals_in ws) i ≡ Some w
literals-at [] i w v e f = cc
literals-at (h ∷ rest) i w v e f = get-at-take (literal_count (int_of_short h)) rest i w v e f

-- and what stands there is the field's word
pub get-spot : (k : Kind) (ws : List ℕ) (i w v : ℕ) → slice_get (pointers k ws) i ≡ Some v → slice_get ws (spot k i) ≡ Some w → slice_get (pointers k ws) i ≡ Some w
get-spot kind.Pointers ws i w v e f = f
get-spot kind.Words ws i w v e f = cc
get-spot kind.Bytes ws i w v e f = cc
get-spot kind.Method ws i w v e f = literals-at ws i w v e f

-- the index of a field has 16 bits
pub at-small : (c : Core) (s p i w : ℕ) → IsCore c → IsAt c s p i w → i < 65535
at-small c s p i w core at =
    let low = slice_get_within (pointers (c.entries s).kind (c.chunks p).words) i w at.word in
    let few = pointers-small (c.entries s).kind (c.chunks p).words (c.entries s).len (core.long s p at.place) (core.small s p at.place) in
    omega arith

-- field i of a body that has so many
pub field-there : (c : Core) (s p i n : ℕ) → place_of (c.entries s).state ≡ Some p → n ≡ length (pointers (c.entries s).kind (c.chunks p).words) → i < n → (old : ℕ) × IsAt c s p i old
field-there c s p i n at total low =
    (get_or (pointers (c.entries s).kind (c.chunks p).words) i 0, record { place = at; word = slice_get-get_or (pointers (c.entries s).kind (c.chunks p).words) i 0 (omega arith) })

-- the number of an odd short word is a SmallInteger
pub odd-small : (w : ℕ) → w < 65536 → IsSmallInteger (int_of_short w)
odd-small w low = go (nat_lt (w / 2) 16384) refl
  where
    go : (b : Bool) → nat_lt (w / 2) 16384 ≡ b → IsSmallInteger (cond b (pos (w / 2)) (negsuc (32767 - w / 2)))
    go true e = grind (arith, common_steps)
    go false e = let far : 16384 ≤ w / 2 = grind (arith, common_steps) in omega arith
