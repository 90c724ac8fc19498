-- What two machines have alike that lose the same names: objects, values that are there, and rows.
use Rattle.std.proofs.Common.{◌≡◌, ℕ, ℤ, Bool, true, false, [], ◌∷◌, Option, Some, is_some, refl, sym, ◌∙◌, ap, subst}
use Rattle.long_names.specs.declared.value.Value.{Value}
use Rattle.long_names.specs.declared.value.Value.TheVariants.{Int, Ref}
use Rattle.long_names.specs.Names.{is_known, SMALL_INTEGER}
use Rattle.long_names.specs.Heap.{Heap, Has}
use Rattle.long_names.specs.State.{object_at, name_at}
use Rattle.long_names.specs.Need.{Row}
use Rattle.long_names.proofs.AccessLaws.{words_at-same, words_of_row-same, entries_of_row-same}
use Rattle.blue_model.specs.Machine.{Machine, logged, row_of, is_there, rows_at}
use Rattle.blue_model.specs.Alike.{Lost, IsAlike, IsKept}

-- ---- what is there and what is lost

-- what is there is not lost
pub not_lost : (w : Lost) (m s : Machine) → IsAlike w m s → (n : ℕ) → Has s.heap n → w.lost n ≡ false
not_lost w m s h n there = go (w.lost n) refl
  where
    go : (b : Bool) → w.lost n ≡ b → w.lost n ≡ false
    go false e = e
    go true e = let gone = h.gone n e in absurd (cc)

pub kept_int : {w : Lost} (z : ℤ) → IsKept w (Int z)
kept_int z = record { kept = λ n e. (cc) }

pub kept_ref : (w : Lost) (n : ℕ) → w.lost n ≡ false → IsKept w (Ref n)
kept_ref w n e = record { kept = λ k f. let same : n ≡ k = cc in subst (λ j. w.lost j ≡ false) same e }

pub kept_known : {w : Lost} (n : ℕ) → is_known n ≡ true → IsKept w (Ref n)
kept_known {w} n e = kept_ref w n (w.known n e)

-- and so is the class of SmallIntegers
pub name_kept : (w : Lost) (v : Value) → IsKept w v → w.lost (name_at v) ≡ false
name_kept w (Int z) k = w.known SMALL_INTEGER refl
name_kept w (Ref n) k = k.kept n refl

pub object_alike : (w : Lost) (m s : Machine) → IsAlike w m s → (v : Value) → IsKept w v → object_at s.heap v ≡ object_at m.heap v
object_alike w m s h (Int z) k = refl
object_alike w m s h (Ref n) k = h.same n (k.kept n refl)

pub there_alike : (w : Lost) (m s : Machine) → IsAlike w m s → (v : Value) → IsKept w v → is_there s.heap v ≡ is_there m.heap v
there_alike w m s h (Int z) k = refl
there_alike w m s h (Ref n) k = ap is_some (h.same n (k.kept n refl))

pub there_has : (h : Heap) (v : Value) → is_there h v ≡ true → (n : ℕ) → v ≡ Ref n → Has h n
there_has h (Int z) e n f = cc
there_has h (Ref k) e n f = subst (λ x. is_there h x ≡ true) f e

-- ---- rows

pub logged-same : (h s : Heap) (r : Row) (makes : Bool) → h.at r.object ≡ s.at r.object → ((i k : ℕ) → r.slots i ≡ Some k → h.at k ≡ s.at k) → logged h r makes ≡ logged s r makes
logged-same h s r makes object pins = λ i. record { object = r.object; words = words_of_row-same h s r object pins i; entries = entries_of_row-same h s r pins i; makes = makes; own = words_at-same h s r.object object i }

pub row_alike : (w : Lost) (m s : Machine) (n : ℕ) → IsAlike w m s → w.lost n ≡ false → row_of m n ≡ row_of s n
row_alike w m s n h kept =
    ap (λ (z : ℕ → Option ℕ). logged m.heap (record { object = n; slots = z }) false) (sym h.thinned.slots)
    ∙ logged-same m.heap s.heap (record { object = n; slots = s.slots }) false (sym (h.same n kept)) (λ i k e. sym (h.same k (not_lost w m s h k (h.thinned.thinning.whole.pinned i k e))))

pub rows_alike : (w : Lost) (m s : Machine) (v : Value) → IsAlike w m s → IsKept w v → rows_at m v ≡ rows_at s v
rows_alike w m s (Int z) h k = refl
rows_alike w m s (Ref n) h k = ap (λ r. r ∷ []) (row_alike w m s n h (k.kept n refl))
