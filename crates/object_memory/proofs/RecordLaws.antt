-- Heaps and their records.
use Rattle.std.proofs.Common.{zero, suc, ◌≡◌, ℕ, ◌<◌, Bool, true, false, cond, eqb, List, [], ◌∷◌, take, Option, Some, None, is_some, pos, refl, sym, ◌∙◌, ap, subst, arith}
use Rattle.std.proofs.lemmas.Grind.{common_steps}
use mathlib.Core.Path.{fun_ext}
use Rattle.std.proofs.lemmas.List.Elements.{All-head, All-tail}
use Rattle.std.specs.List.{All, slice_get}
use Rattle.long_names.specs.declared.value.Value.{Value}
use Rattle.long_names.specs.declared.value.Value.TheVariants.{Int}
use Rattle.long_names.specs.Thin.{IsWhole}
use Rattle.long_names.specs.Heap.{Heap, put_object}
use Rattle.long_names.specs.declared.object.Object.{Object}
use Rattle.long_names.specs.declared.object.Rec.{Rec}
use Rattle.object_memory.specs.Records.{object_of_rec, object_in, heap_of_recs, Rise, AreWhole}

rise-at : (low : ℕ) (recs : List Rec) (i : ℕ) (r : Rec) → Rise low recs → slice_get recs i ≡ Some r → low < r.name
rise-at low [] i r rise e = cc
rise-at low (x ∷ xs) zero r rise e = let same : x ≡ r = cc in subst (λ (y : Rec). low < y.name) same rise.0
rise-at low (x ∷ xs) (suc i) r rise e = let first = rise.0 in let rest = rise-at x.name xs i r rise.1 e in omega arith

-- one record more
object_in-more : (low : ℕ) (recs : List Rec) (i : ℕ) (r : Rec) → Rise low recs → slice_get recs i ≡ Some r → (q : ℕ) → object_in (take (suc i) recs) q ≡ cond (eqb q r.name) (Some (object_of_rec r)) (object_in (take i recs) q)
object_in-more low [] i r rise e q = cc
object_in-more low (x ∷ xs) zero r rise e q = let same : x ≡ r = cc in subst (λ (y : Rec). cond (eqb x.name q) (Some (object_of_rec x)) None ≡ cond (eqb q y.name) (Some (object_of_rec y)) None) same (grind (arith, common_steps))
object_in-more low (x ∷ xs) (suc i) r rise e q =
    let apart : x.name < r.name = rise-at x.name xs i r rise.1 e in
    ap (λ y. cond (eqb x.name q) (Some (object_of_rec x)) y) (object_in-more x.name xs i r rise.1 e q)
    ∙ swap (object_in (take i xs) q) apart
  where
    swap : (y : Option Object) → x.name < r.name → cond (eqb x.name q) (Some (object_of_rec x)) (cond (eqb q r.name) (Some (object_of_rec r)) y) ≡ cond (eqb q r.name) (Some (object_of_rec r)) (cond (eqb x.name q) (Some (object_of_rec x)) y)
    swap y apart = grind (arith, common_steps)

-- a heap of records with the next one put
pub heap_of_recs-more : (low : ℕ) (recs : List Rec) (next i : ℕ) (r : Rec) → Rise low recs → slice_get recs i ≡ Some r → put_object (heap_of_recs (take i recs) next) r.name (object_of_rec r) ≡ heap_of_recs (take (suc i) recs) next
heap_of_recs-more low recs next i r rise e = ap (λ (f : ℕ → Option Object). let h : Heap = record { at = f; next = next } in h) (fun_ext (λ q. sym (object_in-more low recs i r rise e q)))

below-in : (recs : List Rec) (next n : ℕ) → All (λ (r : Rec). r.name < next) recs → is_some (object_in recs n) ≡ true → n < next
below-in [] next n low there = let no : ◌≡◌ {A = Bool} false true = there in cc
below-in (r ∷ rs) next n low there = go (eqb r.name n) refl there (below-in rs next n (All-tail (λ (r : Rec). r.name < next) r rs low))
  where
    go : (b : Bool) → eqb r.name n ≡ b → is_some (cond b (Some (object_of_rec r)) (object_in rs n)) ≡ true → (is_some (object_in rs n) ≡ true → n < next) → n < next
    go true e there rest = let same : r.name ≡ n = grind (arith, common_steps, e) in let first : r.name < next = All-head (λ (r : Rec). r.name < next) r rs low in omega arith
    go false e there rest = rest there

whole-recs : (recs : List Rec) (next : ℕ) → AreWhole recs next → IsWhole (heap_of_recs recs next) (λ r. Int (pos 0)) (λ i. None)
whole-recs recs next x = record { known = x.known; below = λ n there. below-in recs next n x.below there; closed = x.closed; rooted = λ r n e. (cc); pinned = λ i n e. (cc) }

-- the heap of records, where no register holds a name and no slot
pub whole-at : (recs : List Rec) (next : ℕ) (h : Heap) (regs : ℕ → Value) (slots : ℕ → Option ℕ) → AreWhole recs next → h ≡ heap_of_recs recs next → regs ≡ (λ r. Int (pos 0)) → slots ≡ (λ i. None) → IsWhole h regs slots
whole-at recs next h regs slots x e f g =
    subst (λ (y : ℕ → Option ℕ). IsWhole h regs y) (sym g)
    (subst (λ (y : ℕ → Value). IsWhole h y (λ i. None)) (sym f)
    (subst (λ (y : Heap). IsWhole y (λ r. Int (pos 0)) (λ i. None)) (sym e) (whole-recs recs next x)))
