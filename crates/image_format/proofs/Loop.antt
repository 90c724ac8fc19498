-- Reading many fields one after the other, as a loop does.
-- Repetition is one definition over the reader of one element, `many_at`, with two laws (`many_take`, `many_again`) and one
-- loop invariant.
use Rattle.std.proofs.Common.{◌≡◌, ℕ, suc, ◌-◌, ◌+◌, ◌≤◌, ◌<◌, List, [], ◌∷◌, ◌++◌, Result, Ok, Err, refl, sym, ap, ◌∙◌, append_assoc, arith}
use Rattle.std.proofs.lemmas.List.{append-nil}
use Rattle.image_format.specs.declared.fault.Halt.{Halt}
use Rattle.image_format.specs.Reading.{◌>>=◌, many_at}

-- what was read before, and what is still read
abbrev pub with_front : {X : Type 0} → List X → Result (List X × List ℕ) Halt → Result (List X × List ℕ) Halt
with_front front read = read >>= λ x. Ok (front ++ x.0, x.1)

regroup : {X : Type 0} (front : List X) (x : X) (read : Result (List X × List ℕ) Halt) → with_front front (read >>= λ y. Ok (x ∷ y.0, y.1)) ≡ with_front (front ++ x ∷ []) read
regroup {X = X} front x (Ok y) = ap (λ (xs : List X). Ok (xs, y.1)) (simp append_assoc)
regroup front x (Err h) = refl

pub goes_on : {X : Type 0} (read : List ℕ → Result (X × List ℕ) Halt) (front : List X) (count i : ℕ) (bytes : List ℕ) (x : X) (after : List ℕ) (total : Result (List X × List ℕ) Halt) → i < count → read bytes ≡ Ok (x, after)
    → with_front front (many_at read (count - i) bytes) ≡ total → with_front (front ++ x ∷ []) (many_at read (count - (i + 1)) after) ≡ total
unfolding many_at
goes_on read front count i bytes x after total lt h so_far =
    let k : count - i ≡ suc (count - (i + 1)) = omega arith in
    let one : with_front front (many_at read (count - i) bytes) ≡ with_front (front ++ x ∷ []) (many_at read (count - (i + 1)) after) = rw (k, h) (regroup front x (many_at read (count - (i + 1)) after)) in
    sym one ∙ so_far

pub ends : {X : Type 0} (read : List ℕ → Result (X × List ℕ) Halt) (h : Halt) (front : List X) (count i : ℕ) (bytes : List ℕ) (total : Result (List X × List ℕ) Halt) → i < count → read bytes ≡ Err h
    → with_front front (many_at read (count - i) bytes) ≡ total → total ≡ Err h
unfolding many_at
ends read h front count i bytes total lt halts so_far =
    let k : count - i ≡ suc (count - (i + 1)) = omega arith in
    let one : with_front front (many_at read (count - i) bytes) ≡ Err h = rw (k, halts) refl in
    sym so_far ∙ one

pub is_done : {X : Type 0} (read : List ℕ → Result (X × List ℕ) Halt) (front : List X) (count i : ℕ) (bytes : List ℕ) (total : Result (List X × List ℕ) Halt) → count ≤ i → with_front front (many_at read (count - i) bytes) ≡ total → total ≡ Ok (front, bytes)
unfolding many_at
is_done {X = X} read front count i bytes total le so_far =
    let k : count - i ≡ 0 = omega arith in
    let one : with_front front (many_at read (count - i) bytes) ≡ Ok (front, bytes) = rw k (ap (λ (xs : List X). Ok (xs, bytes)) (append-nil front)) in
    sym so_far ∙ one
