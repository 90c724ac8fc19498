-- How many entries are in use, counted by short words.
use Rattle.std.proofs.Common.{zero, suc, ◌≡◌, ℕ, ◌+◌, ◌-◌, ◌*◌, ◌/◌, ◌%◌, ◌≤◌, Bool, true, false, cond, List, [], ◌∷◌, length, get_or, refl, sym, ◌∙◌, ap, subst, arith, count_by}
use Rattle.std.proofs.lemmas.Grind.{common_steps}
use Rattle.object_table.specs.declared.entry.Entry.{Entry}
use Rattle.object_table.specs.Entries.{is_short, is_used, is_free, free_entry, used_by, sum_below}
use Rattle.object_table.proofs.ShortLaws.{at_short, at_short-index, at_short-past, short-even}
use Rattle.object_table.proofs.VacantLaws.{count-cons}

sum-first : (n : ℕ) (f : ℕ → ℕ) → sum_below (suc n) f ≡ f 0 + sum_below n (λ k. f (suc k))
sum-first zero f = omega arith
sum-first (suc n) f = let rest : sum_below n f + f n ≡ f 0 + sum_below n (λ k. f (suc k)) = sum-first n f in omega arith

-- an entry is free or in use
one-of : (b : Bool) → cond {A = ℕ} b 1 0 + cond {A = ℕ} (cond b false true) 1 0 ≡ 1
one-of true = refl
one-of false = refl

list-counted : (xs : List Entry) (n : ℕ) → n ≡ length xs → count_by is_free xs + sum_below n (λ k. used_by (get_or xs k free_entry)) ≡ n
list-counted [] zero e = refl
list-counted [] (suc n) e = absurd (omega arith)
list-counted (x ∷ xs) zero e = absurd (omega arith)
list-counted (x ∷ xs) (suc n) e =
    let first = sum-first n (λ k. used_by (get_or (x ∷ xs) k free_entry)) in
    let count = count-cons is_free x xs in
    let one = one-of (is_used x.state) in
    let rest = list-counted xs n (omega arith) in
    omega arith

short-odd : (n : ℕ) → is_short (suc (2 * n + 2)) ≡ false
short-odd n = let odd : suc (2 * n + 2) % 2 ≡ 1 = omega arith in grind (arith, common_steps)

-- a sum by short words is one by places
shorts-sum : (xs : List Entry) (n : ℕ) → sum_below (2 * n + 2) (λ s. used_by (at_short free_entry xs s)) ≡ sum_below n (λ k. used_by (get_or xs k free_entry))
shorts-sum xs zero = refl
shorts-sum xs (suc n) =
    let f : ℕ → ℕ = λ s. used_by (at_short free_entry xs s) in
    let two : 2 * suc n + 2 ≡ suc (suc (2 * n + 2)) = omega arith in
    let even : f (2 * n + 2) ≡ used_by (get_or xs n free_entry) = ap f (let e : 2 * n + 2 ≡ 2 * (n + 1) = omega arith in e) ∙ ap used_by (at_short-index free_entry xs n) in
    let odd : f (suc (2 * n + 2)) ≡ 0 = ap (λ b. used_by (cond b (get_or xs (suc (2 * n + 2) / 2 - 1) free_entry) free_entry)) (short-odd n) in
    let rest = shorts-sum xs n in
    subst (λ (z : ℕ). sum_below z f ≡ sum_below (suc n) (λ k. used_by (get_or xs k free_entry))) (sym two) (omega arith)

-- nothing is in use past a list
past-zero : (xs : List Entry) (s : ℕ) → 2 * length xs + 2 ≤ s → used_by (at_short free_entry xs s) ≡ 0
past-zero xs s past = go (is_short s) refl
  where
    go : (b : Bool) → is_short s ≡ b → used_by (at_short free_entry xs s) ≡ 0
    go true short = let parts = short-even s short in ap used_by (at_short-past free_entry xs s (s / 2 - 1) refl short (omega (arith, parts.0, parts.1)))
    go false odd = ap (λ b. used_by (cond b (get_or xs (s / 2 - 1) free_entry) free_entry)) odd

sum-more : (n m : ℕ) (f : ℕ → ℕ) → ((k : ℕ) → n ≤ k → f k ≡ 0) → sum_below (n + m) f ≡ sum_below n f
sum-more n zero f none = ap (λ (z : ℕ). sum_below z f) (let e : n + zero ≡ n = omega arith in e)
sum-more n (suc m) f none =
    let e : n + suc m ≡ suc (n + m) = omega arith in
    let last = none (n + m) (omega arith) in
    let rest = sum-more n m f none in
    subst (λ (z : ℕ). sum_below z f ≡ sum_below n f) (sym e) (omega arith)

pub counted : (xs : List Entry) (size : ℕ) → length xs ≤ size
    → size ≡ size - length xs + count_by is_free xs + sum_below (2 * size + 2) (λ s. used_by (at_short free_entry xs s))
counted xs size within =
    let n = 2 * length xs + 2 in
    let f : ℕ → ℕ = λ s. used_by (at_short free_entry xs s) in
    let all = list-counted xs (length xs) refl in
    let same = shorts-sum xs (length xs) in
    let e : 2 * size + 2 ≡ n + 2 * (size - length xs) = omega arith in
    let more : sum_below (2 * size + 2) f ≡ sum_below n f = ap (λ (z : ℕ). sum_below z f) e ∙ sum-more n (2 * (size - length xs)) f (past-zero xs) in
    omega arith
