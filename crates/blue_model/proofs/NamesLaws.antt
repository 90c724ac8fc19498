-- How often names stand in lists.
use Rattle.std.proofs.Common.{◌≡◌, ◌⊎◌, inl, inr, zero, suc, ℕ, ◌+◌, ◌≤◌, ◌==◌, Bool, true, false, List, [], ◌∷◌, ◌++◌, refl, sym, ap, subst, if◌then◌else◌, arith, ne_eqb, eq-eqb, eqb-true}
use Rattle.blue_model.specs.Queues.{times_in, IsAmong, IsNotAmong, AllDifferent, last_of}

-- 1 where the two are the same
pub same : ℕ → ℕ → ℕ
same k n = if k == n then 1 else 0

pub same-self : (n : ℕ) → same n n ≡ 1
unfolding same
same-self n = ap (λ b. if b then 1 else 0) (eq-eqb n n refl)

pub same-is : (k n : ℕ) → 1 ≤ same k n → k ≡ n
unfolding same
same-is k n = go (k == n) refl
  where
    go : (b : Bool) → (k == n) ≡ b → 1 ≤ (if b then 1 else 0) → k ≡ n
    go true e le = eqb-true k n e
    go false e le = absurd (omega arith)

pub same-apart : (k n : ℕ) → (k ≡ n → ⊥) → same k n ≡ 0
unfolding same
same-apart k n apart = ap (λ b. if b then 1 else 0) (ne_eqb k n apart)

pub same-no : (k n : ℕ) → (k == n) ≡ false → same k n ≡ 0
unfolding same
same-no k n e = ap (λ b. if b then 1 else 0) e

pub same-most : (k n : ℕ) → same k n ≤ 1
unfolding same
same-most k n = go (k == n)
  where
    go : (b : Bool) → (if b then 1 else 0) ≤ 1
    go true = omega arith
    go false = omega arith

pub times-none : (n : ℕ) → times_in n [] ≡ 0
unfolding times_in
times-none n = refl

pub times-cons : (n k : ℕ) (ks : List ℕ) → times_in n (k ∷ ks) ≡ same k n + times_in n ks
unfolding times_in same
times-cons n k ks = refl

pub times-append : (n : ℕ) (xs ys : List ℕ) → times_in n (xs ++ ys) ≡ times_in n xs + times_in n ys
times-append n [] ys = omega (arith, times-none)
times-append n (x ∷ xs) ys = let rest = times-append n xs ys in omega (arith, times-cons n x (xs ++ ys), times-cons n x xs, rest)

pub ruleset names = (times-none, times-cons, times-append, same-self)

-- what isn't among names is none of them
pub not_first : (n k : ℕ) (ks : List ℕ) → IsNotAmong n (k ∷ ks) → k ≡ n → ⊥
not_first n k ks out e = let at : times_in k (k ∷ ks) ≡ 0 = subst (λ x. times_in x (k ∷ ks) ≡ 0) (sym e) out in omega (arith, names)

-- of different names what is among the later ones isn't the first
pub first_differs : (n k : ℕ) (ks : List ℕ) → AllDifferent (k ∷ ks) → IsAmong n ks → n ≡ k → ⊥
first_differs n k ks once among e = let all = once k in let at : 1 ≤ times_in k ks = subst (λ x. 1 ≤ times_in x ks) e among in omega (arith, names)

pub among_differs : (n k : ℕ) (ks : List ℕ) → IsAmong n ks → IsNotAmong k ks → n ≡ k → ⊥
among_differs n k ks among out e = let at : 1 ≤ times_in k ks = subst (λ x. 1 ≤ times_in x ks) e among in omega (arith, out, at)

pub different_rest : (k : ℕ) (ks : List ℕ) → AllDifferent (k ∷ ks) → AllDifferent ks
different_rest k ks once n = let all = once n in omega (arith, names)

pub different_more : (p : ℕ) (ns : List ℕ) → AllDifferent ns → IsNotAmong p ns → AllDifferent (p ∷ ns)
different_more p ns once out n = by (p == n) refl
  where
    by : (b : Bool) → (p == n) ≡ b → times_in n (p ∷ ns) ≤ 1
    by true e = let none : times_in n ns ≡ 0 = subst (λ x. times_in x ns ≡ 0) (eqb-true p n e) out in let most = same-most p n in omega (arith, names, none, most)
    by false e = let none = same-no p n e in let all = once n in omega (arith, names, none, all)

-- one of two sums isn't 0
pub either : (a b : ℕ) → 1 ≤ a + b → (1 ≤ a) ⊎ (1 ≤ b)
either zero b le = inr (omega arith)
either (suc a) b le = inl (omega arith)

pub last_among : (n : ℕ) (ns : List ℕ) → IsAmong (last_of n ns) (n ∷ ns)
last_among n [] = omega (arith, names)
last_among n (k ∷ ks) = let rest = last_among k ks in omega (arith, rest, times-cons (last_of k ks) n (k ∷ ks))

pub last_added : (n : ℕ) (ns : List ℕ) (p : ℕ) → last_of n (ns ++ p ∷ []) ≡ p
last_added n [] p = refl
last_added n (k ∷ ks) p = last_added k ks p
