-- Names that join those that are pending.
use Rattle.std.proofs.Common.{count_by, ◌==◌, ◌≡◌, ℕ, ◌+◌, Bool, true, false, cond, eqb, List, ◌∷◌, Option, Some, None, refl, sym, ◌∙◌, ap, arith}
use Rattle.std.proofs.lemmas.Grind.{common_steps}
use Rattle.std.proofs.lemmas.List.Sums.{sum_by-cons}
use Rattle.long_names.specs.Names.{is_known}
use Rattle.long_names.proofs.CountLaws.{eqb-here, eqb-other}
use Rattle.core_view.specs.Levels.{Stored, waits}
use Rattle.core_view.specs.Counted.{one_if}
use Rattle.core_view.specs.LevelSteps.{joined}

pub times-cons : (q n : ℕ) (xs : List ℕ) → count_by (λ x. x == q) (n ∷ xs) ≡ one_if (eqb n q) + count_by (λ x. x == q) xs
times-cons q n xs = sum_by-cons (λ k. one_if (eqb k q)) n xs

pub times-here : (n : ℕ) (xs : List ℕ) → count_by (λ x. x == n) (n ∷ xs) ≡ 1 + count_by (λ x. x == n) xs
times-here n xs = times-cons n n xs ∙ ap (λ b. one_if b + count_by (λ x. x == n) xs) (eqb-here n)

pub times-other : (q n : ℕ) (xs : List ℕ) → (q ≡ n → ⊥) → count_by (λ x. x == q) (n ∷ xs) ≡ count_by (λ x. x == q) xs
times-other q n xs other = let a = times-cons q n xs in let b = ap one_if (eqb-other n q (λ is. other (sym is))) in omega arith

pub joined-here : (find : Option ℕ) (r : Option Stored) (n : ℕ) (pending : List ℕ) → count_by (λ x. x == n) pending ≡ 0 → count_by (λ x. x == n) (joined find r n pending) ≡ one_if (waits find r (is_known n))
joined-here find r n pending none = go (waits find r (is_known n))
  where
    go : (b : Bool) → count_by (λ x. x == n) (cond b (n ∷ pending) pending) ≡ one_if b
    go true = let a = times-here n pending in let z = none in omega arith
    go false = none

pub joined-there : (find : Option ℕ) (r : Option Stored) (n q : ℕ) (pending : List ℕ) → (q ≡ n → ⊥) → count_by (λ x. x == q) (joined find r n pending) ≡ count_by (λ x. x == q) pending
joined-there find r n q pending other = go (waits find r (is_known n))
  where
    go : (b : Bool) → count_by (λ x. x == q) (cond b (n ∷ pending) pending) ≡ count_by (λ x. x == q) pending
    go true = times-other q n pending other
    go false = refl

-- what waits is on disk with count 0, has no entry, and isn't known
pub record IsWaiting (find : Option ℕ) (r : Option Stored) (known : Bool) : Type 0 where
  pub no_entry : find ≡ None
  pub unknown : known ≡ false
  pub stored : Stored
  pub there : r ≡ Some stored
  pub none : stored.count ≡ 0

pub waits-is : (find : Option ℕ) (r : Option Stored) (known : Bool) → waits find r known ≡ true → IsWaiting find r known
waits-is (Some s) None known e = cc
waits-is (Some s) (Some r) known e = cc
waits-is None None known e = cc
waits-is None (Some r) true e = cc
waits-is None (Some r) false e = record { no_entry = refl; unknown = refl; stored = r; there = refl; none = grind (arith, common_steps, e) }

pub waits-not : (find : Option ℕ) (r : Option Stored) (known : Bool) → (IsWaiting find r known → ⊥) → waits find r known ≡ false
waits-not find r known not = go (waits find r known) refl
  where
    go : (b : Bool) → waits find r known ≡ b → waits find r known ≡ false
    go true e = absurd (not (waits-is find r known e))
    go false e = e

pub is-waits : (find : Option ℕ) (r : Option Stored) (known : Bool) → IsWaiting find r known → waits find r known ≡ true
is-waits (Some s) r known w = let e = w.no_entry in cc
is-waits None None known w = let e = w.there in cc
is-waits None (Some r) true w = let e = w.unknown in cc
is-waits None (Some r) false w = let e : Some r ≡ Some w.stored = w.there in let same : r ≡ w.stored = cc in let z : r.count ≡ 0 = ap (λ (x : Stored). x.count) same ∙ w.none in grind (arith, common_steps, z)

pub entered-waits : (find : Option ℕ) (s : ℕ) (r : Option Stored) (known : Bool) → find ≡ Some s → waits find r known ≡ false
entered-waits find s r known e = waits-not find r known (λ w. let none = w.no_entry in cc)
