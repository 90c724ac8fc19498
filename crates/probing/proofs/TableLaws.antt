-- Laws of tables and of searches in them.
use Rattle.std.proofs.Common.{◌≡◌, ◌≢◌, ℕ, zero, suc, ◌+◌, ◌-◌, ◌<◌, ◌≤◌, ◌⊎◌, ◌==◌, Bool, true, false, cond, refl, sym, ap, ◌∙◌, arith, inl, inr, below_more}
use Rattle.std.proofs.Math.Nat.{eq-or-lt_of_le}
use Rattle.std.proofs.lemmas.Bool.Decides.{nat_tests}
use Rattle.probing.specs.Table.{IsTable, used, turned}
use Rattle.probing.specs.Search.{IsVacancy, IsPassed, Puts}

pub below_or_past : (k m : ℕ) → (k < m) ⊎ (m ≤ k)
below_or_past k m = grind arith

-- a turn stays below n
pub turned-below : (home d n : ℕ) → home < n → d < n → turned home d n < n
unfolding turned
turned-below home d n h l = grind (arith, nat_tests)

-- each index is some steps on
pub turned-reaches : (home i n : ℕ) → home < n → i < n → (d : ℕ) × (d < n) × (turned home d n ≡ i)
unfolding turned
turned-reaches home i n h l = by_side (below_or_past i home) where
  by_side : (i < home) ⊎ (home ≤ i) → (d : ℕ) × (d < n) × (turned home d n ≡ i)
  by_side (inl low) = (i + n - home, omega arith, grind (arith, nat_tests))
  by_side (inr high) = (i - home, omega arith, grind (arith, nat_tests))

-- no two counts of steps meet
pub turned-apart : (home d e n : ℕ) → home < n → d < n → e < n → turned home d n ≡ turned home e n → d ≡ e
unfolding turned
turned-apart home d e n h l m same = grind (arith, nat_tests)

pub used-suc : (f : ℕ → ℕ) (n : ℕ) (b : Bool) → (f n == 0) ≡ b → used f (suc n) ≡ used f n + cond b 0 1
unfolding used
used-suc f n b e = rw e refl

pub used-zero : (f : ℕ → ℕ) → used f zero ≡ 0
unfolding used
used-zero f = refl

-- a slot is empty, where not all are used
pub empty_slot : (f : ℕ → ℕ) (n : ℕ) → used f n < n → (i : ℕ) × (i < n) × (f i ≡ 0)
empty_slot f zero h = absurd (omega arith)
empty_slot f (suc n) h = by_name (f n == 0) refl (λ l. empty_slot f n l) where
  by_name : (b : Bool) → (f n == 0) ≡ b → (used f n < n → (i : ℕ) × (i < n) × (f i ≡ 0))
      → (i : ℕ) × (i < suc n) × (f i ≡ 0)
  by_name true e rest = (n, omega arith, grind (arith, nat_tests))
  by_name false e rest =
      let count = used-suc f n false e in
      let r = rest (omega arith) in (r.0, omega arith, r.2)

pub not_named : (a b : ℕ) → (a == b) ≡ false → a ≢ b
not_named a b e = grind (arith, nat_tests)

-- ---- a slot that is put
pub used-same : (f g : ℕ → ℕ) (n : ℕ) → ((j : ℕ) → j < n → g j ≡ f j) → used g n ≡ used f n
unfolding used
used-same f g zero h = refl
used-same f g (suc n) h = rw (used-same f g n (λ j l. h j (omega arith)), h n (omega arith)) refl

pub equal_or_not : (a b : ℕ) → (a ≡ b) ⊎ (a ≢ b)
equal_or_not a b = grind arith

module _ (f g : ℕ → ℕ) (at key : ℕ) (some : key ≢ 0) (empty : f at ≡ 0) where
  pub used-more : (n : ℕ) → at < n → Puts f g n at key → used g n ≡ used f n + 1
  used-more zero l p = absurd (omega arith)
  used-more (suc n) l p = by_place (equal_or_not n at)
      (λ m. used-more n m (record { here = p.here; others = λ j k. p.others j (omega arith) })) where
        by_place : (n ≡ at) ⊎ (n ≢ at) → (at < n → used g n ≡ used f n + 1) → used g (suc n) ≡ used f (suc n) + 1
        by_place (inl is) rest =
            let x : (g n == 0) ≡ false = rw (is, p.here) (grind (arith, nat_tests)) in
            let y : (f n == 0) ≡ true = rw is (grind (arith, nat_tests)) in
            let a = used-suc g n false x in
            let b = used-suc f n true y in
            let c = used-same f g n (λ j k. p.others j (omega arith) (omega arith)) in
            omega (arith, a, b, c)
        by_place (inr other) rest =
            let same = p.others n (omega arith) other in
            let a = used-suc g n (f n == 0) (rw same refl) in
            let b = used-suc f n (f n == 0) refl in
            let c = rest (omega arith) in
            omega (arith, a, b, c)

-- what is put there, seen by a part of it
pub puts-part : {A B : Type 0} (part : A → B) (f g : ℕ → A) (n at : ℕ) (put : A) → Puts f g n at put
    → Puts (λ i. part (f i)) (λ i. part (g i)) n at (part put)
puts-part part f g n at put p = record { here = ap part p.here; others = λ i l away. ap part (p.others i l away) }

-- ---- tables, whatever the homes of names are

module _ {homes : ℕ → ℕ → ℕ} (home-below : (name n : ℕ) → 0 < n → homes name n < n) where
  pub passed_none : (f : ℕ → ℕ) (n name : ℕ) → IsPassed homes f n name 0
  passed_none f n name = record { used = λ e l. absurd (omega arith); others = λ e l. absurd (omega arith) }

  pub passed_more : (f : ℕ → ℕ) (n name k : ℕ) → IsPassed homes f n name k → f (turned (homes name n) k n) ≢ 0
      → f (turned (homes name n) k n) ≢ name → IsPassed homes f n name (k + 1)
  passed_more f n name k p u o = record {
    used = below_more (λ e. f (turned (homes name n) e n) ≢ 0) k p.used u;
    others = below_more (λ e. f (turned (homes name n) e n) ≢ name) k p.others o;
  }

  -- a search through a table with room meets an empty slot
  pub not_all_passed : (f : ℕ → ℕ) (n name : ℕ) → used f n < n → IsPassed homes f n name n → ⊥
  not_all_passed f n name room p =
      let r = empty_slot f n room in
      let home = home-below name n (omega arith) in
      let d = turned-reaches (homes name n) r.0 n home r.1 in
      p.used d.0 d.1 (ap f d.2 ∙ r.2)

  -- a name whose search meets an empty slot isn't there
  pub absent : (f : ℕ → ℕ) (n count name at : ℕ) → IsTable homes f n count → name ≢ 0 → IsVacancy homes f n name at → (i : ℕ) → i < n
      → f i ≢ name
  absent f n count name at t some v i l is = elim (below_or_past d.0 v.steps) [
    | inl low ↦ v.passed.others d.0 low (ap f d.2 ∙ is)
    | inr high ↦ by_equal (eq-or-lt_of_le high)
  ] where
    home : homes name n < n
    home = home-below name n (omega arith)

    d : (d : ℕ) × (d < n) × (turned (homes name n) d n ≡ i)
    d = turned-reaches (homes name n) i n home l

    by_equal : (v.steps ≡ d.0) ⊎ (v.steps < d.0) → ⊥
    by_equal (inl same) = some (sym is ∙ ap f (sym d.2 ∙ ap (λ k. turned (homes name n) k n) (sym same) ∙ v.place_is)
        ∙ v.empty)
    by_equal (inr after) = t.reached name d.0 v.steps some d.1 (ap f d.2 ∙ is) after
        (ap f v.place_is ∙ v.empty)

  module _ (f g : ℕ → ℕ) (n count at key : ℕ) (t : IsTable homes f n count) (some : key ≢ 0) (within : at < n)
      (v : IsVacancy homes f n key at) (p : Puts f g n at key) where
    put_distinct : (i j : ℕ) → i < n → j < n → g i ≢ 0 → g i ≡ g j → i ≡ j
    put_distinct i j l m named same = by_place (equal_or_not i at) (equal_or_not j at) where
      by_place : (i ≡ at) ⊎ (i ≢ at) → (j ≡ at) ⊎ (j ≢ at) → i ≡ j
      by_place (inl a) (inl b) = a ∙ sym b
      by_place (inl a) (inr b) = absurd
          (absent f n count key at t some v j m (sym (p.others j m b) ∙ sym same ∙ ap g a
          ∙ p.here))
      by_place (inr a) (inl b) = absurd
          (absent f n count key at t some v i l (sym (p.others i l a) ∙ same ∙ ap g b
          ∙ p.here))
      by_place (inr a) (inr b) = t.distinct i j l m (λ nought. named (p.others i l a ∙ nought))
          (sym (p.others i l a) ∙ same ∙ p.others j m b)

    put_reached : (name d e : ℕ) → name ≢ 0 → d < n → g (turned (homes name n) d n) ≡ name → e < d
        → g (turned (homes name n) e n) ≢ 0
    put_reached name d e named l is before = by_place (equal_or_not (turned (homes name n) d n) at)
        (equal_or_not (turned (homes name n) e n) at) where
          home : homes name n < n
          home = home-below name n (omega arith)

          below_d : turned (homes name n) d n < n
          below_d = turned-below (homes name n) d n home l

          below_e : turned (homes name n) e n < n
          below_e = turned-below (homes name n) e n home (omega arith)

          by_place : (turned (homes name n) d n ≡ at) ⊎ (turned (homes name n) d n ≢ at) → (turned (homes name n) e n ≡ at) ⊎
              (turned (homes name n) e n ≢ at) → g (turned (homes name n) e n) ≢ 0
          by_place a (inl b) = λ nought. some (sym p.here ∙ ap g (sym b) ∙ nought)
          by_place (inr a) (inr b) = λ nought. t.reached name d e named l (sym (p.others _ below_d a) ∙ is) before
              (sym (p.others _ below_e b) ∙ nought)
          by_place (inl a) (inr b) = λ nought.
              let same : name ≡ key = sym is ∙ ap g a ∙ p.here in
              let steps : d ≡ v.steps = turned-apart (homes name n) d v.steps n home l v.within
              (a ∙ sym v.place_is ∙ ap (λ m. turned (homes m n) v.steps n) (sym same)) in
              v.passed.used e (omega arith) (ap (λ m. f (turned (homes m n) e n)) (sym same) ∙ (sym (p.others _ below_e b)) ∙ nought)

    -- the table with one more slot used
    pub put_table : IsTable homes g n (count + 1)
    put_table = record {
      count_is = used-more f g at key some v.empty n within p ∙ ap (λ k. k + 1) t.count_is;
      distinct = put_distinct;
      reached = put_reached;
    }

  -- ---- a slot that is set anew

  -- a table is a matter of its first n slots
  pub IsTable-same : (f g : ℕ → ℕ) (n count : ℕ) → ((j : ℕ) → j < n → g j ≡ f j) → IsTable homes f n count → IsTable homes g n count
  IsTable-same f g n count same t = record {
    count_is = used-same f g n same ∙ t.count_is;
    distinct = λ i j l m some e. t.distinct i j l m (λ nought. some (same i l ∙ nought)) (sym (same i l) ∙ e ∙ same j m);
    reached = λ name d e some l is before.
        let home = home-below name n (omega arith) in
        let x = turned-below (homes name n) d n home l in
        let y = turned-below (homes name n) e n home (omega arith) in
        λ nought. t.reached name d e some l (sym (same _ x) ∙ is) before (sym (same _ y) ∙ nought);
  }

  -- the name that stood there
  pub set_table : (f g : ℕ → ℕ) (n count at key : ℕ) → IsTable homes f n count → f at ≡ key → Puts f g n at key → IsTable homes g n count
  set_table f g n count at key t was p = IsTable-same f g n count (λ j l. by_place j l (equal_or_not j at)) t where
    by_place : (j : ℕ) → j < n → (j ≡ at) ⊎ (j ≢ at) → g j ≡ f j
    by_place j l (inl is) = ap g is ∙ p.here ∙ sym was ∙ ap f (sym is)
    by_place j l (inr away) = p.others j l away

-- ---- no slot is used

pub empty_table : {homes : ℕ → ℕ → ℕ} (f : ℕ → ℕ) (n : ℕ) → ((i : ℕ) → f i ≡ 0) → IsTable homes f n 0
empty_table f n empty = record {
  count_is = none n;
  distinct = λ i j l m named same. absurd (named (empty i));
  reached = λ name d e named l is before. absurd (named (sym is ∙ empty _));
} where
  none : (m : ℕ) → used f m ≡ 0
  none zero = used-zero f
  none (suc m) = used-suc f m true (rw (empty m) (grind (arith, nat_tests))) ∙ omega (arith, none m)
