-- A slot is taken out, and the hole moves up to an empty slot: f and g are names, x and y the values with them.
use Rattle.std.proofs.Common.{◌≡◌, ◌≢◌, ℕ, ◌+◌, ◌-◌, ◌<◌, ◌≤◌, ◌⊎◌, ◌==◌, true, false, cond, refl, sym, ap, ◌∙◌, subst, arith, inl, inr, Some, None, below_more}
use Rattle.std.proofs.Math.Nat.{eq-or-lt_of_le}
use Rattle.std.proofs.lemmas.Bool.Decides.{nat_tests}
use Rattle.probing.specs.Table.{IsTable, used, turned, apart, looked_up, map_of}
use Rattle.probing.specs.Search.{without, Puts, IsClosedUp}
use Rattle.std.specs.FinMap as map
use Rattle.probing.proofs.TableLaws.{turned-below, turned-apart, used-more, equal_or_not, IsTable-same, turned-reaches, empty_slot}
use Rattle.probing.proofs.MapLaws.{looked_up_some, looked_up_none, looked_up-same, removed_map}

without-here : (f : ℕ → ℕ) (hole : ℕ) → without f hole hole ≡ 0
unfolding without
without-here f hole = let e : (hole == hole) ≡ true = grind (arith, nat_tests) in rw e refl

without-other : (f : ℕ → ℕ) (hole i : ℕ) → i ≢ hole → without f hole i ≡ f i
unfolding without
without-other f hole i h = let e : (i == hole) ≡ false = grind (arith, nat_tests) in rw e refl

apart-below : (a b n : ℕ) → a < n → b < n → apart a b n < n
unfolding apart
apart-below a b n h l = grind (arith, nat_tests)

turned-apart_of : (a b n : ℕ) → a < n → b < n → turned a (apart a b n) n ≡ b
unfolding apart turned
turned-apart_of a b n h l = grind (arith, nat_tests)

apart-turned : (a d n : ℕ) → a < n → d < n → apart a (turned a d n) n ≡ d
unfolding apart turned
apart-turned a d n h l = grind (arith, nat_tests)

-- steps that follow one another
turned-turned : (a d e n : ℕ) → a < n → d + e < n → turned (turned a d n) e n ≡ turned a (d + e) n
unfolding turned
turned-turned a d e n h l = grind (arith, nat_tests)

-- a place that differs is some steps on
apart-some : (a b n : ℕ) → a < n → b < n → b ≢ a → 1 ≤ apart a b n
unfolding apart
apart-some a b n h l ne = grind (arith, nat_tests)

-- between two steps of one search
apart-steps : (home d e n : ℕ) → home < n → d < n → e < d → apart (turned home e n) (turned home d n) n ≡ d - e
unfolding apart turned
apart-steps home d e n h l m = grind (arith, nat_tests)

turned-none : (at n : ℕ) → at < n → turned at 0 n ≡ at
unfolding turned
turned-none at n h = grind (arith, nat_tests)

-- a slot whose search doesn't pass the hole stays
near_home : (home d e hole gap n : ℕ) → home < n → d < n → e < d → gap < n → hole < n → turned home e n ≡ hole
    → turned home d n ≡ turned hole gap n → gap ≤ d
unfolding turned
near_home home d e hole gap n h l m g k at end = grind (arith, nat_tests)

-- where the search for the slot passes the hole
passes : (home far hole gap n : ℕ) → home < n → far < n → gap ≤ far → gap < n → hole < n → 1 ≤ gap → turned home far n ≡ turned hole gap n
    → turned home (far - gap) n ≡ hole
unfolding turned
passes home far hole gap n h l m g k low end = grind (arith, nat_tests)

-- v with the slot of j moved into the hole
pub record Moves (v u : ℕ → ℕ) (n hole j : ℕ) : Type 0 where
  pub here : u hole ≡ v j
  pub gone : u j ≡ 0
  pub others : (i : ℕ) → i < n → i ≢ hole → i ≢ j → u i ≡ v i

-- a table with room has an empty slot, so the hole doesn't come round
pub not_all_met : (f : ℕ → ℕ) (n at : ℕ) → at < n → used f n < n → ((e : ℕ) → e < n → f (turned at e n) ≢ 0) → ⊥
not_all_met f n at within room met =
    let r = empty_slot f n room in
    let d = turned-reaches at r.0 n within r.1 in
    met d.0 d.1 (ap f d.2 ∙ r.2)

-- a used slot is counted
pub used_some : (f : ℕ → ℕ) (n at : ℕ) → at < n → f at ≢ 0 → 1 ≤ used f n
used_some f n at within some =
    let more = used-more (without f at) f at (f at) some (without-here f at) n within
    (record { here = refl; others = λ j l h. sym (without-other f at j h) }) in
    omega (arith, more)

-- a table but for what lies behind the hole, from this many steps on
pub record IsNearTable (homes : ℕ → ℕ → ℕ) (v : ℕ → ℕ) (n count hole gap : ℕ) : Type 0 where
  pub count_is : used v n ≡ count
  pub distinct : (i j : ℕ) → i < n → j < n → v i ≢ 0 → v i ≡ v j → i ≡ j
  pub empty : v hole ≡ 0
  pub reached : (name d e : ℕ) → name ≢ 0 → d < n → v (turned (homes name n) d n) ≡ name → e < d
      → (v (turned (homes name n) e n) ≢ 0) ⊎
      ((turned (homes name n) e n ≡ hole) × (gap ≤ apart hole (turned (homes name n) d n) n))

-- what stands while the hole moves: f was there first, g is there now
pub record IsClosing {A : Type 0} (homes : ℕ → ℕ → ℕ) (f g : ℕ → ℕ) (x y : ℕ → A) (n count at hole gap step : ℕ) : Type 0 where
  pub near : IsNearTable homes (without g hole) n (count - 1) hole gap
  pub place_is : turned at (step - gap) n ≡ hole
  pub met : (e : ℕ) → e < step → f (turned at e n) ≢ 0
  pub empties : (i : ℕ) → i < n → f i ≡ 0 → g i ≡ 0
  pub looks : (name : ℕ) → name ≢ 0 → looked_up (without g hole) y n name ≡ cond (name == f at) None (looked_up f x n name)

-- the map has lost the name
pub closed_map : {A : Type 0} {homes : ℕ → ℕ → ℕ} (f g : ℕ → ℕ) (x y : ℕ → A) (n count at : ℕ) → IsClosedUp homes f g x y n count at
    → map_of g y n ≡ map.remove (map_of f x n) (f at)
closed_map f g x y n count at c = removed_map f g x y n (f at) c.removed

-- ---- whatever the homes of names are

module _ {homes : ℕ → ℕ → ℕ} (home-below : (name n : ℕ) → 0 < n → homes name n < n) where
  module _ (f : ℕ → ℕ) (n count at : ℕ) (t : IsTable homes f n count) (within : at < n) (some : f at ≢ 0) where
    -- the first hole
    pub opened : IsNearTable homes (without f at) n (count - 1) at 1
    opened = record {
      count_is =
          let more = used-more (without f at) f at (f at) some (without-here f at) n within
          (record { here = refl; others = λ j l h. sym (without-other f at j h) }) in
          let is = t.count_is in omega (arith, more, is);
      distinct = λ i j l m named same.
          let a : i ≢ at = λ e. named (ap (without f at) e ∙ without-here f at) in
          let b : j ≢ at = λ e. named (same ∙ ap (without f at) e ∙ without-here f at) in
          t.distinct i j l m (λ nought. named (without-other f at i a ∙ nought))
          (sym (without-other f at i a) ∙ same ∙ without-other f at j b);
      empty = without-here f at;
      reached = λ name d e named l is before.
          let home = home-below name n (omega arith) in
          let here : turned (homes name n) d n ≢ at = λ h. named
          (sym is ∙ ap (without f at) h ∙ without-here f at) in
          let there = t.reached name d e named l (sym (without-other f at _ here) ∙ is) before in
          by_place (turned (homes name n) e n) (turned (homes name n) d n) (turned-below (homes name n) d n home l) here there
          (equal_or_not (turned (homes name n) e n) at);
    } where
      by_place : (x y : ℕ) → y < n → y ≢ at → f x ≢ 0 → (x ≡ at) ⊎ (x ≢ at) → (without f at x ≢ 0) ⊎
          ((x ≡ at) × (1 ≤ apart at y n))
      by_place x y l other there (inl is) = inr (is, apart-some at y n within l other)
      by_place x y l other there (inr away) = inl (λ nought. there (sym (without-other f at x away) ∙ nought))

  module _ (v : ℕ → ℕ) (n count hole gap : ℕ) (t : IsNearTable homes v n count hole gap) (within : hole < n) (low : 1 ≤ gap) (high : gap < n)
    where
      -- the search meets an empty slot: nothing behind the hole wants it
      pub closed : v (turned hole gap n) ≡ 0 → IsTable homes v n count
      closed end = record {
        count_is = t.count_is;
        distinct = t.distinct;
        reached = λ name d e named l is before. by_side name d e named l is before (t.reached name d e named l is before);
      } where
        by_later : (name d e : ℕ) → name ≢ 0 → d < n → v (turned (homes name n) d n) ≡ name → e + gap < d
            → turned (homes name n) e n ≡ hole → turned (homes name n) (e + gap) n ≡ turned hole gap n → ⊥
        by_later name d e named l is more at next = elim (t.reached name d (e + gap) named l is more) [
          | inl used ↦ used (ap v next ∙ end)
          | inr p ↦ absurd (let home = home-below name n (omega arith) in
              let zero_gap : e ≡ e + gap = turned-apart (homes name n) e (e + gap) n home (omega arith) (omega arith) (at ∙ sym p.0) in
              omega arith)
        ]

        by_end : (name d e : ℕ) → name ≢ 0 → d < n → v (turned (homes name n) d n) ≡ name → e < d
            → turned (homes name n) e n ≡ hole → gap ≤ d - e → ⊥
        by_end name d e named l is before at far =
            let home = home-below name n (omega arith) in
            let next : turned (homes name n) (e + gap) n ≡ turned hole gap n = sym
            (turned-turned (homes name n) e gap n home (omega arith)) ∙ ap (λ k. turned k gap n) at in
            elim (eq-or-lt_of_le (let w : e + gap ≤ d = omega arith in w)) [
              | inl same ↦ named (sym is ∙ ap (λ k. v (turned (homes name n) k n)) (sym same) ∙ ap v next ∙ end)
              | inr more ↦ by_later name d e named l is more at next
            ]

        by_side : (name d e : ℕ) → name ≢ 0 → d < n → v (turned (homes name n) d n) ≡ name → e < d
            → (v (turned (homes name n) e n) ≢ 0) ⊎
            ((turned (homes name n) e n ≡ hole) × (gap ≤ apart hole (turned (homes name n) d n) n))
            → v (turned (homes name n) e n) ≢ 0
        by_side name d e named l is before (inl used) = used
        by_side name d e named l is before (inr p) =
            let home = home-below name n (omega arith) in
            let steps = ap (λ k. apart k (turned (homes name n) d n) n) (sym p.0) ∙ apart-steps (homes name n) d e n home l before in
            absurd (by_end name d e named l is before p.0 (rw steps at p.1))

  module _ (v : ℕ → ℕ) (n count hole gap : ℕ) (t : IsNearTable homes v n count hole gap) (within : hole < n) (high : gap < n) where
    pub left : apart (homes (v (turned hole gap n)) n) (turned hole gap n) n < gap → IsNearTable homes v n count hole (gap + 1)
    left near = record {
      count_is = t.count_is;
      distinct = t.distinct;
      empty = t.empty;
      reached = λ name d e named l is before. by_side name d e named l is before (t.reached name d e named l is before);
    } where
      same_slot : (name d e : ℕ) → d < n → v (turned (homes name n) d n) ≡ name → e < d → turned (homes name n) e n ≡ hole
          → gap ≡ apart hole (turned (homes name n) d n) n → ⊥
      same_slot name d e l is before at far =
          let home = home-below name n (omega arith) in
          let below = turned-below (homes name n) d n home l in
          let here : turned hole gap n ≡ turned (homes name n) d n = ap (λ k. turned hole k n) far ∙ turned-apart_of hole
          (turned (homes name n) d n) n within below in
          let is' : v (turned hole gap n) ≡ name = ap v here ∙ is in
          let steps : apart (homes (v (turned hole gap n)) n) (turned hole gap n) n ≡ d = ap
          (λ m. apart (homes m n) (turned hole gap n) n) is' ∙ ap (λ k. apart (homes name n) k n) here
          ∙ apart-turned (homes name n) d n home l in
          let wide : gap ≤ d = near_home (homes name n) d e hole gap n home l before high within at (sym here) in
          let short : d < gap = rw steps at near in
          omega arith

      by_side : (name d e : ℕ) → name ≢ 0 → d < n → v (turned (homes name n) d n) ≡ name → e < d
          → (v (turned (homes name n) e n) ≢ 0) ⊎
          ((turned (homes name n) e n ≡ hole) × (gap ≤ apart hole (turned (homes name n) d n) n))
          → (v (turned (homes name n) e n) ≢ 0) ⊎
          ((turned (homes name n) e n ≡ hole) × (gap + 1 ≤ apart hole (turned (homes name n) d n) n))
      by_side name d e named l is before (inl used) = inl used
      by_side name d e named l is before (inr p) = elim (eq-or-lt_of_le p.1) [
        | inl same ↦ absurd (same_slot name d e l is before p.0 same)
        | inr more ↦ inr (p.0, let w : gap + 1 ≤ apart hole (turned (homes name n) d n) n = omega (arith, more) in w)
      ]

  module _ (v u : ℕ → ℕ) (n count hole gap : ℕ) (t : IsNearTable homes v n count hole gap) (within : hole < n) (low : 1 ≤ gap) (high : gap < n)
      (some : v (turned hole gap n) ≢ 0) (moves : Moves v u n hole (turned hole gap n)) where
    abbrev j : ℕ
    j = turned hole gap n

    j_below : j < n
    j_below = turned-below hole gap n within high

    j_other : j ≢ hole
    j_other same = some (ap v same ∙ t.empty)

    -- with the slot of j taken out, both are the same
    middle : (i : ℕ) → i < n → i ≢ hole → without v j i ≡ u i
    middle i l other = by_place (equal_or_not i j) where
      by_place : (i ≡ j) ⊎ (i ≢ j) → without v j i ≡ u i
      by_place (inl is) = ap (without v j) is ∙ without-here v j ∙ sym moves.gone ∙ ap u (sym is)
      by_place (inr away) = without-other v j i away ∙ sym (moves.others i l other away)

    moved_used : used u n ≡ used v n
    moved_used =
        let a = used-more (without v j) v j (v j) some (without-here v j) n j_below
        (record { here = refl; others = λ i l h. sym (without-other v j i h) }) in
        let b = used-more (without v j) u hole (v j) some (without-other v j hole (λ e. j_other (sym e)) ∙ t.empty) n within
        (record { here = moves.here; others = λ i l h. sym (middle i l h) }) in
        omega (arith, a, b)

    -- where a used slot came from
    came : (i : ℕ) → i < n → u i ≢ 0 → (k : ℕ) × (k < n) × (u i ≡ v k) × ((i ≡ hole) × (k ≡ j) ⊎ (i ≢ hole) × (i ≢ j) × (k ≡ i))
    came i l named = by_place (equal_or_not i hole) (equal_or_not i j) where
      by_place : (i ≡ hole) ⊎ (i ≢ hole) → (i ≡ j) ⊎ (i ≢ j)
          → (k : ℕ) × (k < n) × (u i ≡ v k) × ((i ≡ hole) × (k ≡ j) ⊎ (i ≢ hole) × (i ≢ j) × (k ≡ i))
      by_place (inl a) b = (j, j_below, ap u a ∙ moves.here, inl (a, refl))
      by_place (inr a) (inl b) = absurd (named (ap u b ∙ moves.gone))
      by_place (inr a) (inr b) = (i, l, moves.others i l a b, inr (a, b, refl))

    pub moved_distinct : (i k : ℕ) → i < n → k < n → u i ≢ 0 → u i ≡ u k → i ≡ k
    moved_distinct i k l m named same =
        let a = came i l named in
        let b = came k m (λ nought. named (same ∙ nought)) in
        let one : a.0 ≡ b.0 = t.distinct a.0 b.0 a.1 b.1 (λ nought. named (a.2 ∙ nought)) (sym a.2 ∙ same ∙ b.2) in
        by_sides a.3 b.3 one where
          by_sides : {x y : ℕ} → ((i ≡ hole) × (x ≡ j) ⊎ (i ≢ hole) × (i ≢ j) × (x ≡ i))
              → ((k ≡ hole) × (y ≡ j) ⊎ (k ≢ hole) × (k ≢ j) × (y ≡ k)) → x ≡ y → i ≡ k
          by_sides (inl a) (inl b) e = a.0 ∙ sym b.0
          by_sides (inl a) (inr b) e = absurd (b.1 (sym b.2 ∙ sym e ∙ a.1))
          by_sides (inr a) (inl b) e = absurd (a.1 (sym a.2 ∙ e ∙ b.1))
          by_sides (inr a) (inr b) e = sym a.2 ∙ e ∙ b.2

    -- a place that v uses, u uses too, but for the new hole
    still_used : (x y : ℕ) → x < n → y < n → y ≢ j → (v x ≢ 0) ⊎ (x ≡ hole) → (u x ≢ 0) ⊎ ((x ≡ j) × (1 ≤ apart j y n))
    still_used x y l m other was = by_place (equal_or_not x j) (equal_or_not x hole) was where
      by_place : (x ≡ j) ⊎ (x ≢ j) → (x ≡ hole) ⊎ (x ≢ hole) → (v x ≢ 0) ⊎ (x ≡ hole)
          → (u x ≢ 0) ⊎ ((x ≡ j) × (1 ≤ apart j y n))
      by_place (inl a) b w = inr (a, apart-some j y n j_below m other)
      by_place (inr a) (inl b) w = inl (λ nought. some (sym (ap u b ∙ moves.here) ∙ nought))
      by_place (inr a) (inr b) (inl named) = inl (λ nought. named (sym (moves.others x l b a) ∙ nought))
      by_place (inr a) (inr b) (inr c) = absurd (b c)

    pub moved : gap ≤ apart (homes (v j) n) j n → IsNearTable homes u n count j 1
    moved far = record {
      count_is = moved_used ∙ t.count_is;
      distinct = moved_distinct;
      empty = moves.gone;
      reached = λ name d e named l is before.
          let home = home-below name n (omega arith) in
          let y = turned-below (homes name n) d n home l in
          let x = turned-below (homes name n) e n home (omega arith) in
          let other : turned (homes name n) d n ≢ j = λ h. named (sym is ∙ ap u h ∙ moves.gone) in
          still_used (turned (homes name n) e n) (turned (homes name n) d n) x y other
          (was name d e named l is before (equal_or_not (turned (homes name n) d n) hole));
    } where
      was : (name d e : ℕ) → name ≢ 0 → d < n → u (turned (homes name n) d n) ≡ name → e < d
          → (turned (homes name n) d n ≡ hole) ⊎ (turned (homes name n) d n ≢ hole) → (v (turned (homes name n) e n) ≢ 0) ⊎
          (turned (homes name n) e n ≡ hole)
      was name d e named l is before (inr other) =
          let home = home-below name n (omega arith) in
          let y = turned-below (homes name n) d n home l in
          let away : turned (homes name n) d n ≢ j = λ h. named (sym is ∙ ap u h ∙ moves.gone) in
          elim (t.reached name d e named l (sym (moves.others _ y other away) ∙ is) before) [
            | inl used ↦ inl used
            | inr p ↦ inr p.0
          ]
      was name d e named l is before (inl at) =
          let home = home-below name n (omega arith) in
          let same : v j ≡ name = sym (ap u at ∙ moves.here) ∙ is in
          let far' : gap ≤ apart (homes name n) j n = rw same at far in
          let wide : apart (homes name n) j n < n = apart-below (homes name n) j n home j_below in
          let end : turned (homes name n) (apart (homes name n) j n) n ≡ j = turned-apart_of (homes name n) j n home j_below in
          let back : turned (homes name n) (apart (homes name n) j n - gap) n ≡ hole = passes (homes name n)
          (apart (homes name n) j n) hole gap n home wide far' high within low end in
          let d_is : d ≡ apart (homes name n) j n - gap = turned-apart (homes name n) d (apart (homes name n) j n - gap) n home l
          (omega arith) (at ∙ sym back) in
          elim (t.reached name (apart (homes name n) j n) e named wide (ap v end ∙ same) (omega arith)) [
            | inl used ↦ inl used
            | inr p ↦ inr p.0
          ]

    -- each name is looked up as before, where its value moves with it
    pub moved_looked_up : {A : Type 0} (x y : ℕ → A) → Puts x y n hole (x j) → (name : ℕ) → name ≢ 0
        → looked_up u y n name ≡ looked_up v x n name
    moved_looked_up x y q name named = by_name (equal_or_not (v j) name) where
      by_name : (v j ≡ name) ⊎ (v j ≢ name) → looked_up u y n name ≡ looked_up v x n name
      by_name (inl is) =
          looked_up_some u y n name hole within (moves.here ∙ is)
          (λ i l e. moved_distinct i hole l within (λ nought. named (sym e ∙ nought)) (e ∙ sym is ∙ sym moves.here))
          ∙ ap Some q.here
          ∙ sym (looked_up_some v x n name j j_below is (λ i l e. t.distinct i j l j_below (λ nought. named (sym e ∙ nought)) (e ∙ sym is)))
      by_name (inr other) = looked_up-same v u x y n name (λ i l. by_place i l (equal_or_not i hole) (equal_or_not i j)) where
        by_place : (i : ℕ) → i < n → (i ≡ hole) ⊎ (i ≢ hole) → (i ≡ j) ⊎ (i ≢ j)
            → ((u i ≡ v i) × (y i ≡ x i)) ⊎ ((u i ≢ name) × (v i ≢ name))
        by_place i l (inl a) b = inr ((λ e. other (sym (ap u a ∙ moves.here) ∙ e)), (λ e. named (sym e ∙ ap v a ∙ t.empty)))
        by_place i l (inr a) (inl b) = inr ((λ e. named (sym e ∙ ap u b ∙ moves.gone)), (λ e. other (ap v (sym b) ∙ e)))
        by_place i l (inr a) (inr b) = inl (moves.others i l a b, q.others i l a)

  pub closing_start : {A : Type 0} (f : ℕ → ℕ) (x : ℕ → A) (n count at : ℕ) → IsTable homes f n count → at < n → f at ≢ 0
      → IsClosing homes f f x x n count at at 1 1
  closing_start f x n count at t within some = record {
    near = opened f n count at t within some;
    place_is = turned-none at n within;
    met = λ e l nought. some (ap f
        (sym (ap (λ m. turned at m n) (let z : e ≡ 0 = omega arith in z) ∙ turned-none at n within)) ∙ nought);
    empties = λ i l nought. nought;
    looks = λ name named. by_name name named (equal_or_not name (f at));
  } where
    by_name : (name : ℕ) → name ≢ 0 → (name ≡ f at) ⊎ (name ≢ f at) → looked_up (without f at) x n name
        ≡ cond (name == f at) None (looked_up f x n name)
    by_name name named (inl is) =
        let test : (name == f at) ≡ true = grind (arith, nat_tests) in
        rw test (looked_up_none (without f at) x n name (λ i l e. by_place name named is i l e (equal_or_not i at))) where
          by_place : (name : ℕ) → name ≢ 0 → name ≡ f at → (i : ℕ) → i < n → without f at i ≡ name → (i ≡ at) ⊎ (i ≢ at) → ⊥
          by_place name named is i l e (inl a) = named (sym e ∙ ap (without f at) a ∙ without-here f at)
          by_place name named is i l e (inr a) =
              let here : f i ≡ name = sym (without-other f at i a) ∙ e in
              a (t.distinct i at l within (λ nought. named (sym here ∙ nought)) (here ∙ is))
    by_name name named (inr other) =
        let test : (name == f at) ≡ false = grind (arith, nat_tests) in
        rw test (looked_up-same f (without f at) x x n name (λ i l. by_place name named other i l (equal_or_not i at))) where
          by_place : (name : ℕ) → name ≢ 0 → name ≢ f at → (i : ℕ) → i < n → (i ≡ at) ⊎ (i ≢ at)
              → ((without f at i ≡ f i) × (x i ≡ x i)) ⊎ ((without f at i ≢ name) × (f i ≢ name))
          by_place name named other i l (inl a) = inr (
            (λ e. named (sym e ∙ ap (without f at) a ∙ without-here f at)),
            (λ e. other (sym e ∙ ap f a)),
          )
          by_place name named other i l (inr a) = inl (without-other f at i a, refl)

  module _ {A : Type 0} (f g : ℕ → ℕ) (x y : ℕ → A) (n count at hole gap step : ℕ) (c : IsClosing homes f g x y n count at hole gap step)
      (start : at < n) (within : hole < n) (low : 1 ≤ gap) (high : gap ≤ step) (room : step < n) where
    -- the place that is looked at next
    next_is : turned hole gap n ≡ turned at step n
    next_is = ap (λ k. turned k gap n) (sym c.place_is) ∙ turned-turned at (step - gap) gap n start (omega arith) ∙ ap (λ m. turned at m n)
        (let e : step - gap + gap ≡ step = omega arith in e)

    next_below : turned hole gap n < n
    next_below = turned-below hole gap n within (omega arith)

    next_other : turned hole gap n ≢ hole
    next_other same =
        let e : gap ≡ 0 = turned-apart hole gap 0 n within (omega arith) (omega arith) (same ∙ sym (turned-none hole n within)) in
        omega arith

    slot_is : without g hole (turned hole gap n) ≡ g (turned hole gap n)
    slot_is = without-other g hole (turned hole gap n) next_other

    met_more : g (turned hole gap n) ≢ 0 → (e : ℕ) → e < step + 1 → f (turned at e n) ≢ 0
    met_more some = below_more (λ e. f (turned at e n) ≢ 0) step c.met
        (λ nought. some (c.empties (turned hole gap n) next_below (ap f next_is ∙ nought)))

    pub closing_left : g (turned hole gap n) ≢ 0 → apart (homes (g (turned hole gap n)) n) (turned hole gap n) n < gap
        → IsClosing homes f g x y n count at hole (gap + 1) (step + 1)
    closing_left some near = record {
      near = left (without g hole) n (count - 1) hole gap c.near within (omega arith) (rw slot_is near);
      place_is = ap (λ m. turned at m n) (let e : step + 1 - (gap + 1) ≡ step - gap = omega arith in e) ∙ c.place_is;
      met = met_more some;
      empties = c.empties;
      looks = c.looks;
    }

    module _ (u : ℕ → ℕ) (z : ℕ → A) (some : g (turned hole gap n) ≢ 0) (p : Puts g u n hole (g (turned hole gap n)))
        (q : Puts y z n hole (y (turned hole gap n))) where
      moves : Moves (without g hole) (without u (turned hole gap n)) n hole (turned hole gap n)
      moves = record {
        here = without-other u (turned hole gap n) hole (λ e. next_other (sym e)) ∙ p.here ∙ sym slot_is;
        gone = without-here u (turned hole gap n);
        others = λ i l a b. without-other u (turned hole gap n) i b ∙ p.others i l a ∙ sym (without-other g hole i a);
      }

      pub closing_moved : gap ≤ apart (homes (g (turned hole gap n)) n) (turned hole gap n) n
          → IsClosing homes f u x z n count at (turned hole gap n) 1 (step + 1)
      closing_moved far =
          let some' : without g hole (turned hole gap n) ≢ 0 = λ nought. some (sym slot_is ∙ nought) in
          record {
            near = moved (without g hole) (without u (turned hole gap n)) n (count - 1) hole gap c.near within low (omega arith) some' moves
                (rw slot_is far);
            place_is = ap (λ m. turned at m n) (let e : step + 1 - 1 ≡ step = omega arith in e) ∙ sym next_is;
            met = met_more some;
            empties = λ i l nought. by_place i l nought (equal_or_not i hole);
            looks = λ name named. moved_looked_up (without g hole) (without u (turned hole gap n)) n (count - 1) hole gap c.near within low
                (omega arith) some' moves y z q name named ∙ c.looks name named;
          } where
            by_place : (i : ℕ) → i < n → f i ≡ 0 → (i ≡ hole) ⊎ (i ≢ hole) → u i ≡ 0
            by_place i l nought (inl is) = absurd (c.met (step - gap) (omega arith) (ap f (c.place_is ∙ sym is) ∙ nought))
            by_place i l nought (inr away) = p.others i l away ∙ c.empties i l nought

    module _ (u : ℕ → ℕ) (z : ℕ → A) (value : A) (end : g (turned hole gap n) ≡ 0) (p : Puts g u n hole 0) (q : Puts y z n hole value) where
      same : (i : ℕ) → i < n → u i ≡ without g hole i
      same i l = by_place (equal_or_not i hole) where
        by_place : (i ≡ hole) ⊎ (i ≢ hole) → u i ≡ without g hole i
        by_place (inl is) = ap u is ∙ p.here ∙ sym (ap (without g hole) is ∙ without-here g hole)
        by_place (inr away) = p.others i l away ∙ sym (without-other g hole i away)

      same_looked_up : (name : ℕ) → name ≢ 0 → looked_up u z n name ≡ looked_up (without g hole) y n name
      same_looked_up name named = looked_up-same (without g hole) u y z n name (λ i l. by_place i l (equal_or_not i hole)) where
        by_place : (i : ℕ) → i < n → (i ≡ hole) ⊎ (i ≢ hole)
            → ((u i ≡ without g hole i) × (z i ≡ y i)) ⊎ ((u i ≢ name) × (without g hole i ≢ name))
        by_place i l (inl is) =
            let none : without g hole i ≡ 0 = ap (without g hole) is ∙ without-here g hole in
            inr ((λ e. named (sym e ∙ same i l ∙ none)), (λ e. named (sym e ∙ none)))
        by_place i l (inr away) = inl (same i l, q.others i l away)

      pub closing_end : IsClosedUp homes f u x z n count at
      closing_end = record {
        table = IsTable-same home-below (without g hole) u n (count - 1) same
            (closed (without g hole) n (count - 1) hole gap c.near within low (omega arith) (slot_is ∙ end));
        removed = λ name named. same_looked_up name named ∙ c.looks name named;
        empties = λ i l nought. by_place i l nought (equal_or_not i hole);
      } where
        by_place : (i : ℕ) → i < n → f i ≡ 0 → (i ≡ hole) ⊎ (i ≢ hole) → u i ≡ 0
        by_place i l nought (inl is) = ap u is ∙ p.here
        by_place i l nought (inr away) = p.others i l away ∙ c.empties i l nought

  -- the same by the values that the code has: a name and a value that were read at a place
  module _ {A : Type 0} (f g : ℕ → ℕ) (x y : ℕ → A) (n count at hole gap step place d name : ℕ)
      (c : IsClosing homes f g x y n count at hole gap step) (start : at < n) (within : hole < n) (low : 1 ≤ gap) (high : gap ≤ step)
      (room : step < n) (place_is : place ≡ turned hole gap n) (name_is : name ≡ g place) where
    here : name ≡ g (turned hole gap n)
    here = name_is ∙ ap g place_is

    used_here : name ≢ 0 → g (turned hole gap n) ≢ 0
    used_here some nought = some (here ∙ nought)

    far_is : d ≡ apart (homes name n) place n → d ≡ apart (homes (g (turned hole gap n)) n) (turned hole gap n) n
    far_is is = is ∙ ap (λ m. apart (homes m n) place n) here ∙ ap (λ k. apart (homes (g (turned hole gap n)) n) k n) place_is

    pub step_left : name ≢ 0 → d ≡ apart (homes name n) place n → d < gap → IsClosing homes f g x y n count at hole (gap + 1) (step + 1)
    step_left some is near =
        closing_left f g x y n count at hole gap step c start within low high room (used_here some) (rw (← far_is is) near)

    pub step_moved : (u : ℕ → ℕ) (z : ℕ → A) → name ≢ 0 → d ≡ apart (homes name n) place n → gap ≤ d → Puts g u n hole name
        → Puts y z n hole (y place) → IsClosing homes f u x z n count at place 1 (step + 1)
    step_moved u z some is far p q =
        let moved = closing_moved f g x y n count at hole gap step c start within low high room u z (used_here some)
        (subst (λ m. Puts g u n hole m) here p) (subst (λ k. Puts y z n hole (y k)) place_is q) (rw (← far_is is) far) in
        subst (λ k. IsClosing homes f u x z n count at k 1 (step + 1)) (sym place_is) moved

    pub step_end : (u : ℕ → ℕ) (z : ℕ → A) (value : A) → name ≡ 0 → Puts g u n hole 0 → Puts y z n hole value
        → IsClosedUp homes f u x z n count at
    step_end u z value end p q =
        closing_end f g x y n count at hole gap step c start within low high room u z value (sym here ∙ end) p q
