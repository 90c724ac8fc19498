-- What stands in a row after a call, and what is found then.
-- What is found is a function of the rows. A put is one law over functions from places to rows (`row_put`), and the pair that
-- may be lost is the one that stood there by right.
use Rattle.std.proofs.Common.{◌≡◌, ◌≢◌, ℕ, ◌<◌, ◌==◌, ◌&&◌, ◌⊎◌, inl, inr, cond, Bool, true, false, List, replicate, length, get_or, set, Option, Some, None, refl, sym, ◌∙◌, ap}
use Rattle.std.specs.Prelude.{unwrap_or}
use Rattle.std.specs.List.{slice_get}
use Rattle.std.proofs.lemmas.Bool.{eq-eqb, eqb-true, eqb-false}
use Rattle.std.proofs.lemmas.Option.{unwrap_or-slice_get}
use Rattle.std.proofs.lemmas.List.{get_or-replicate, get_or-set_same, get_or-set_other}
use Rattle.method_cache.specs.declared.cache.Row.{Row}
use Rattle.method_cache.specs.Found.{place_of, is_of, method_in, IsPut}

-- ---- tests of pairs

pub and_true : (a b : Bool) → (a && b) ≡ true → (a ≡ true) × (b ≡ true)
and_true true true e = (refl, refl)
and_true true false e = let never : ◌≡◌ {A = Bool} false true = e in absurd (cc)
and_true false b e = let never : ◌≡◌ {A = Bool} false true = e in absurd (cc)

pub both_same : (a b p q : ℕ) → a ≡ b → p ≡ q → ((a == b) && (p == q)) ≡ true
both_same a b p q e f = ap (λ x. x && (p == q)) (eq-eqb a b e) ∙ eq-eqb p q f

is_pair : (row : Row) (c s : ℕ) → is_of row c s ≡ true → (row.class ≡ c) × (row.selector ≡ s)
is_pair row c s e = let both = and_true (row.class == c) (row.selector == s) e in (eqb-true row.class c both.0, eqb-true row.selector s both.1)

of_itself : (row : Row) → is_of row row.class row.selector ≡ true
of_itself row = both_same row.class row.class row.selector row.selector refl refl

other_pair : (row : Row) (c s : ℕ) → ((c ≡ row.class) × (s ≡ row.selector) → ⊥) → is_of row c s ≡ false
other_pair row c s other = go (is_of row c s) refl
  where
    go : (b : Bool) → is_of row c s ≡ b → is_of row c s ≡ false
    go false e = e
    go true e = let pair = is_pair row c s e in absurd (other (sym pair.0, sym pair.1))

-- ---- rows, as a function from places to rows

abbrev finds : (ℕ → Option Row) → ℕ → ℕ → Option ℕ
finds f c s = method_in (f (place_of c s)) c s

missed : (row : Row) (c s : ℕ) → is_of row c s ≡ false → method_in (Some row) c s ≡ None
missed row c s e = ap (λ b. cond b (Some row.method) None) e

abbrev chosen : Bool → ℕ × ℕ → ℕ × ℕ → ℕ × ℕ
chosen true p q = p
chosen false p q = q

-- the pair that had the row, if it had it by right, or else the new one
abbrev lost_in : Option Row → ℕ → ℕ → ℕ × ℕ
lost_in None class selector = (class, selector)
lost_in (Some r) class selector = chosen (place_of r.class r.selector == place_of class selector) (r.class, r.selector) (class, selector)

module _ (f g : ℕ → Option Row) (row : Row) (here : g (place_of row.class row.selector) ≡ Some row) (apart : (j : ℕ) → j ≢ place_of row.class row.selector → g j ≡ f j) where
  -- what is found in the row now
  in_row : (c s : ℕ) → place_of c s ≡ place_of row.class row.selector → finds g c s ≡ method_in (Some row) c s
  in_row c s same = ap (λ (x : Option Row). method_in x c s) (ap g same ∙ here)

  gone : (c s : ℕ) → place_of c s ≡ place_of row.class row.selector → is_of row c s ≡ false → finds g c s ≡ None
  gone c s same other = in_row c s same ∙ missed row c s other

  found_here : finds g row.class row.selector ≡ Some row.method
  found_here = in_row row.class row.selector refl ∙ ap (λ b. cond b (Some row.method) None) (of_itself row)

  gone_or_new : (c s : ℕ) → place_of c s ≡ place_of row.class row.selector → (b : Bool) → is_of row c s ≡ b → (finds g c s ≡ None) ⊎ ((c ≡ row.class) × (s ≡ row.selector))
  gone_or_new c s same true e = let pair = is_pair row c s e in inr (sym pair.0, sym pair.1)
  gone_or_new c s same false e = inl (gone c s same e)

  lost : (x : Option Row) → (finds g (lost_in x row.class row.selector).0 (lost_in x row.class row.selector).1 ≡ None) ⊎ (((lost_in x row.class row.selector).0 ≡ row.class) × ((lost_in x row.class row.selector).1 ≡ row.selector))
  lost None = inr (refl, refl)
  lost (Some r) = go (place_of r.class r.selector == place_of row.class row.selector) refl
    where
      go : (b : Bool) → (place_of r.class r.selector == place_of row.class row.selector) ≡ b → (finds g (chosen b (r.class, r.selector) (row.class, row.selector)).0 (chosen b (r.class, r.selector) (row.class, row.selector)).1 ≡ None) ⊎ (((chosen b (r.class, r.selector) (row.class, row.selector)).0 ≡ row.class) × ((chosen b (r.class, r.selector) (row.class, row.selector)).1 ≡ row.selector))
      go true e = gone_or_new r.class r.selector (eqb-true _ _ e) (is_of row r.class r.selector) refl
      go false e = inr (refl, refl)

  -- what was in the row had another pair, or is the one that is lost
  old_none : (c s : ℕ) → place_of c s ≡ place_of row.class row.selector → (x : Option Row) → ((c ≡ (lost_in x row.class row.selector).0) × (s ≡ (lost_in x row.class row.selector).1) → ⊥) → method_in x c s ≡ None
  old_none c s same None others = refl
  old_none c s same (Some r) others = go (is_of r c s) refl
    where
      go : (b : Bool) → is_of r c s ≡ b → method_in (Some r) c s ≡ None
      go false e = missed r c s e
      go true e =
          let pair = is_pair r c s e in
          let there : place_of r.class r.selector ≡ place_of row.class row.selector = ap (λ k. place_of k r.selector) pair.0 ∙ ap (λ k. place_of c k) pair.1 ∙ same in
          let is : lost_in (Some r) row.class row.selector ≡ (r.class, r.selector) = ap (λ b. chosen b (r.class, r.selector) (row.class, row.selector)) (eq-eqb _ _ there) in
          absurd (others (sym pair.0 ∙ sym (ap (λ p. p.0) is), sym pair.1 ∙ sym (ap (λ p. p.1) is)))

  others : (c s : ℕ) → ((c ≡ row.class) × (s ≡ row.selector) → ⊥) → ((c ≡ (lost_in (f (place_of row.class row.selector)) row.class row.selector).0) × (s ≡ (lost_in (f (place_of row.class row.selector)) row.class row.selector).1) → ⊥) → finds g c s ≡ finds f c s
  others c s new kept = go (place_of c s == place_of row.class row.selector) refl
    where
      go : (b : Bool) → (place_of c s == place_of row.class row.selector) ≡ b → finds g c s ≡ finds f c s
      go false e = ap (λ (x : Option Row). method_in x c s) (apart (place_of c s) (eqb-false _ _ e))
      go true e =
          let same = eqb-true _ _ e in
          gone c s same (other_pair row c s new) ∙ sym (ap (λ (x : Option Row). method_in x c s) (ap f same) ∙ old_none c s same (f (place_of row.class row.selector)) kept)

  row_put : IsPut (finds f) (finds g) row.class row.selector row.method
  row_put = record {
    here = found_here;
    lost_class = (lost_in (f (place_of row.class row.selector)) row.class row.selector).0;
    lost_selector = (lost_in (f (place_of row.class row.selector)) row.class row.selector).1;
    lost = lost (f (place_of row.class row.selector));
    others = others;
  }

-- ---- rows of a cache

abbrev pub row_at : List (Option Row) → ℕ → Option Row
row_at rows i = unwrap_or (slice_get rows i) None

pub none_found : (n c s : ℕ) → place_of c s < n → method_in (row_at (replicate n None) (place_of c s)) c s ≡ None
none_found n c s within = ap (λ (x : Option Row). method_in x c s) (unwrap_or-slice_get (replicate n None) (place_of c s) None ∙ get_or-replicate n (place_of c s) None None within)

pub put_in : (rows : List (Option Row)) (row : Row) → place_of row.class row.selector < length rows
    → IsPut (λ c s. method_in (row_at rows (place_of c s)) c s) (λ c s. method_in (row_at (set rows (place_of row.class row.selector) (Some row)) (place_of c s)) c s) row.class row.selector row.method
put_in rows row within =
    row_put (row_at rows) (row_at (set rows (place_of row.class row.selector) (Some row))) row
    (unwrap_or-slice_get (set rows (place_of row.class row.selector) (Some row)) (place_of row.class row.selector) None ∙ get_or-set_same rows (place_of row.class row.selector) (Some row) None within)
    (λ j other. unwrap_or-slice_get _ j None ∙ get_or-set_other rows (place_of row.class row.selector) j (Some row) None other ∙ sym (unwrap_or-slice_get rows j None))

pub found_in_row : (rows : List (Option Row)) (i c s : ℕ) (x : Option Row) → i ≡ place_of c s → get_or rows i None ≡ x → method_in (row_at rows (place_of c s)) c s ≡ method_in x c s
found_in_row rows i c s x at is = ap (λ (y : Option Row). method_in y c s) (unwrap_or-slice_get rows (place_of c s) None ∙ ap (λ k. get_or rows k None) (sym at) ∙ is)

pub method_of : (row : Row) (c s : ℕ) → row.class ≡ c → row.selector ≡ s → method_in (Some row) c s ≡ Some row.method
method_of row c s p q = ap (λ b. cond b (Some row.method) None) (both_same row.class c row.selector s p q)

pub no_method : (row : Row) (c s : ℕ) → ((row.class ≡ c) × (row.selector ≡ s → ⊥)) ⊎ (row.class ≡ c → ⊥) → method_in (Some row) c s ≡ None
no_method row c s (inl x) = missed row c s (other_pair row c s (λ pair. x.1 (sym pair.1)))
no_method row c s (inr x) = missed row c s (other_pair row c s (λ pair. x (sym pair.0)))
