-- The rows of the code's table, and the entries that they stand for.
use Rattle.std.proofs.Common.{◌≡◌, ℕ, ◌==◌, Bool, true, false, cond, eqb, ◌&&◌, List, [], ◌∷◌, map, Option, Some, option_map, IsTrue, IfSome, refl, sym, ◌∙◌, ap, subst}
use Rattle.std.specs.List.{list_all, find}
use Rattle.std.specs.Map.{lookup}
use Rattle.loom_gen.specs.declared.rows.Row.{Row}
use Rattle.loom_gen.specs.Inside.{IsRowOf, row_object, row_entry, is_named}

-- the row of a name gives the entry of the name
find-lookup : (number w : ℕ) (rows : List Row) → option_map (row_object number) (find (λ (r : Row). r.name == w) rows) ≡ lookup (λ k. k == w) (map (row_entry number) rows)
find-lookup number w [] = refl
find-lookup number w (r ∷ rs) = go (eqb r.name w) (find-lookup number w rs)
  where
    go : (b : Bool) → option_map (row_object number) (find (λ (r : Row). r.name == w) rs) ≡ lookup (λ k. k == w) (map (row_entry number) rs) → option_map (row_object number) (cond b (Some r) (find (λ (r : Row). r.name == w) rs)) ≡ cond b (Some (row_object number r)) (lookup (λ k. k == w) (map (row_entry number) rs))
    go true rest = refl
    go false rest = rest

-- what all rows pass, the one that was found passes
find-passes : (test : Row → Bool) (w : ℕ) (rows : List Row) → list_all test rows ≡ true → IfSome (find (λ (r : Row). r.name == w) rows) (λ row. IsTrue (test row))
find-passes test w [] all = tt
find-passes test w (r ∷ rs) all = go (eqb r.name w) (test r) refl all (λ rest. find-passes test w rs rest)
  where
    go : (b t : Bool) → test r ≡ t → (t && list_all test rs) ≡ true → (list_all test rs ≡ true → IfSome (find (λ (r : Row). r.name == w) rs) (λ row. IsTrue (test row))) → IfSome (cond b (Some r) (find (λ (r : Row). r.name == w) rs)) (λ row. IsTrue (test row))
    go true true is all rest = is
    go false true is all rest = rest all
    go b false is all rest = let no : ◌≡◌ {A = Bool} false true = all in absurd (cc)

-- ---- the row that was found

pub row-object : (number w : ℕ) (rows : List Row) (found : Option Row) → IsRowOf rows w found → option_map (row_object number) found ≡ lookup (λ k. k == w) (map (row_entry number) rows)
row-object number w rows found row = ap (λ (r : Option Row). option_map (row_object number) r) row.is ∙ find-lookup number w rows

pub row-named : (w : ℕ) (rows : List Row) (found : Option Row) → IsRowOf rows w found → list_all is_named rows ≡ true → IfSome found (λ row. IsTrue (is_named row))
row-named w rows found row all = subst (λ (r : Option Row). IfSome r (λ row. IsTrue (is_named row))) (sym row.is) (find-passes is_named w rows all)
