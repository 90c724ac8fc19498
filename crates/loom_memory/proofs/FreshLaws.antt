-- How many objects of a core have no record, entry by entry.
use Rattle.std.proofs.Common.{◌≡◌, ℕ, zero, suc, ◌+◌, ◌-◌, ◌*◌, ◌≤◌, ◌<◌, ◌&&◌, is_some, None, Bool, true, false, cond, refl, sym, ◌∙◌, ap, arith}
use Rattle.std.proofs.lemmas.Grind.{common_steps}
use Rattle.object_table.specs.Entries.{is_short, is_used, place_of, sum_below}
use Rattle.object_table.specs.declared.entry.EntryState.{EntryState}
use Rattle.object_table.specs.declared.entry.EntryState.TheVariants.{Free, Leaf, Resident}
use Rattle.object_table.specs.Table.{entries_of}
use Rattle.core_view.specs.Core.{Core}
use Rattle.core_view.specs.Kept.{IsCore}
use Rattle.core_view.specs.Purge.{fresh_by, fresh_of}
use Rattle.core_view.proofs.Fresh.{fresh-unplaced}
use Rattle.leaf_lambda.specs.declared.parts.Parts.{Parts}
use Rattle.leaf_lambda.specs.Parts.{core_of}

unplaced : (s : EntryState) → is_used s ≡ false → place_of s ≡ None
unplaced Free e = refl
unplaced Leaf e = refl
unplaced (Resident p) e = absurd (let f : true ≡ false = e in cc)

-- only short words have entries in use
unshort : (c : Core) (s : ℕ) → IsCore c → is_short s ≡ false → fresh_by (c.entries s) ≡ 0
unshort c s core odd = fresh-unplaced (c.entries s) (unplaced (c.entries s).state (go (is_used (c.entries s).state) refl))
  where
    go : (b : Bool) → is_used (c.entries s).state ≡ b → is_used (c.entries s).state ≡ false
    go false e = e
    go true e = absurd (let is = core.short s e in let both : true ≡ false = sym is ∙ odd in cc)

pub fresh-one : (c : Core) (s : ℕ) → fresh_by (c.entries s) ≤ 1
fresh-one c s = go (is_some (place_of (c.entries s).state) && (c.entries s).flags.fresh)
  where
    go : (b : Bool) → cond {A = ℕ} b 1 0 ≤ 1
    go true = omega arith
    go false = omega arith

pub fresh-first : (c : Core) → IsCore c → sum_below 2 (λ s. fresh_by (c.entries s)) ≡ 0
fresh-first c core = let a = unshort c 0 core refl in let b = unshort c 1 core refl in omega (arith, a, b)

pub fresh-next : (c : Core) → IsCore c → (i : ℕ) → sum_below (2 * (i + 1) + 2) (λ s. fresh_by (c.entries s)) ≡ sum_below (2 * i + 2) (λ s. fresh_by (c.entries s)) + fresh_by (c.entries (2 * i + 2))
fresh-next c core i =
    let is : 2 * (i + 1) + 2 ≡ suc (suc (2 * i + 2)) = omega arith in
    let odd : is_short (suc (2 * i + 2)) ≡ false = grind (arith, common_steps) in
    let none = unshort c (suc (2 * i + 2)) core odd in
    ap (λ (n : ℕ). sum_below n (λ s. fresh_by (c.entries s))) is ∙ omega (arith, none)

-- nothing is in use from a short word on
fresh-past : (c : Core) (n m : ℕ) → ((s : ℕ) → is_used (c.entries s).state ≡ true → s < n) → sum_below (n + m) (λ s. fresh_by (c.entries s)) ≡ sum_below n (λ s. fresh_by (c.entries s))
fresh-past c n zero most = ap (λ (k : ℕ). sum_below k (λ s. fresh_by (c.entries s))) (let e : n + zero ≡ n = omega arith in e)
fresh-past c n (suc m) most =
    let is : n + suc m ≡ suc (n + m) = omega arith in
    let none = fresh-unplaced (c.entries (n + m)) (unplaced (c.entries (n + m)).state (go (is_used (c.entries (n + m)).state) refl)) in
    let rest = fresh-past c n m most in
    ap (λ (k : ℕ). sum_below k (λ s. fresh_by (c.entries s))) is ∙ omega (arith, none, rest)
  where
    go : (b : Bool) → is_used (c.entries (n + m)).state ≡ b → is_used (c.entries (n + m)).state ≡ false
    go false e = e
    go true e = absurd (let low = most (n + m) e in omega arith)

pub fresh-all : (p : Parts) (i : ℕ) → i ≤ entries_of p.names.table → ((s : ℕ) → is_used ((core_of p).entries s).state ≡ true → s < 2 * i + 2)
    → sum_below (2 * i + 2) (λ s. fresh_by ((core_of p).entries s)) ≡ fresh_of (core_of p)
unfolding core_of fresh_of
fresh-all p i low most =
    let rest = entries_of p.names.table - i in
    let is : 2 * i + 2 + 2 * rest ≡ 2 * entries_of p.names.table + 2 = omega arith in
    sym (fresh-past (core_of p) (2 * i + 2) (2 * rest) most) ∙ ap (λ (n : ℕ). sum_below n (λ s. fresh_by ((core_of p).entries s))) is
