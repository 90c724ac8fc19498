-- How many objects have no record, after a step.
use Rattle.std.proofs.Common.{◌≡◌, ◌≢◌, ℕ, ◌&&◌, Bool, true, false, refl, sym, ◌∙◌, ap, Option, Some, None, is_some, cond, ⊎_elim}
use Rattle.std.proofs.lemmas.Bool.{cases_eq}
use Rattle.long_names.specs.declared.object.Object.{Object}
use Rattle.object_table.specs.declared.entry.Entry.{Entry}
use Rattle.object_table.specs.Entries.{place_of, sum_below}
use Rattle.core_view.specs.Core.{Core}
use Rattle.core_view.specs.Held.{Disk}
use Rattle.core_view.specs.Kept.{IsBacked}
use Rattle.core_view.specs.Steps.{IsAbout, IsRefStep}
use Rattle.core_view.specs.Purge.{fresh_by, fresh_of}
use Rattle.core_view.proofs.Sums.{sum-same}

pub fresh-placed : (e : Entry) (p : ℕ) → place_of e.state ≡ Some p → fresh_by e ≡ cond {A = ℕ} e.flags.fresh 1 0
fresh-placed e p at = ap (λ (o : Option ℕ). cond {A = ℕ} (is_some o && e.flags.fresh) 1 0) at

pub fresh-unplaced : (e : Entry) → place_of e.state ≡ None → fresh_by e ≡ 0
fresh-unplaced e at = ap (λ (o : Option ℕ). cond {A = ℕ} (is_some o && e.flags.fresh) 1 0) at

-- whether an object is fresh is whether it has no record
pub fresh-is : (c : Core) (disk : Disk) (s p : ℕ) → IsBacked c disk → place_of (c.entries s).state ≡ Some p → cond (is_some (disk (c.entries s).name)) false true ≡ (c.entries s).flags.fresh
fresh-is c disk s p backed at = go (c.entries s).flags.fresh refl
  where
    go : (b : Bool) → (c.entries s).flags.fresh ≡ b → cond (is_some (disk (c.entries s).name)) false true ≡ (c.entries s).flags.fresh
    go true e = ap (λ (x : Option Object). cond (is_some x) false true) ((backed.body s p at).absent e) ∙ sym e
    go false e = ap (λ (x : Option Object). cond (is_some x) false true) ((backed.body s p at).like e).there ∙ sym e

pub never-missing : (c : Core) (disk : Disk) (s p : ℕ) → IsBacked c disk → place_of (c.entries s).state ≡ Some p → (c.entries s).flags.fresh ≡ false → disk (c.entries s).name ≡ None → ⊥
never-missing c disk s p backed at fresh none = let there = ((backed.body s p at).like fresh).there in let no_ = sym none ∙ there in cc

-- an object that has a record may come
pub fresh-came : (c d : Core) (s : ℕ) → IsAbout s c d → place_of (c.entries s).state ≡ None → (d.entries s).flags.fresh ≡ false → fresh_of d ≡ fresh_of c
unfolding fresh_of
fresh-came c d s about leaf clean = ap (λ (n : ℕ). sum_below n (λ q. fresh_by (d.entries q))) about.bound ∙ sum-same c.bound (λ q. fresh_by (c.entries q)) (λ q. fresh_by (d.entries q)) (λ q low. each q)
  where
    none : (o : Option ℕ) → cond {A = ℕ} (is_some o && false) 1 0 ≡ 0
    none None = refl
    none (Some p) = refl

    each : (q : ℕ) → fresh_by (d.entries q) ≡ fresh_by (c.entries q)
    each q = ⊎_elim (λ (h : q ≡ s). ap (λ (k : ℕ). fresh_by (d.entries k)) h ∙ ap (λ (b : Bool). cond {A = ℕ} (is_some (place_of (d.entries s).state) && b) 1 0) clean ∙ none (place_of (d.entries s).state) ∙ sym (ap (λ (k : ℕ). fresh_by (c.entries k)) h ∙ fresh-unplaced (c.entries s) leaf))
        (λ (h : q ≢ s). go h (place_of (c.entries q).state) refl) (cases_eq q s)
      where
        go : q ≢ s → (o : Option ℕ) → place_of (c.entries q).state ≡ o → fresh_by (d.entries q) ≡ fresh_by (c.entries q)
        go h None e = fresh-unplaced (d.entries q) (about.leaves q h e) ∙ sym (fresh-unplaced (c.entries q) e)
        go h (Some p) e = ap fresh_by (about.bodies q p h e)

pub not-fresh : (d : Core) (disk : Disk) (s p : ℕ) (o : Object) → IsBacked d disk → place_of (d.entries s).state ≡ Some p → disk (d.entries s).name ≡ Some o → (d.entries s).flags.fresh ≡ false
not-fresh d disk s p o backed at has = go (d.entries s).flags.fresh refl
  where
    go : (b : Bool) → (d.entries s).flags.fresh ≡ b → (d.entries s).flags.fresh ≡ false
    go false e = e
    go true e = let none = (backed.body s p at).absent e in absurd (let both : None ≡ Some o = sym none ∙ has in cc)

-- an object that changes has a record as before
pub fresh-stays : (c d : Core) (s : ℕ) → IsAbout s c d → fresh_by (d.entries s) ≡ fresh_by (c.entries s) → fresh_of d ≡ fresh_of c
unfolding fresh_of
fresh-stays c d s about here = ap (λ (n : ℕ). sum_below n (λ q. fresh_by (d.entries q))) about.bound ∙ sum-same c.bound (λ q. fresh_by (c.entries q)) (λ q. fresh_by (d.entries q)) (λ q low. each q)
  where
    each : (q : ℕ) → fresh_by (d.entries q) ≡ fresh_by (c.entries q)
    each q = ⊎_elim (λ (h : q ≡ s). ap (λ (k : ℕ). fresh_by (d.entries k)) h ∙ here ∙ ap (λ (k : ℕ). fresh_by (c.entries k)) (sym h)) (λ (h : q ≢ s). go h (place_of (c.entries q).state) refl) (cases_eq q s)
      where
        go : q ≢ s → (o : Option ℕ) → place_of (c.entries q).state ≡ o → fresh_by (d.entries q) ≡ fresh_by (c.entries q)
        go h None e = fresh-unplaced (d.entries q) (about.leaves q h e) ∙ sym (fresh-unplaced (c.entries q) e)
        go h (Some p) e = ap fresh_by (about.bodies q p h e)

-- references alone
pub ref-fresh : (c d : Core) → IsRefStep c d → fresh_of d ≡ fresh_of c
unfolding fresh_of
ref-fresh c d step = ap (λ (n : ℕ). sum_below n (λ s. fresh_by (d.entries s))) step.bound ∙ sum-same c.bound (λ s. fresh_by (c.entries s)) (λ s. fresh_by (d.entries s)) (λ q low. go q (place_of (c.entries q).state) refl)
  where
    go : (q : ℕ) (o : Option ℕ) → place_of (c.entries q).state ≡ o → fresh_by (d.entries q) ≡ fresh_by (c.entries q)
    go q None e = fresh-unplaced (d.entries q) (step.leaves q e) ∙ sym (fresh-unplaced (c.entries q) e)
    go q (Some p) e = ap fresh_by (step.bodies q p e)
