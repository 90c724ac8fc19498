-- How many objects are held: those that have a record, and the fresh ones.
use Rattle.std.proofs.Common.{zero, suc, ◌≡◌, ℕ, ◌+◌, ◌<◌, Bool, true, false, cond, eqb, List, Option, Some, None, is_some, refl, sym, ◌∙◌, ap, arith}
use Rattle.std.proofs.lemmas.Grind.{common_steps}
use Rattle.long_names.specs.declared.value.Value.{Value}
use Rattle.long_names.specs.Heap.{object_count}
use Rattle.object_table.specs.Entries.{place_of, sum_below as sum_under}
use Rattle.core_view.specs.Core.{Core}
use Rattle.core_view.specs.Held.{held}
use Rattle.core_view.specs.Kept.{IsCore}
use Rattle.core_view.specs.Purge.{fresh_by, fresh_of}
use Rattle.core_view.proofs.Core.{placed-used, held-at, held-leaf, held-absent}
use Rattle.core_view.proofs.Fresh.{fresh-placed, fresh-unplaced}
use Rattle.long_names.proofs.CountLaws.{sum_below, sum-same, sum-change, one_if_there, object_count-sum, eqb-here, eqb-other}
use Rattle.core_view.specs.Levels.{Stored, Levels, record_in, records_of, heap_of}
use Rattle.core_view.specs.Counted.{IsSound}
use Rattle.core_view.specs.Numbers.{one_stored, stored_count}

-- ---- sums

zeros : (m : ℕ) → sum_below m (λ k. 0) ≡ 0
zeros zero = refl
zeros (suc m) = let rest = zeros m in omega arith

sum-none : (m : ℕ) (f : ℕ → ℕ) → ((k : ℕ) → f k ≡ 0) → sum_below m f ≡ 0
sum-none m f none = sum-same m (λ k. 0) f (λ k low. none k) ∙ zeros m

sum-single : (m n : ℕ) (f : ℕ → ℕ) → n < m → ((k : ℕ) → (k ≡ n → ⊥) → f k ≡ 0) → sum_below m f ≡ f n
sum-single m n f low others =
    let a = sum-change m n f (λ k. 0) low (λ k away. sym (others k away)) in
    let b = zeros m in
    omega arith

sum-add : (m : ℕ) (f g : ℕ → ℕ) → sum_below m (λ k. f k + g k) ≡ sum_below m f + sum_below m g
sum-add zero f g = refl
sum-add (suc m) f g = let rest = sum-add m f g in omega arith

sum-swap : (m n : ℕ) (f : ℕ → ℕ → ℕ) → sum_below m (λ q. sum_below n (f q)) ≡ sum_below n (λ s. sum_below m (λ q. f q s))
sum-swap zero n f = sym (zeros n)
sum-swap (suc m) n f = ap (λ k. k + sum_below n (f m)) (sum-swap m n f) ∙ sym (sum-add n (λ s. sum_below m (λ q. f q s)) (f m))

pub below-under : (m : ℕ) (f : ℕ → ℕ) → sum_below m f ≡ sum_under m f
below-under zero f = refl
below-under (suc m) f = ap (λ k. k + f m) (below-under m f)

-- ---- fresh entries, by name and by short word

fresh_found : Core → Option ℕ → ℕ
fresh_found c None = 0
fresh_found c (Some s) = fresh_by (c.entries s)

pair : Core → ℕ → ℕ → ℕ
pair c q s = cond (eqb (c.entries s).name q) (fresh_by (c.entries s)) 0

-- a fresh entry is found by its name
fresh-found : (c : Core) (s k : ℕ) → IsCore c → fresh_by (c.entries s) ≡ suc k → c.find (c.entries s).name ≡ Some s
fresh-found c s k core some = go (place_of (c.entries s).state) refl
  where
    go : (o : Option ℕ) → place_of (c.entries s).state ≡ o → c.find (c.entries s).name ≡ Some s
    go None e = let none = fresh-unplaced (c.entries s) e in absurd (omega arith)
    go (Some p) e = core.found s (placed-used (c.entries s).state p e)

pair-zero : (c : Core) (q s : ℕ) → IsCore c → (c.find q ≡ Some s → ⊥) → pair c q s ≡ 0
unfolding pair
pair-zero c q s core not = go (eqb (c.entries s).name q) refl (fresh_by (c.entries s)) refl
  where
    go : (b : Bool) → eqb (c.entries s).name q ≡ b → (k : ℕ) → fresh_by (c.entries s) ≡ k → cond (eqb (c.entries s).name q) (fresh_by (c.entries s)) 0 ≡ 0
    go false e k f = ap (λ b. cond {A = ℕ} b (fresh_by (c.entries s)) 0) e
    go true e zero f = ap (λ b. cond {A = ℕ} b (fresh_by (c.entries s)) 0) e ∙ f
    go true e (suc k) f =
        let is : (c.entries s).name ≡ q = grind (arith, common_steps, e) in
        absurd (not (ap c.find (sym is) ∙ fresh-found c s k core f))

row : (c : Core) (q : ℕ) → IsCore c → sum_below c.bound (pair c q) ≡ fresh_found c (c.find q)
unfolding pair fresh_found
row c q core = go (c.find q) refl
  where
    go : (o : Option ℕ) → c.find q ≡ o → sum_below c.bound (pair c q) ≡ fresh_found c o
    go None e = sum-none c.bound (pair c q) (λ s. pair-zero c q s core (λ f. let z : None ≡ Some s = sym e ∙ f in cc))
    go (Some s) e =
        sum-single c.bound s (pair c q) (core.within s (core.used q s e)) (λ k away. pair-zero c q k core (λ f. away (same k (sym f ∙ e))))
        ∙ ap (λ b. cond {A = ℕ} b (fresh_by (c.entries s)) 0) (ap (λ n. eqb n q) (core.named q s e) ∙ eqb-here q)
      where
        same : (k : ℕ) → Some k ≡ Some s → k ≡ s
        same k f = cc

column : (c : Core) (next s : ℕ) → IsCore c → ((q r : ℕ) → c.find q ≡ Some r → q < next) → sum_below next (λ q. pair c q s) ≡ fresh_by (c.entries s)
unfolding pair
column c next s core below = go (fresh_by (c.entries s)) refl
  where
    n : ℕ
    n = (c.entries s).name

    go : (k : ℕ) → fresh_by (c.entries s) ≡ k → sum_below next (λ q. pair c q s) ≡ fresh_by (c.entries s)
    go zero e = sum-none next (λ q. pair c q s) (λ q. ap (λ x. cond {A = ℕ} (eqb n q) x 0) e ∙ nothing (eqb n q)) ∙ sym e
      where
        nothing : (b : Bool) → cond {A = ℕ} b 0 0 ≡ 0
        nothing true = refl
        nothing false = refl
    go (suc k) e =
        sum-single next n (λ q. pair c q s) (below n s (fresh-found c s k core e)) (λ q away. ap (λ b. cond {A = ℕ} b (fresh_by (c.entries s)) 0) (eqb-other n q (λ is. away (sym is))))
        ∙ ap (λ b. cond {A = ℕ} b (fresh_by (c.entries s)) 0) (eqb-here n)

fresh-sum : (c : Core) (next : ℕ) → IsCore c → ((q r : ℕ) → c.find q ≡ Some r → q < next) → sum_below next (λ q. fresh_found c (c.find q)) ≡ fresh_of c
unfolding fresh_of
fresh-sum c next core below =
    sum-same next (λ q. sum_below c.bound (pair c q)) (λ q. fresh_found c (c.find q)) (λ q low. sym (row c q core))
    ∙ sum-swap next c.bound (pair c)
    ∙ sum-same c.bound (λ s. fresh_by (c.entries s)) (λ s. sum_below next (λ q. pair c q s)) (λ s low. column c next s core below)
    ∙ below-under c.bound (λ s. fresh_by (c.entries s))

-- ---- each name

stored-record : (r : Option Stored) → is_some (record_in r) ≡ is_some r
stored-record None = refl
stored-record (Some r) = refl

held-one : (t : Levels) (q : ℕ) (owed : List Value) → IsSound t owed → one_if_there (held t.core (records_of t) q) ≡ one_stored (t.stored q) + fresh_found t.core (t.core.find q)
unfolding fresh_found
held-one t q owed x = go (t.core.find q) refl
  where
    on : ℕ
    on = one_stored (t.stored q)

    disk : one_if_there (record_in (t.stored q)) ≡ one_stored (t.stored q)
    disk = ap (λ b. cond {A = ℕ} b 1 0) (stored-record (t.stored q))

    go : (o : Option ℕ) → t.core.find q ≡ o → one_if_there (held t.core (records_of t) q) ≡ one_stored (t.stored q) + fresh_found t.core o
    go None e = let a = ap one_if_there (held-absent t.core (records_of t) q e) in let b = disk in omega arith
    go (Some s) e = place (place_of (t.core.entries s).state) refl
      where
        place : (o : Option ℕ) → place_of (t.core.entries s).state ≡ o → one_if_there (held t.core (records_of t) q) ≡ one_stored (t.stored q) + fresh_by (t.core.entries s)
        place None f =
            let a = ap one_if_there (held-leaf t.core (records_of t) q s e f) in
            let b = disk in
            let none = fresh-unplaced (t.core.entries s) f in
            omega arith
        place (Some p) f = flag (t.core.entries s).flags.fresh refl
          where
            here : one_if_there (held t.core (records_of t) q) ≡ 1
            here = ap one_if_there (held-at t.core (records_of t) q s p e f)

            name : (t.core.entries s).name ≡ q
            name = x.core.named q s e

            flag : (b : Bool) → (t.core.entries s).flags.fresh ≡ b → one_if_there (held t.core (records_of t) q) ≡ one_stored (t.stored q) + fresh_by (t.core.entries s)
            flag true g =
                let none : record_in (t.stored q) ≡ None = ap (records_of t) (sym name) ∙ (x.backed.body s p f).absent g in
                let off : one_stored (t.stored q) ≡ 0 = sym disk ∙ ap one_if_there none in
                let one : fresh_by (t.core.entries s) ≡ 1 = fresh-placed (t.core.entries s) p f ∙ ap (λ b. cond {A = ℕ} b 1 0) g in
                let a = here in
                omega arith
            flag false g =
                let like = (x.backed.body s p f).like g in
                let there : record_in (t.stored q) ≡ Some like.object = ap (records_of t) (sym name) ∙ like.there in
                let one : one_stored (t.stored q) ≡ 1 = sym disk ∙ ap one_if_there there in
                let none : fresh_by (t.core.entries s) ≡ 0 = fresh-placed (t.core.entries s) p f ∙ ap (λ b. cond {A = ℕ} b 1 0) g in
                let a = here in
                omega arith

-- ---- all of them

pub held-number : (t : Levels) (owed : List Value) → IsSound t owed → object_count (heap_of t) ≡ stored_count t + fresh_of t.core
unfolding stored_count
held-number t owed x =
    let a = object_count-sum (heap_of t) in
    let b = sum-same t.next (λ q. one_stored (t.stored q) + fresh_found t.core (t.core.find q)) (λ q. one_if_there ((heap_of t).at q)) (λ q low. held-one t q owed x) in
    let d = sum-add t.next (λ q. one_stored (t.stored q)) (λ q. fresh_found t.core (t.core.find q)) in
    let e = fresh-sum t.core t.next x.core (λ q r found. x.heap.below q (x.counted.entered q r found)) in
    let f = below-under t.next (λ q. one_stored (t.stored q)) in
    omega arith
