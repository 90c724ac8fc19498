-- The names that slots have, and a set of names in order.
use Rattle.std.proofs.Common.{◌≡◌, ◌≢◌, ℕ, zero, suc, ◌+◌, ◌<◌, ◌≤◌, ◌==◌, ◌||◌, ⊎_elim, Bool, true, false, cond, eqb, List, [], ◌∷◌, ◌++◌, map as mapped, Option, Some, None, refl, sym, ap, subst, ◌∙◌, arith}
use Rattle.std.specs.Prelude.{is_some, T, ◌&&◌}
use Rattle.std.specs.List.{dedup, dedup_from, list_any, AllByRecursion}
use Rattle.std.specs.List.Sorted.{IsStrictlySortedBy}
use Rattle.std.specs.Ordering.{nat_cmp, eq_by_cmp, is_eq, is_lt}
use Rattle.std.specs.FinMap as map
use Rattle.std.specs.FinMap.{is_sorted}
use Rattle.std.specs.FinMap.Entries.{below_all, is_some-find}
use Rattle.std.specs.declared.cmp.Ordering.{Ordering}
use Rattle.std.specs.declared.cmp.Ordering.TheVariants.{Less, Equal, Greater}
use Rattle.std.proofs.lemmas.Bool.{eqb-true}
use Rattle.std.proofs.lemmas.Bool.Decides.{nat_tests}
use Rattle.std.proofs.lemmas.Cmp.{eq_by_cmp_equiv, nat_cmp_total, ranked}
use Rattle.work_directory.specs.Directory.{slots_of, entries_of, shown_at}
use Rattle.work_directory.specs.Table.{Entry}
use Rattle.work_directory.specs.declared.slot.Slot.{Slot}
use Rattle.work_directory.proofs.EntryLaws.{entry-shown, entry-there}
use Rattle.disk_objects.specs.declared.rest.DiskRest.{DiskRest}
use Rattle.disk_objects.specs.Disk.{Objects, IsDisk}
use Rattle.disk_objects.specs.Inside.{is_noted}
use Rattle.disk_objects.specs.Names.{is_named, seen}
use Rattle.disk_objects.proofs.StoredLaws.{equal_or_not, none-is-some}
use Rattle.disk_objects.proofs.KeyLaws.{keys-sorted, disk-some}

-- ---- slots

or-true : (a b : Bool) → b ≡ true → (a || b) ≡ true
or-true true b e = refl
or-true false b e = e

same-name : (a b : ℕ) → a ≡ b → (a == b) ≡ true
same-name a b e = grind (arith, nat_tests)

other-name : (a b : ℕ) → a ≢ b → (a == b) ≡ false
other-name a b e = grind (arith, nat_tests)

seen-there : (f : ℕ → Option Slot) (q n j : ℕ) → j < n → is_named q (f j) ≡ true → seen f q n ≡ true
seen-there f q zero j l is = absurd (omega (arith, l))
seen-there f q (suc n) j l is = ⊎_elim
    (λ (h : j ≡ n). ap (λ (b : Bool). b || seen f q n) (ap (λ (k : ℕ). is_named q (f k)) (sym h) ∙ is))
    (λ (h : j ≢ n). or-true (is_named q (f n)) (seen f q n) (seen-there f q n j (omega (arith, l, h)) is))
    (equal_or_not j n)

abbrev SeenAt : (ℕ → Option Slot) → ℕ → ℕ → Type 0
SeenAt f q n = (j : ℕ) × (j < n) × (s : Slot) × (f j ≡ Some s) × (s.name ≡ q)

seen-some : (f : ℕ → Option Slot) (q n : ℕ) → seen f q n ≡ true → SeenAt f q n
seen-some f q zero e = absurd (let no : false ≡ true = e in cc no)
seen-some f q (suc n) e = by_slot (f n) refl (seen-some f q n) e where
  wider : SeenAt f q n → SeenAt f q (suc n)
  wider r = (r.0, (let l = r.1 in omega (arith, l)), r.2, r.3, r.4)

  by_slot : (o : Option Slot) → f n ≡ o → (seen f q n ≡ true → SeenAt f q n) → (is_named q o || seen f q n) ≡ true → SeenAt f q (suc n)
  by_slot None is rest e = wider (rest e)
  by_slot (Some s) is rest e = ⊎_elim
      (λ (h : s.name ≡ q). (n, omega arith, s, is, h))
      (λ (h : s.name ≢ q). wider (rest (ap (λ (b : Bool). b || seen f q n) (sym (other-name s.name q h)) ∙ e)))
      (equal_or_not s.name q)

pub seen-more : (f : ℕ → Option Slot) (q n : ℕ) → seen f q (n + 1) ≡ (is_named q (f n) || seen f q n)
seen-more f q n = ap (seen f q) (let e : n + 1 ≡ suc n = omega arith in e)

-- slots that show nothing have no name
pub seen-past : (f : ℕ → Option Slot) (q m n : ℕ) → m ≤ n → ((i : ℕ) → m ≤ i → i < n → f i ≡ None) → seen f q n ≡ seen f q m
seen-past f q m zero l none = ap (seen f q) (let e : zero ≡ m = omega arith in e)
seen-past f q m (suc n) l none = ⊎_elim
    (λ (h : suc n ≡ m). ap (seen f q) h)
    (λ (h : suc n ≢ m). ap (λ (o : Option Slot). is_named q o || seen f q n) (none n (omega arith) (omega arith))
    ∙ seen-past f q m n (omega arith) (λ i low high. none i low (omega arith)))
    (equal_or_not (suc n) m)

-- ---- the names of a disk

module _ (rest : DiskRest) (v : List ℕ) (objects : Objects) (pending : List ℕ) (k : IsDisk rest v objects pending) where
  pub disk-seen : (q : ℕ) → seen (shown_at v) q (slots_of rest.directory) ≡ is_some (map.get objects q)
  disk-seen q = by_entry (map.get (entries_of rest.directory v) q) refl ∙ sym (disk-some rest v objects pending k q) where
    not_seen : map.get (entries_of rest.directory v) q ≡ None → (b : Bool) → seen (shown_at v) q (slots_of rest.directory) ≡ b → b ≡ false
    not_seen none false e = refl
    not_seen none true e =
        let r = seen-some (shown_at v) q (slots_of rest.directory) e in
        absurd (none-is-some (ap (map.get (entries_of rest.directory v)) r.4 ∙ none) (entry-shown rest.directory v r.0 r.2 k.kept.directory r.1 r.3))

    by_entry : (o : Option Entry) → map.get (entries_of rest.directory v) q ≡ o
        → seen (shown_at v) q (slots_of rest.directory) ≡ is_some (map.get (entries_of rest.directory v) q)
    by_entry None is = not_seen is (seen (shown_at v) q (slots_of rest.directory)) refl ∙ sym (ap is_some is)
    by_entry (Some e) is =
        let r = entry-there rest.directory v q e is in
        seen-there (shown_at v) q (slots_of rest.directory) r.0 r.1 (ap (is_named q) r.2 ∙ same-name q q refl) ∙ sym (ap is_some is)

-- ---- a set of names in order

paired : ℕ → ℕ × Bool
paired k = (k, true)

keys-paired : (ks : List ℕ) → mapped (λ (e : ℕ × Bool). e.0) (mapped paired ks) ≡ ks
unfolding paired
keys-paired [] = refl
keys-paired (k ∷ ks) = ap (λ (t : List ℕ). k ∷ t) (keys-paired ks)

and-both : (a b : Bool) → T a → T b → T (a && b)
and-both true b p q = q
and-both false b p q = p

below-paired : (k : ℕ) (ks : List ℕ) → AllByRecursion (λ y. nat_cmp k y ≡ Less) ks → T (below_all nat_cmp k (mapped paired ks))
unfolding paired
below-paired k [] all = tt
below-paired k (x ∷ xs) all = and-both (is_lt (nat_cmp k x)) _ (subst (λ r. T (is_lt r)) (sym all.0) tt) (below-paired k xs all.1)

sorted-paired : (ks : List ℕ) → IsStrictlySortedBy nat_cmp ks → T (is_sorted nat_cmp (mapped paired ks))
unfolding paired IsStrictlySortedBy
sorted-paired [] s = tt
sorted-paired (k ∷ ks) s = and-both (below_all nat_cmp k (mapped paired ks)) _ (below-paired k ks s.0) (sorted-paired ks s.1)

pub set-names : (keys : List ℕ) (objects : Objects) → IsStrictlySortedBy nat_cmp keys
    → ((q : ℕ) → list_any (eq_by_cmp nat_cmp q) keys ≡ is_some (map.get objects q)) → keys ≡ map.keys objects
set-names keys objects sorted same =
    sym (keys-paired keys)
    ∙ keys-sorted (mapped paired keys) (map.entries objects) (sorted-paired keys sorted) (map.entries_sorted objects)
    (λ q. is_some-find nat_cmp q (mapped paired keys) ∙ ap (list_any (eq_by_cmp nat_cmp q)) (keys-paired keys) ∙ same q ∙ ap is_some (map.get-entries objects q))

other-by-cmp : (q n : ℕ) → n ≢ q → (r : Ordering) → nat_cmp q n ≡ r → is_eq r ≡ false
other-by-cmp q n other Less e = refl
other-by-cmp q n other Greater e = refl
other-by-cmp q n other Equal e = absurd (other (sym (ranked q n Equal (sym e))))

-- the name is what compares equal
same-by-cmp : (q n : ℕ) → eq_by_cmp nat_cmp q n ≡ (n == q)
same-by-cmp q n = ⊎_elim
    (λ (h : n ≡ q).
    let alike = eq_by_cmp_equiv nat_cmp_total in
    subst (λ (k : ℕ). eq_by_cmp nat_cmp q k ≡ (k == q)) (sym h) (alike.refl q ∙ sym (same-name q q refl)))
    (λ (h : n ≢ q). other-by-cmp q n h (nat_cmp q n) refl ∙ sym (other-name n q h))
    (equal_or_not n q)

any-alike : (q : ℕ) (keys : List ℕ) → list_any (eq_by_cmp nat_cmp q) keys ≡ list_any (λ n. n == q) keys
any-alike q [] = refl
any-alike q (k ∷ ks) = ap (λ (b : Bool). b || list_any (eq_by_cmp nat_cmp q) ks) (same-by-cmp q k) ∙ ap (λ (b : Bool). (k == q) || b) (any-alike q ks)

pub ordered-names : (keys : List ℕ) (objects : Objects) → IsStrictlySortedBy nat_cmp keys → ((q : ℕ) → is_noted keys q ≡ is_some (map.get objects q)) → keys ≡ map.keys objects
ordered-names keys objects sorted same = set-names keys objects sorted (λ q. any-alike q keys ∙ same q)

or-twice : (a b : Bool) → (a || (a || b)) ≡ (a || b)
or-twice true b = refl
or-twice false b = refl

noted-from : (q k : ℕ) (xs : List ℕ) → list_any (λ n. n == q) (dedup_from eqb k xs) ≡ ((k == q) || list_any (λ n. n == q) xs)
noted-from q k [] = refl
noted-from q k (x ∷ xs) = go (eqb x k) refl (noted-from q k xs) (noted-from q x xs)
  where
    go : (b : Bool) → eqb x k ≡ b → list_any (λ n. n == q) (dedup_from eqb k xs) ≡ ((k == q) || list_any (λ n. n == q) xs) → list_any (λ n. n == q) (dedup_from eqb x xs) ≡ ((x == q) || list_any (λ n. n == q) xs)
        → list_any (λ n. n == q) (cond b (dedup_from eqb k xs) (k ∷ dedup_from eqb x xs)) ≡ ((k == q) || ((x == q) || list_any (λ n. n == q) xs))
    go true e here other = here ∙ sym (or-twice (k == q) (list_any (λ n. n == q) xs)) ∙ ap (λ (j : ℕ). (k == q) || ((j == q) || list_any (λ n. n == q) xs)) (sym (eqb-true x k e))
    go false e here other = ap (λ (b : Bool). (k == q) || b) other

-- no name is lost where each is kept once
pub noted-dedup : (q : ℕ) (xs : List ℕ) → is_noted (dedup eqb xs) q ≡ is_noted xs q
noted-dedup q [] = refl
noted-dedup q (x ∷ xs) = noted-from q x xs

pub noted-more : (q name : ℕ) (xs : List ℕ) → is_noted (xs ++ name ∷ []) q ≡ ((name == q) || is_noted xs q)
noted-more q name [] = refl
noted-more q name (x ∷ xs) = ap (λ (b : Bool). (x == q) || b) (noted-more q name xs) ∙ turned (x == q) (name == q) (is_noted xs q)
  where
    turned : (a b d : Bool) → (a || (b || d)) ≡ (b || (a || d))
    turned true true d = refl
    turned true false d = refl
    turned false true d = refl
    turned false false d = refl
