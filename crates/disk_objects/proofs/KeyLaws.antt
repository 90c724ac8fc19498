-- The names of a disk's objects are those of its directory.
-- Two maps with the same names have the same keys (`same-keys`), so `names` is one equation.
use Rattle.std.proofs.Common.{◌≡◌, ℕ, Bool, true, false, cond, List, [], ◌∷◌, length, map as mapped, Option, Some, None, refl, sym, ap, subst, ◌∙◌}
use Rattle.std.specs.Prelude.{is_some, option_map, T, ◌&&◌}
use Rattle.std.specs.Ordering.{nat_cmp, eq_by_cmp, is_lt}
use Rattle.std.specs.Cmp.{nat_cmp_total}
use Rattle.std.specs.FinMap as map
use Rattle.std.specs.FinMap.{find, is_sorted, nat_cmp-IsAntisymmetric}
use Rattle.std.specs.FinMap.Entries.{same_entries, below_all}
use Rattle.std.proofs.lemmas.List.{length-map}
use Rattle.work_directory.specs.Directory.{entries_of}
use Rattle.work_directory.specs.Table.{Entry}
use Rattle.disk_objects.specs.declared.rest.DiskRest.{DiskRest}
use Rattle.disk_objects.specs.Disk.{DiskObject, Objects, AreAlike, IsDisk, disk_held}

-- only that a key is there
bare : {A : Type 0} → ℕ × A → ℕ × Bool
bare x = (x.0, true)

find-bare : {A : Type 0} (es : List (ℕ × A)) (q : ℕ) → find nat_cmp q (mapped bare es) ≡ option_map (λ _. true) (find nat_cmp q es)
unfolding bare
find-bare [] q = refl
find-bare {A} (x ∷ es) q = by_test (eq_by_cmp nat_cmp q x.0) (find-bare es q) where
  by_test : (b : Bool) → find nat_cmp q (mapped bare es) ≡ option_map (λ _. true) (find nat_cmp q es)
      → cond b (Some true) (find nat_cmp q (mapped bare es)) ≡ option_map (λ _. true) (cond b (Some x.1) (find nat_cmp q es))
  by_test true rest = refl
  by_test false rest = rest

keys-bare : {A : Type 0} (es : List (ℕ × A)) → mapped (λ (e : ℕ × Bool). e.0) (mapped bare es) ≡ mapped (λ (e : ℕ × A). e.0) es
unfolding bare
keys-bare [] = refl
keys-bare (x ∷ es) = ap (λ (t : List ℕ). x.0 ∷ t) (keys-bare es)

option-same : {A B : Type 0} (a : Option A) (b : Option B) → is_some a ≡ is_some b → option_map (λ _. true) a ≡ option_map (λ _. true) b
option-same None None e = refl
option-same None (Some y) e = absurd (let no : false ≡ true = e in cc no)
option-same (Some x) None e = absurd (let no : true ≡ false = e in cc no)
option-same (Some x) (Some y) e = refl

alike-is_some : (w : List ℕ) (out : ℕ → Option ℕ) (l q : ℕ) (oe : Option Entry) (oo : Option DiskObject) → AreAlike w out l q oe oo → is_some oo ≡ is_some oe
alike-is_some w out l q None None a = refl
alike-is_some w out l q None (Some o) a = absurd a
alike-is_some w out l q (Some e) None a = absurd a
alike-is_some w out l q (Some e) (Some o) a = refl

below-bare : {A : Type 0} (k : ℕ) (es : List (ℕ × A)) → below_all nat_cmp k (mapped bare es) ≡ below_all nat_cmp k es
unfolding bare
below-bare k [] = refl
below-bare k (x ∷ es) = ap (λ (b : Bool). is_lt (nat_cmp k x.0) && b) (below-bare k es)

sorted-bare : {A : Type 0} (es : List (ℕ × A)) → is_sorted nat_cmp (mapped bare es) ≡ is_sorted nat_cmp es
unfolding bare
sorted-bare [] = refl
sorted-bare (x ∷ es) = ap (λ (b : Bool). below_all nat_cmp x.0 (mapped bare es) && b) (sorted-bare es) ∙ ap (λ (b : Bool). b && is_sorted nat_cmp es) (below-bare x.0 es)

-- two lists of entries in order with the same keys
pub keys-sorted : {A B : Type 0} (es : List (ℕ × A)) (fs : List (ℕ × B)) → T (is_sorted nat_cmp es) → T (is_sorted nat_cmp fs)
    → ((q : ℕ) → is_some (find nat_cmp q es) ≡ is_some (find nat_cmp q fs)) → mapped (λ (e : ℕ × A). e.0) es ≡ mapped (λ (f : ℕ × B). f.0) fs
keys-sorted es fs g h is =
    sym (keys-bare es)
    ∙ ap (mapped (λ (e : ℕ × Bool). e.0)) (same_entries nat_cmp nat_cmp_total nat_cmp-IsAntisymmetric (mapped bare es) (mapped bare fs)
    (subst T (sym (sorted-bare es)) g) (subst T (sym (sorted-bare fs)) h)
    (λ q. find-bare es q ∙ option-same (find nat_cmp q es) (find nat_cmp q fs) (is q) ∙ sym (find-bare fs q)))
    ∙ keys-bare fs

pub same-keys : {A B : Type 0} (m : map.FinMap nat_cmp A) (n : map.FinMap nat_cmp B) → ((q : ℕ) → is_some (map.get m q) ≡ is_some (map.get n q))
    → map.keys m ≡ map.keys n
same-keys m n is = keys-sorted (map.entries m) (map.entries n) (map.entries_sorted m) (map.entries_sorted n)
    (λ q. ap is_some (sym (map.get-entries m q)) ∙ is q ∙ ap is_some (map.get-entries n q))

length-keys : {A : Type 0} (m : map.FinMap nat_cmp A) → length (map.keys m) ≡ map.len m
length-keys m = length-map (map.entries m) (λ e. e.0) ∙ sym (map.len-entries m)

module _ (rest : DiskRest) (v : List ℕ) (objects : Objects) (pending : List ℕ) (k : IsDisk rest v objects pending) where
  pub disk-some : (q : ℕ) → is_some (map.get objects q) ≡ is_some (map.get (entries_of rest.directory v) q)
  disk-some q = alike-is_some v k.out (k.link q) q (map.get (entries_of rest.directory v) q) (map.get objects q) (k.kept.stored.each q)

  pub disk-keys : map.keys objects ≡ map.keys (entries_of rest.directory v)
  disk-keys = same-keys objects (entries_of rest.directory v) disk-some

  pub disk-len : map.len objects ≡ disk_held rest
  disk-len = sym (length-keys objects) ∙ ap length disk-keys ∙ length-keys (entries_of rest.directory v) ∙ k.kept.directory.held
