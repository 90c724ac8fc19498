-- Maps of a disk's objects as functions.
use Rattle.std.proofs.Common.{◌≡◌, ◌≢◌, ℕ, true, false, cond, List, Option, Some, None, refl, sym, ◌∙◌, ap, subst, arith}
use Rattle.std.specs.Prelude.{option_map, IsSome}
use Rattle.std.specs.Ordering.{nat_cmp, eq_by_cmp}
use Rattle.std.specs.Cmp.{nat_cmp_total}
use Rattle.std.specs.FinMap as map
use Rattle.std.specs.FinMap.{get-insert, get-remove}
use Rattle.object_table.specs.Entries.{put}
use Rattle.core_view.proofs.Lists.{put-here, put-there}
use Rattle.core_view.specs.Levels.{Stored, record_in}
use Rattle.core_view.proofs.LevelLaws.{by_name}
use Rattle.disk_objects.specs.declared.rest.DiskRest.{DiskRest}
use Rattle.disk_objects.specs.Disk.{DiskObject, Objects}
use Rattle.disk_objects.specs.Function.{object_held, count_held, objects_at, counts_at}
use Rattle.disk_objects.proofs.FunctionLaws.{disk-is, counts-is}
use Rattle.delta_counts.specs.At.{stored_of, IsStoredIn}

eq-here : (n : ℕ) → eq_by_cmp nat_cmp n n ≡ true
eq-here n = grind arith

-- an object on disk, by what is seen of it
pub object-at : (objects : Objects) (stored : ℕ → Option Stored) (n : ℕ) (r : Stored) → ((q : ℕ) → option_map stored_of (map.get objects q) ≡ stored q) → stored n ≡ Some r → (o : DiskObject) × (map.get objects n ≡ Some o) × (stored_of o ≡ r)
object-at objects stored n r same there = go (map.get objects n) refl
  where
    go : (o : Option DiskObject) → map.get objects n ≡ o → (o : DiskObject) × (map.get objects n ≡ Some o) × (stored_of o ≡ r)
    go None e = let z : option_map stored_of None ≡ Some r = ap (λ o. option_map stored_of o) (sym e) ∙ same n ∙ there in absurd (cc)
    go (Some o) e = (o, e, some (ap (λ o. option_map stored_of o) (sym e) ∙ same n ∙ there))
      where
        some : Some (stored_of o) ≡ Some r → stored_of o ≡ r
        some f = cc

pub insert-same : (objects : Objects) (stored : ℕ → Option Stored) (n : ℕ) (o : DiskObject) → ((q : ℕ) → option_map stored_of (map.get objects q) ≡ stored q)
    → (q : ℕ) → option_map stored_of (map.get (map.insert objects n o) q) ≡ put stored n (Some (stored_of o)) q
insert-same objects stored n o same = by_name {P = λ q. option_map stored_of (map.get (map.insert objects n o) q) ≡ put stored n (Some (stored_of o)) q} n
    (ap (λ x. option_map stored_of x) (get-insert nat_cmp_total objects n o n ∙ ap (λ b. cond b (Some o) (map.get objects n)) (eq-here n)) ∙ sym (put-here stored n (Some (stored_of o))))
    (λ q away. ap (λ x. option_map stored_of x) (get-insert nat_cmp_total objects n o q ∙ ap (λ b. cond b (Some o) (map.get objects q)) (eq-there q away)) ∙ same q ∙ sym (put-there stored n (Some (stored_of o)) q away))
  where
    eq-there : (q : ℕ) → q ≢ n → eq_by_cmp nat_cmp q n ≡ false
    eq-there q away = grind arith

pub remove-same : (objects : Objects) (stored : ℕ → Option Stored) (n : ℕ) → ((q : ℕ) → option_map stored_of (map.get objects q) ≡ stored q)
    → (q : ℕ) → option_map stored_of (map.get (map.remove objects n) q) ≡ put stored n None q
remove-same objects stored n same = by_name {P = λ q. option_map stored_of (map.get (map.remove objects n) q) ≡ put stored n None q} n
    (ap (λ x. option_map stored_of x) (get-remove nat_cmp_total objects n n ∙ ap (λ b. cond b None (map.get objects n)) (eq-here n)) ∙ sym (put-here stored n None))
    (λ q away. ap (λ x. option_map stored_of x) (get-remove nat_cmp_total objects n q ∙ ap (λ b. cond b None (map.get objects q)) (eq-there q away)) ∙ same q ∙ sym (put-there stored n None q away))
  where
    eq-there : (q : ℕ) → q ≢ n → eq_by_cmp nat_cmp q n ≡ false
    eq-there q away = grind arith

pub some-here : (objects : Objects) (n : ℕ) (o : DiskObject) → IsSome (map.get (map.insert objects n o) n)
some-here objects n o = subst (λ x. IsSome x) (sym (get-insert nat_cmp_total objects n o n ∙ ap (λ b. cond b (Some o) (map.get objects n)) (eq-here n))) refl

-- ---- the disk as a function

pub records-at : (rest : DiskRest) (work : List ℕ) (stored : ℕ → Option Stored) (pending : List ℕ) (q : ℕ) → IsStoredIn rest work stored pending → record_in (stored q) ≡ objects_at rest work q
records-at rest work stored pending q x = ap record_in (sym (x.same q)) ∙ go (map.get x.objects q) ∙ sym (disk-is rest work x.objects pending q x.disk)
  where
    go : (o : Option DiskObject) → record_in (option_map stored_of o) ≡ object_held o
    go None = refl
    go (Some o) = refl

pub counts-at : (rest : DiskRest) (work : List ℕ) (stored : ℕ → Option Stored) (pending : List ℕ) (q : ℕ) → IsStoredIn rest work stored pending → option_map (λ (r : Stored). r.count) (stored q) ≡ counts_at rest work q
counts-at rest work stored pending q x = ap (λ (o : Option Stored). option_map (λ (r : Stored). r.count) o) (sym (x.same q)) ∙ go (map.get x.objects q) ∙ sym (counts-is rest work x.objects pending q x.disk)
  where
    go : (o : Option DiskObject) → option_map (λ (r : Stored). r.count) (option_map stored_of o) ≡ count_held o
    go None = refl
    go (Some o) = refl
