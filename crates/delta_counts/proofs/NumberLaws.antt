-- A disk holds as many names as have a record.
use Rattle.std.proofs.Common.{zero, suc, ◌≡◌, ℕ, ◌+◌, ◌-◌, ◌≤◌, Bool, true, false, cond, List, Option, Some, None, is_some, refl, sym, ◌∙◌, ap, arith}
use Rattle.std.specs.Prelude.{option_map}
use Rattle.std.specs.Ordering.{nat_cmp}
use Rattle.std.specs.Cmp.{nat_cmp_total}
use Rattle.std.specs.FinMap as map
use Rattle.std.specs.FinMap.{nat_cmp-IsAntisymmetric}
use Rattle.long_names.specs.declared.value.Value.{Value}
use Rattle.long_names.specs.Heap.{Has, object_count}
use Rattle.object_table.specs.Entries.{sum_below}
use Rattle.core_view.specs.Purge.{fresh_of}
use Rattle.core_view.proofs.Sums.{sum-same}
use Rattle.disk_objects.specs.declared.rest.DiskRest.{DiskRest}
use Rattle.disk_objects.specs.Disk.{DiskObject, Objects, disk_held}
use Rattle.disk_objects.proofs.KeyLaws.{disk-len}
use Rattle.disk_objects.proofs.StoredLaws.{remove-at, remove-there}
use Rattle.core_view.specs.Levels.{Stored, Levels, heap_of}
use Rattle.core_view.specs.Counted.{IsSound}
use Rattle.core_view.specs.Numbers.{one_stored, stored_count}
use Rattle.core_view.proofs.DeadLaws.{held-there}
use Rattle.core_view.proofs.NumberLaws.{held-number}
use Rattle.delta_counts.specs.At.{stored_of, IsStoredIn}

-- how many numbers below n are keys
keys_below : ℕ → Objects → ℕ
keys_below n m = sum_below n (λ k. cond (is_some (map.get m k)) 1 0)

remove-above : (n : ℕ) (m : Objects) → ((k : ℕ) → suc n ≤ k → map.get m k ≡ None) → (k : ℕ) → n ≤ k → map.get (map.remove m n) k ≡ None
remove-above n m none k low = go (map.get (map.remove m n) k) refl
  where
    go : (o : Option DiskObject) → map.get (map.remove m n) k ≡ o → map.get (map.remove m n) k ≡ None
    go None e = e
    go (Some o) e =
        let away : k ≡ n → ⊥ = λ same. let z = remove-at m n k same in cc in
        let next : suc n ≤ k = omega arith in
        let z = none k next in
        let y = remove-there m n k away in
        absurd (cc)

len-step : (n : ℕ) (m : Objects) → map.len (map.remove m n) ≡ keys_below n m → map.len m ≡ keys_below (suc n) m
unfolding keys_below
len-step n m rest = go (map.get m n) refl
  where
    count : (b : Bool) → map.contains_key m n ≡ b → map.len (map.remove m n) ≡ cond b (map.len m - 1) (map.len m)
    count b e = map.len-remove nat_cmp_total m n ∙ ap (λ (x : Bool). cond x (map.len m - 1) (map.len m)) e

    go : (o : Option DiskObject) → map.get m n ≡ o → map.len m ≡ sum_below n (λ k. cond (is_some (map.get m k)) 1 0) + cond (is_some (map.get m n)) 1 0
    go None e =
        let a = rest in
        let b = count false (ap is_some e) in
        let d = ap (λ (o : Option DiskObject). cond {A = ℕ} (is_some o) 1 0) e in
        omega arith
    go (Some o) e = some (map.len m) refl
      where
        some : (k : ℕ) → map.len m ≡ k → map.len m ≡ sum_below n (λ k. cond (is_some (map.get m k)) 1 0) + cond (is_some (map.get m n)) 1 0
        some zero f =
            let same : m ≡ map.empty = map.empty_of_len m f in
            let none_at : map.get m n ≡ None = ap (λ (x : Objects). map.get x n) same ∙ map.get-empty nat_cmp n in
            absurd (let y = e in cc)
        some (suc k) f =
            let a = rest in
            let b = count true (ap is_some e) in
            let d = ap (λ (o : Option DiskObject). cond {A = ℕ} (is_some o) 1 0) e in
            omega arith

keys-removed : (n : ℕ) (m : Objects) → keys_below n (map.remove m n) ≡ keys_below n m
unfolding keys_below
keys-removed n m = sum-same n (λ k. cond (is_some (map.get m k)) 1 0) (λ k. cond (is_some (map.get (map.remove m n) k)) 1 0) (λ k low. ap (λ (o : Option DiskObject). cond {A = ℕ} (is_some o) 1 0) (remove-there m n k (λ same. omega arith)))

-- a map whose keys are below a number has as many as the numbers below it that are keys
len-sum : (n : ℕ) (m : Objects) → ((k : ℕ) → n ≤ k → map.get m k ≡ None) → map.len m ≡ keys_below n m
unfolding keys_below
len-sum zero m none =
    let same : m ≡ map.empty = map.same_map nat_cmp_total nat_cmp-IsAntisymmetric m map.empty (λ k. none k (omega arith) ∙ sym (map.get-empty nat_cmp k)) in
    ap map.len same ∙ map.len-empty nat_cmp DiskObject
len-sum (suc n) m none = len-step n m (len-sum n (map.remove m n) (remove-above n m none) ∙ keys-removed n m)

-- no record has a name at the next one or above
none-above : (t : Levels) (owed : List Value) (q : ℕ) → IsSound t owed → t.next ≤ q → t.stored q ≡ None
none-above t owed q x high = go (t.stored q) refl
  where
    has : (r : Stored) → t.stored q ≡ Some r → (o : Option ℕ) → t.core.find q ≡ o → Has (heap_of t) q
    has r e None f = ap is_some (held-there t q r f e)
    has r e (Some s) f = x.counted.entered q s f

    go : (o : Option Stored) → t.stored q ≡ o → t.stored q ≡ None
    go None e = e
    go (Some r) e = let low = x.heap.below q (has r e (t.core.find q) refl) in absurd (omega arith)

same-some : (o : Option DiskObject) → is_some (option_map stored_of o) ≡ is_some o
same-some None = refl
same-some (Some o) = refl

get-none : (o : Option DiskObject) → option_map stored_of o ≡ None → o ≡ None
get-none None e = refl
get-none (Some o) e = cc

stored-held : (rest : DiskRest) (work : List ℕ) (t : Levels) (owed : List Value) → IsStoredIn rest work t.stored t.pending → IsSound t owed → stored_count t ≡ disk_held rest
unfolding stored_count keys_below
stored-held rest work t owed x sound =
    sum-same t.next (λ q. cond {A = ℕ} (is_some (map.get x.objects q)) 1 0) (λ q. one_stored (t.stored q))
    (λ q low. ap (λ (b : Bool). cond {A = ℕ} b 1 0) (ap is_some (sym (x.same q)) ∙ same-some (map.get x.objects q)))
    ∙ sym (len-sum t.next x.objects (λ k high. get-none (map.get x.objects k) (x.same k ∙ none-above t owed k sound high)))
    ∙ disk-len rest work x.objects t.pending x.disk

pub held-on_disk : (rest : DiskRest) (work : List ℕ) (t : Levels) (owed : List Value) → IsStoredIn rest work t.stored t.pending → IsSound t owed → object_count (heap_of t) ≡ disk_held rest + fresh_of t.core
held-on_disk rest work t owed x sound = held-number t owed sound ∙ ap (λ (k : ℕ). k + fresh_of t.core) (stored-held rest work t owed x sound)
