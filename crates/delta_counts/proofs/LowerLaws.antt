-- Counts on disk that are lowered.
use Rattle.std.proofs.Common.{zero, suc, ◌≡◌, ℕ, ℤ, pos, ◌+ℤ◌, ◌-◌, ◌<◌, ◌≤◌, Bool, true, false, cond, List, ◌∷◌, Option, Some, None, Result, Ok, Err, refl, sym, ◌∙◌, ap, subst, arith}
use Rattle.std.specs.Prelude.{negsuc, option_map, IsSome, unsigned_abs, ◌^◌, nat_eq, OnOk}
use Rattle.std.specs.Int.{w64, FitsUnsigned}
use Rattle.std.specs.FinMap as map
use Rattle.std.proofs.lemmas.Int.{ints}
use Rattle.std.proofs.lemmas.Grind.{common_steps}
use Rattle.long_names.specs.Names.{is_known}
use Rattle.loom_host.specs.declared.outside.Host.{Ghosts}
use Rattle.object_table.specs.Entries.{put}
use Rattle.loom_host.specs.Work.{work_of}
use Rattle.disk_objects.specs.declared.rest.DiskRest.{DiskRest}
use Rattle.disk_objects.specs.Disk.{DiskObject, Objects, IsDisk}
use Rattle.disk_objects.specs.Calls.{CanChange, IsIdle, changed_by}
use Rattle.core_view.specs.Levels.{Stored, count_in, waits}
use Rattle.work_space.specs.Blocks.{times}
use Rattle.core_view.specs.LevelSteps.{recounted, joined}
use Rattle.delta_counts.specs.At.{stored_of, IsStoredAt}
use Rattle.core_view.specs.Dead.{HasCount}
use Rattle.delta_counts.proofs.StoredLaws.{object-at, insert-same, some-here}

less : (n : ℕ) → 0 < n → pos n +ℤ negsuc 0 ≡ pos (n - 1)
less n some = omega (arith, ints)

pub minus-one : (n : ℕ) → 0 < n → changed_by n (negsuc 0) ≡ n - 1
minus-one n some = ap unsigned_abs (less n some)

fits-less : (n : ℕ) → 0 < n → n ≤ 2 ^ 62 → FitsUnsigned w64 (pos n +ℤ negsuc 0)
fits-less n some few = subst (λ (z : ℤ). FitsUnsigned w64 z) (sym (less n some)) (omega (arith, ints), omega (arith, ints))

pub add-can : {H : Type 0} (host : Ghosts H) (now : H) (rest : DiskRest) (n : ℕ) → ((stored : ℕ → Option Stored) × (pending : List ℕ) × IsStoredAt host now rest stored pending × HasCount stored pending n)
    → (objects : Objects) × (pending : List ℕ) × IsDisk rest (work_of host now) objects pending × CanChange n (negsuc 0) objects pending
add-can host now rest n x =
    let at = x.2 in
    let has = x.3 in
    let o = object-at at.objects x.0 n has.record_is at.same has.there in
    let count : o.0.count ≡ has.record_is.count = ap (λ (r : Stored). r.count) o.2 in
    let some = has.some in
    let few = has.few in
    (at.objects, x.1, at.disk, (o.0, o.1, fits-less o.0.count (omega arith) (omega arith)))

-- with one less on disk
pub record IsLessAt {H : Type 0} (host : Ghosts H) (now : H) (rest : DiskRest) (stored : ℕ → Option Stored) (pending : List ℕ) (n k : ℕ) (known : Bool) : Type 0 where
  pub at : IsStoredAt host now rest (put stored n (option_map (recounted (count_in (stored n) - 1)) (stored n))) pending
  pub count : waits None (option_map (recounted (count_in (stored n) - 1)) (stored n)) known ≡ cond known false (nat_eq k 0)
  pub idle : times n pending ≡ 0
  pub idle_there : IsIdle n at.objects pending

recounted-is : (o : DiskObject) (stored : ℕ → Option Stored) (n k : ℕ) (r : Stored) → stored n ≡ Some r → stored_of o ≡ r → k ≡ r.count - 1 → Some (stored_of (record { raw = o.raw; count = k })) ≡ option_map (recounted (count_in (stored n) - 1)) (stored n)
recounted-is o stored n k r there is count =
    ap Some (λ i. record { object = (is i).object; count = count i }) ∙ sym (ap (λ (x : Option Stored). option_map (recounted (count_in x - 1)) x) there)

pub less-at : {H : Type 0} (host : Ghosts H) (was now : H) (before rest : DiskRest) (stored : ℕ → Option Stored) (pending : List ℕ) (n k : ℕ) (x : IsStoredAt host was before stored pending) → (has : HasCount stored pending n)
    → ((o : DiskObject) → map.get x.objects n ≡ Some o → (k ≡ changed_by o.count (negsuc 0)) × IsDisk rest (work_of host now) (map.insert x.objects n (record { raw = o.raw; count = k })) pending)
    → IsLessAt host now rest stored pending n k (is_known n)
less-at host was now before rest stored pending n k x has f = record {
  at = record { objects = new; disk = now_disk; same = λ q. insert-same x.objects stored n (record { raw = o.raw; count = k }) x.same q ∙ ap (λ r. put stored n r q) is };
  count = ap (λ r. waits None r (is_known n)) (sym is);
  idle = has.idle;
  idle_there = (here, has.idle);
}
  where
    found : (o : DiskObject) × (map.get x.objects n ≡ Some o) × (stored_of o ≡ has.record_is)
    found = object-at x.objects stored n has.record_is x.same has.there

    o : DiskObject
    o = found.0

    new : Objects
    new = map.insert x.objects n (record { raw = o.raw; count = k })

    now_disk : IsDisk rest (work_of host now) new pending
    now_disk = (f o found.1).1

    count : k ≡ has.record_is.count - 1
    count = let a = (f o found.1).0 in let b : o.count ≡ has.record_is.count = ap (λ (r : Stored). r.count) found.2 in let c = has.some in let d = minus-one o.count (omega arith) in omega arith

    is : Some (stored_of (record { raw = o.raw; count = k })) ≡ option_map (recounted (count_in (stored n) - 1)) (stored n)
    is = recounted-is o stored n k has.record_is has.there found.2 count

    here : IsSome (map.get new n)
    here = some-here x.objects n (record { raw = o.raw; count = k })

-- it is pending then, or it needn't be
pub not-joined : (r : Option Stored) (n : ℕ) (pending : List ℕ) (b : Bool) → waits None r (is_known n) ≡ b → b ≡ false → joined None r n pending ≡ pending
not-joined r n pending b e f = ap (λ c. cond c (n ∷ pending) pending) (e ∙ f)

pub is-joined : (r : Option Stored) (n : ℕ) (pending : List ℕ) (b : Bool) → waits None r (is_known n) ≡ b → b ≡ true → joined None r n pending ≡ n ∷ pending
is-joined r n pending b e f = ap (λ c. cond c (n ∷ pending) pending) (e ∙ f)

pub still-at : {H : Type 0} (host : Ghosts H) (now : H) (rest : DiskRest) (stored : ℕ → Option Stored) (pending : List ℕ) (n k : ℕ) → IsLessAt host now rest stored pending n k (is_known n) → (cond (is_known n) false (nat_eq k 0)) ≡ false
    → IsStoredAt host now rest (put stored n (option_map (recounted (count_in (stored n) - 1)) (stored n))) (joined None (option_map (recounted (count_in (stored n) - 1)) (stored n)) n pending)
still-at host now rest stored pending n k x e = subst (λ (xs : List ℕ). IsStoredAt host now rest (put stored n (option_map (recounted (count_in (stored n) - 1)) (stored n))) xs) (sym (not-joined (option_map (recounted (count_in (stored n) - 1)) (stored n)) n pending (cond (is_known n) false (nat_eq k 0)) x.count e)) x.at

pub joins-at : {H : Type 0} (host : Ghosts H) (mid now : H) (rest after : DiskRest) (stored : ℕ → Option Stored) (pending : List ℕ) (n k : ℕ) (x : IsLessAt host mid rest stored pending n k (is_known n)) → (cond (is_known n) false (nat_eq k 0)) ≡ true
    → IsDisk after (work_of host now) x.at.objects (n ∷ pending)
    → IsStoredAt host now after (put stored n (option_map (recounted (count_in (stored n) - 1)) (stored n))) (joined None (option_map (recounted (count_in (stored n) - 1)) (stored n)) n pending)
joins-at host mid now rest after stored pending n k x e disk = subst (λ (xs : List ℕ). IsStoredAt host now after (put stored n (option_map (recounted (count_in (stored n) - 1)) (stored n))) xs) (sym (is-joined (option_map (recounted (count_in (stored n) - 1)) (stored n)) n pending (cond (is_known n) false (nat_eq k 0)) x.count e)) (record { objects = x.at.objects; disk = disk; same = x.at.same })

pub positive : (known : Bool) (k : ℕ) → 0 < k → (cond known false (nat_eq k 0)) ≡ false
positive true k some = refl
positive false k some = grind (arith, common_steps, some)

pub is-known : (known : Bool) (k : ℕ) → known ≡ true → (cond known false (nat_eq k 0)) ≡ false
is-known known k e = ap (λ b. cond b false (nat_eq k 0)) e

pub is-none : (known : Bool) (k : ℕ) → known ≡ false → k ≤ 0 → (cond known false (nat_eq k 0)) ≡ true
is-none known zero e none = ap (λ b. cond b false (nat_eq 0 0)) e
is-none known (suc k) e none = absurd (omega arith)

pub ok-map : {A E : Type 0} (r : Result A E) {P Q : Type 0} → (P → Q) → OnOk r P → OnOk r Q
ok-map (Ok a) f x = f x
ok-map (Err e) f x = x

pub ok-then : {A E : Type 0} (r : Result A E) {P Q R : Type 0} → ((P → Q) → R) → (P → OnOk r Q) → OnOk r R
ok-then (Ok a) f x = f x
ok-then (Err e) f x = tt

pub ok-of : {A E : Type 0} (r : Result A E) {P : Type 0} → P → OnOk r P
ok-of (Ok a) x = x
ok-of (Err e) x = tt
