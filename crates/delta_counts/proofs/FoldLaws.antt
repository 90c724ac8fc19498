-- A change that is folded.
use Rattle.std.proofs.Common.{◌≡◌, ℕ, ℤ, pos, ◌+ℤ◌, List, Some, refl, sym, ◌∙◌, ap, subst, arith}
use Rattle.std.specs.Prelude.{negsuc, option_map, unsigned_abs}
use Rattle.std.specs.Int.{w64, FitsUnsigned}
use Rattle.std.specs.FinMap as map
use Rattle.std.proofs.lemmas.Int.{ints}
use Rattle.loom_host.specs.declared.outside.Host.{Ghosts}
use Rattle.object_table.specs.declared.entry.Entry.{Entry}
use Rattle.object_table.specs.Entries.{put}
use Rattle.object_table.specs.Table.{entry_at}
use Rattle.loom_host.specs.Work.{work_of}
use Rattle.disk_objects.specs.declared.rest.DiskRest.{DiskRest}
use Rattle.disk_objects.specs.Disk.{DiskObject, Objects, IsDisk}
use Rattle.disk_objects.specs.Calls.{CanChange, changed_by}
use Rattle.core_segment.specs.Chunks.{Chunk}
use Rattle.core_view.specs.Core.{Core}
use Rattle.core_view.specs.Counts.{change_by, change_of}
use Rattle.resident_table.specs.declared.Parts2.{Parts2}
use Rattle.core_view.specs.Levels.{Stored, Levels, count_in, sum_of}
use Rattle.core_view.specs.LevelSteps.{changed_at, recounted, to_count}
use Rattle.delta_counts.specs.Parts.{core_with}
use Rattle.delta_counts.specs.At.{stored_of, IsAt, CanFold, IsFolded}
use Rattle.delta_counts.proofs.StoredLaws.{object-at, insert-same}
use Rattle.delta_counts.proofs.AtLaws.{entry-is}

pub fold-can : {H : Type 0} (host : Ghosts H) (p : Parts2) (now : H) (rest : DiskRest) (s : ℕ) (x : ℤ) → x ≡ (entry_at p.table s).change → ((chunks : ℕ → Chunk) × (t : Levels) × IsAt host chunks p now rest t × CanFold s t)
    → (objects : Objects) × (pending : List ℕ) × IsDisk rest (work_of host now) objects pending × CanChange (entry_at p.table s).name x objects pending
fold-can host p now rest s x is y =
    let at = y.2 in
    let can = y.3 in
    let e = entry-is host y.0 p now rest y.1 s at in
    let o = object-at at.disk.objects y.1.stored (y.1.core.entries s).name can.stored at.disk.same can.there in
    let count : o.0.count ≡ can.stored.count = ap (λ (r : Stored). r.count) o.2 in
    let change : x ≡ (y.1.core.entries s).change = is ∙ ap (λ (z : Entry). z.change) (sym e) in (
      at.disk.objects,
      y.1.pending,
      at.disk.disk,
      (
        o.0,
        subst (λ n. map.get at.disk.objects n ≡ Some o.0) (ap (λ (z : Entry). z.name) e) o.1,
        subst (λ z. FitsUnsigned w64 (pos o.0.count +ℤ z)) (sym change) (subst (λ k. FitsUnsigned w64 (pos k +ℤ (y.1.core.entries s).change)) (sym count) can.fits),
      ),
    )

abs-is : (z : ℤ) → FitsUnsigned w64 z → (pos (unsigned_abs z) ≡ z) × (to_count z ≡ unsigned_abs z)
abs-is (pos n) f = (refl, refl)
abs-is (negsuc n) f = let low = f.0 in absurd (omega (arith, ints))

pub fold-is : {H : Type 0} (host : Ghosts H) (chunks : ℕ → Chunk) (p new : Parts2) (was now : H) (before rest : DiskRest) (t : Levels) (s k : ℕ) (x : ℤ) → x ≡ (entry_at p.table s).change → (at : IsAt host chunks p was before t) → CanFold s t
    → core_with chunks new ≡ changed_at (core_with chunks p) s (pos 0)
    → ((o : DiskObject) → map.get at.disk.objects (entry_at p.table s).name ≡ Some o → (k ≡ changed_by o.count x) × IsDisk rest (work_of host now) (map.insert at.disk.objects (entry_at p.table s).name (record { raw = o.raw; count = k })) t.pending)
    → IsFolded host chunks new now rest t s k
fold-is host chunks p new was now before rest t s k x is at can core f = record {
  at = record {
    core = core ∙ ap (λ (c : Core). changed_at c s (pos 0)) at.core;
    disk = record {
      objects = map.insert at.disk.objects n (record { raw = o.raw; count = k });
      disk = subst (λ m. IsDisk rest (work_of host now) (map.insert at.disk.objects m (record { raw = o.raw; count = k })) t.pending) (sym name) given.1;
      same = λ q. insert-same at.disk.objects t.stored n (record { raw = o.raw; count = k }) at.disk.same q ∙ ap (λ r. put t.stored n r q) new_is;
    };
  };
  sum = sum;
}
  where
    n : ℕ
    n = (t.core.entries s).name

    name : n ≡ (entry_at p.table s).name
    name = ap (λ (z : Entry). z.name) (entry-is host chunks p was before t s at)

    change : x ≡ (t.core.entries s).change
    change = is ∙ ap (λ (z : Entry). z.change) (sym (entry-is host chunks p was before t s at))

    found : (o : DiskObject) × (map.get at.disk.objects n ≡ Some o) × (stored_of o ≡ can.stored)
    found = object-at at.disk.objects t.stored n can.stored at.disk.same can.there

    o : DiskObject
    o = found.0

    given : (k ≡ changed_by o.count x) × IsDisk rest (work_of host now) (map.insert at.disk.objects (entry_at p.table s).name (record { raw = o.raw; count = k })) t.pending
    given = f o (subst (λ m. map.get at.disk.objects m ≡ Some o) name found.1)

    count : o.count ≡ can.stored.count
    count = ap (λ (r : Stored). r.count) found.2

    sum_is : sum_of t n ≡ pos o.count +ℤ x
    sum_is =
        ap (λ r. pos (count_in r) +ℤ change_of t.core n) can.there
        ∙ ap (λ z. pos can.stored.count +ℤ z) (ap (λ q. change_by t.core.entries q) can.found ∙ sym change)
        ∙ ap (λ m. pos m +ℤ x) (sym count)

    fits : FitsUnsigned w64 (pos o.count +ℤ x)
    fits = subst (λ z. FitsUnsigned w64 (pos o.count +ℤ z)) (sym change) (subst (λ m. FitsUnsigned w64 (pos m +ℤ (t.core.entries s).change)) (sym count) can.fits)

    abs : (pos (unsigned_abs (pos o.count +ℤ x)) ≡ pos o.count +ℤ x) × (to_count (pos o.count +ℤ x) ≡ unsigned_abs (pos o.count +ℤ x))
    abs = abs-is (pos o.count +ℤ x) fits

    sum : pos k ≡ sum_of t n
    sum = ap (λ m. pos m) given.0 ∙ abs.0 ∙ sym sum_is

    k_is : k ≡ to_count (sum_of t n)
    k_is = given.0 ∙ sym abs.1 ∙ ap to_count (sym sum_is)

    new_is : Some (stored_of (record { raw = o.raw; count = k })) ≡ option_map (recounted (to_count (sum_of t n))) (t.stored n)
    new_is = ap Some (λ i. record { object = (found.2 i).object; count = k_is i }) ∙ sym (ap (λ r. option_map (recounted (to_count (sum_of t n))) r) can.there)

pub can-entry : {H : Type 0} (host : Ghosts H) (p : Parts2) (now : H) (rest : DiskRest) (s : ℕ) (e : Entry) → e ≡ entry_at p.table s → ((chunks : ℕ → Chunk) × (t : Levels) × IsAt host chunks p now rest t × CanFold s t)
    → (objects : Objects) × (pending : List ℕ) × IsDisk rest (work_of host now) objects pending × CanChange e.name e.change objects pending
can-entry {H} host p now rest s e is x = subst (λ (z : Entry). (objects : Objects) × (pending : List ℕ) × IsDisk rest (work_of host now) objects pending × CanChange z.name z.change objects pending) (sym is) (fold-can host p now rest s (entry_at p.table s).change refl x)

pub is-entry : {H : Type 0} (host : Ghosts H) (chunks : ℕ → Chunk) (p new : Parts2) (was now : H) (before rest : DiskRest) (t : Levels) (s k : ℕ) (e : Entry) → e ≡ entry_at p.table s → (at : IsAt host chunks p was before t) → CanFold s t
    → core_with chunks new ≡ changed_at (core_with chunks p) s (pos 0)
    → ((o : DiskObject) → map.get at.disk.objects e.name ≡ Some o → (k ≡ changed_by o.count e.change) × IsDisk rest (work_of host now) (map.insert at.disk.objects e.name (record { raw = o.raw; count = k })) t.pending)
    → IsFolded host chunks new now rest t s k
is-entry {H} host chunks p new was now before rest t s k e is at can core f = fold-is host chunks p new was now before rest t s k (entry_at p.table s).change refl at can core
    (subst (λ (z : Entry). (o : DiskObject) → map.get at.disk.objects z.name ≡ Some o → (k ≡ changed_by o.count z.change) × IsDisk rest (work_of host now) (map.insert at.disk.objects z.name (record { raw = o.raw; count = k })) t.pending) is f)
