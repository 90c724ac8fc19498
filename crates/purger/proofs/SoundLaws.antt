-- Sound levels that are reached where objects leave a core, and what follows of the held heap and of how many objects there are.
use Rattle.std.proofs.Common.{◌≡◌, ℕ, ◌+◌, Option, Some, None, [], List, IsTrue, refl, sym, ◌∙◌, ap, ap₂, subst}
use Rattle.std.proofs.Math.Path.{fun_ext}
use Rattle.std.specs.FinMap as map
use Rattle.std.specs.Prelude.{option_map}
use Rattle.long_names.specs.declared.object.Object.{Object}
use Rattle.long_names.specs.Heap.{Heap, object_count}
use Rattle.loom_host.specs.declared.outside.Host.{Ghosts}
use Rattle.loom_host.specs.declared.outside.Role.TheVariants.{Work}
use Rattle.loom_host.specs.Work.{work_of, IsWorkRead}
use Rattle.loom_host.proofs.WorkLaws.{work-same}
use Rattle.object_record.specs.Raw.{RawRecord}
use Rattle.object_record.specs.Objects.{object_in}
use Rattle.object_table.specs.Entries.{put, place_of}
use Rattle.disk_objects.specs.declared.rest.DiskRest.{DiskRest}
use Rattle.disk_objects.specs.Disk.{DiskObject, IsDisk, disk_held, object_of}
use Rattle.disk_objects.specs.Calls.{HoldsObjects}
use Rattle.disk_objects.specs.Function.{disk_of}
use Rattle.core_segment.specs.declared.segment.Segment.{Segment}
use Rattle.core_segment.specs.Segment.{chunk_at}
use Rattle.core_view.specs.Core.{Core, with_entry}
use Rattle.core_view.specs.Held.{Disk, held, object_at}
use Rattle.core_view.specs.Kept.{IsCore, IsBacked, Keeps, KeepsOver, Stays}
use Rattle.core_view.specs.Purge.{fresh_of}
use Rattle.core_view.specs.Steps.{written}
use Rattle.leaf_lambda.specs.declared.parts.Parts.{Parts}
use Rattle.leaf_lambda.specs.Parts.{core_of, IsParts}
use Rattle.core_view.specs.Levels.{Stored, Levels, count_in, records_of, heap_of}
use Rattle.core_view.specs.Counted.{IsSound}
use Rattle.core_view.specs.LevelSteps.{with_core, written_at, IsUncounted}
use Rattle.core_view.proofs.CameLaws.{came-sound}
use Rattle.core_view.proofs.LevelLaws.{heap-same}
use Rattle.core_view.proofs.StoreLaws.{written-sound}
use Rattle.delta_counts.specs.Parts.{core_with, IsNames}
use Rattle.delta_counts.specs.At.{stored_of, IsStoredIn, IsStoredAt, IsReached}
use Rattle.delta_counts.proofs.NumberLaws.{held-on_disk}
use Rattle.delta_counts.proofs.StoredLaws.{insert-same, records-at}
use Rattle.purger.specs.Counts.{StandsFor, HasSound, KeepsCounts, KeepsSound, stored_as}
use Rattle.purger.specs.Marks.{IsUnmarking}
use Rattle.purger.proofs.NamingLaws.{counts-free, unmarking-counts}

-- ---- the parts and their levels

pub core-is : (p : Parts) → core_with (chunk_at p.segment) p.names ≡ core_of p
unfolding core_with core_of
core-is p = refl

pub core-over : (p q : Parts) → q.segment ≡ p.segment → core_with (chunk_at p.segment) q.names ≡ core_of q
core-over p q same = ap (λ (g : Segment). core_with (chunk_at g) q.names) (sym same) ∙ core-is q

pub core-at : {H : Type 0} (host : Ghosts H) (p : Parts) (now : H) (rest : DiskRest) (t : Levels) → StandsFor host p now rest t → core_of p ≡ t.core
core-at host p now rest t at = sym (core-is p) ∙ at.core

pub parts-names : (p : Parts) → IsParts p → IsNames p.names
parts-names p parts = (chunk_at p.segment, subst (λ (c : Core). IsCore c) (sym (core-is p)) parts.core)

-- the records of levels are the disk as a function
pub disk-at : {H : Type 0} (host : Ghosts H) (p : Parts) (now : H) (rest : DiskRest) (t : Levels) → StandsFor host p now rest t → records_of t ≡ disk_of host now rest
disk-at host p now rest t at = fun_ext (λ q. records-at rest (work_of host now) t.stored t.pending q at.disk)

pub sound-backed : {H : Type 0} (host : Ghosts H) (p : Parts) (now : H) (rest : DiskRest) (t : Levels) → StandsFor host p now rest t → IsSound t [] → IsBacked (core_of p) (disk_of host now rest)
sound-backed host p now rest t at x = subst (λ (d : Disk). IsBacked (core_of p) d) (disk-at host p now rest t at)
    (subst (λ (c : Core). IsBacked c (records_of t)) (sym (core-at host p now rest t at)) x.backed)

pub has-backed : {H : Type 0} (host : Ghosts H) (p : Parts) (now : H) (rest : DiskRest) → HasSound host p now rest → IsTrue (host.tells Work) → IsBacked (core_of p) (disk_of host now rest)
has-backed host p now rest has told = let x = has told in sound-backed host p now rest x.0 x.1 x.2

pub has-objects : {H : Type 0} (host : Ghosts H) (p : Parts) (now : H) (rest : DiskRest) → HasSound host p now rest → HoldsObjects host now rest
has-objects host p now rest has told = let x = has told in (x.1.disk.objects, x.0.pending, x.1.disk.disk, tt)

-- ---- what is reached

-- a step on the core alone
pub core-sound : {H : Type 0} (host : Ghosts H) (p q : Parts) (now : H) (rest : DiskRest) → IsCore (core_of q) → Stays (core_of p) (core_of q) → IsUncounted (core_of p) (core_of q) → KeepsSound host p now rest q now rest
core-sound host p q now rest core stays free t at x = record {
  levels = with_core t (core_of q);
  at = record { core = core-is q; disk = at.disk };
  sound = came-sound t (core_of q) [] x core keeps (subst (λ (c : Core). IsUncounted c (core_of q)) is free);
  heap = heap-same t (with_core t (core_of q)) keeps.held refl;
}
  where
    is : core_of p ≡ t.core
    is = core-at host p now rest t at

    keeps : Keeps (records_of t) t.core (core_of q)
    keeps = subst (λ (c : Core). Keeps (records_of t) c (core_of q)) is (stays (records_of t) (subst (λ (c : Core). IsBacked c (records_of t)) (sym is) x.backed))

-- all marks go
pub unmarked-sound : {H : Type 0} (host : Ghosts H) (p q : Parts) (now : H) (rest : DiskRest) → IsParts q → Stays (core_of p) (core_of q) → IsUnmarking (core_of p) (core_of q) → KeepsSound host p now rest q now rest
unmarked-sound host p q now rest parts stays step = core-sound host p q now rest parts.core stays (counts-free (core_of p) (core_of q) (unmarking-counts (core_of p) (core_of q) step))

-- no name gains or loses its entry
pub quiet-keeps : {H : Type 0} (host : Ghosts H) (p q : Parts) (now : H) (rest : DiskRest) → IsParts q → Stays (core_of p) (core_of q) → KeepsCounts (core_of p) (core_of q) → KeepsSound host p now rest q now rest
quiet-keeps host p q now rest parts stays same = core-sound host p q now rest parts.core stays (counts-free (core_of p) (core_of q) same)

-- ---- what follows

pub sound-over : {H : Type 0} (host : Ghosts H) (p q : Parts) (was now : H) (before rest : DiskRest) → KeepsSound host p was before q now rest → (t : Levels) → StandsFor host p was before t → IsSound t []
    → KeepsOver (core_of p) (disk_of host was before) (core_of q) (disk_of host now rest)
sound-over host p q was now before rest f t at x =
    let r = f t at x in
    record {
      backed = sound-backed host q now rest r.levels r.at r.sound;
      held = ap₂ (λ (c : Core) (d : Disk). held c d) (core-at host q now rest r.levels r.at) (sym (disk-at host q now rest r.levels r.at))
          ∙ ap (λ (h : Heap). h.at) r.heap
          ∙ sym (ap₂ (λ (c : Core) (d : Disk). held c d) (core-at host p was before t at) (sym (disk-at host p was before t at)));
    }

pub sound-number : {H : Type 0} (host : Ghosts H) (p q : Parts) (was now : H) (before rest : DiskRest) → KeepsSound host p was before q now rest → (t : Levels) → StandsFor host p was before t → IsSound t []
    → disk_held rest + fresh_of (core_of q) ≡ disk_held before + fresh_of (core_of p)
sound-number host p q was now before rest f t at x =
    let r = f t at x in
    let a = held-on_disk rest (work_of host now) r.levels [] r.at.disk r.sound in
    let b = held-on_disk before (work_of host was) t [] at.disk x in
    let same = ap object_count r.heap in
    let c = ap fresh_of (core-at host q now rest r.levels r.at) in
    let d = ap fresh_of (core-at host p was before t at) in
    ap (λ (n : ℕ). disk_held rest + n) c ∙ sym a ∙ same ∙ b ∙ ap (λ (n : ℕ). disk_held before + n) (sym d)

pub has-over : {H : Type 0} (host : Ghosts H) (p q : Parts) (was now : H) (before rest : DiskRest) → HasSound host p was before → IsTrue (host.tells Work) → KeepsSound host p was before q now rest
    → KeepsOver (core_of p) (disk_of host was before) (core_of q) (disk_of host now rest)
has-over host p q was now before rest has told f = let x = has told in sound-over host p q was now before rest f x.0 x.1 x.2

pub has-number : {H : Type 0} (host : Ghosts H) (p q : Parts) (was now : H) (before rest : DiskRest) → HasSound host p was before → IsTrue (host.tells Work) → KeepsSound host p was before q now rest
    → disk_held rest + fresh_of (core_of q) ≡ disk_held before + fresh_of (core_of p)
has-number host p q was now before rest has told f = let x = has told in sound-number host p q was now before rest f x.0 x.1 x.2

-- ---- an object is written as its record

-- a disk that was only read
pub stored-read : {H : Type 0} (host : Ghosts H) (was now : H) (before rest : DiskRest) (stored : ℕ → Option Stored) (pending : List ℕ) → rest ≡ before → IsWorkRead host was now → IsStoredAt host was before stored pending → IsStoredAt host now rest stored pending
stored-read host was now before rest stored pending same read x = subst (λ (r : DiskRest). IsStoredIn r (work_of host now) stored pending) (sym same)
    (subst (λ (w : List ℕ). IsStoredIn before w stored pending) (sym (work-same host was now read)) x)

pub holds-read : {H : Type 0} (host : Ghosts H) (was now : H) (before rest : DiskRest) → rest ≡ before → IsWorkRead host was now → HoldsObjects host was before → HoldsObjects host now rest
holds-read host was now before rest same read f told =
    let x = f told in
    (x.0, x.1, subst (λ (r : DiskRest). IsDisk r (work_of host now) x.0 x.1) (sym same) (subst (λ (w : List ℕ). IsDisk before w x.0 x.1) (sym (work-same host was now read)) x.2), tt)

-- the count that a disk has of a name
pub none-count : (o : Option DiskObject) (s : Option Stored) (x : Option ℕ) → option_map stored_of o ≡ s → x ≡ None → x ≡ option_map (λ (d : DiskObject). d.count) o → 0 ≡ count_in s
none-count None s x same e is = ap count_in same
none-count (Some d) s x same e is = absurd (let z : None ≡ Some d.count = sym e ∙ is in cc)

pub some-count : (o : Option DiskObject) (s : Option Stored) (x : Option ℕ) (k : ℕ) → option_map stored_of o ≡ s → x ≡ Some k → x ≡ option_map (λ (d : DiskObject). d.count) o → k ≡ count_in s
some-count None s x k same e is = absurd (let z : Some k ≡ None = sym e ∙ is in cc)
some-count (Some d) s x k same e is = (let z : Some k ≡ Some d.count = sym e ∙ is in let y : k ≡ d.count = cc in y) ∙ ap count_in same

-- a record that is put with the count that its name has
pub put-stored : {H : Type 0} (host : Ghosts H) (was now : H) (before rest : DiskRest) (stored : ℕ → Option Stored) (pending : List ℕ) (raw : RawRecord) (k : ℕ) (x : IsStoredAt host was before stored pending) → k ≡ count_in (stored raw.name)
    → IsDisk rest (work_of host now) (map.insert x.objects raw.name (object_of raw k)) pending
    → IsStoredAt host now rest (put stored raw.name (Some (stored_as (object_in raw) (count_in (stored raw.name))))) pending
put-stored host was now before rest stored pending raw k x e disk = record {
  objects = map.insert x.objects raw.name (object_of raw k);
  disk = disk;
  same = λ q. insert-same x.objects stored raw.name (object_of raw k) x.same q ∙ ap (λ (n : ℕ). put stored raw.name (Some (stored_as (object_in raw) n)) q) e;
}

-- the object of s, whose body is at a, is written so
pub written-reached : {H : Type 0} (host : Ghosts H) (p q : Parts) (was now : H) (before rest : DiskRest) (t : Levels) (s a : ℕ) (raw : RawRecord) → StandsFor host p was before t → IsSound t [] → place_of ((core_of p).entries s).state ≡ Some a
    → object_in raw ≡ object_at (core_of p) (disk_of host was before) ((core_of p).entries s) a → raw.name ≡ ((core_of p).entries s).name
    → core_of q ≡ with_entry (core_of p) s (written ((core_of p).entries s))
    → IsStoredAt host now rest (put t.stored raw.name (Some (stored_as (object_in raw) (count_in (t.stored raw.name))))) t.pending
    → IsReached host (chunk_at q.segment) q.names now rest t []
written-reached host p q was now before rest t s a raw at x place object name core disk = record {
  levels = written_at t s a;
  at = record {
    core = core-is q ∙ core ∙ ap (λ (c : Core). with_entry c s (written (c.entries s))) is;
    disk = subst (λ (f : ℕ → Option Stored). IsStoredAt host now rest f t.pending) same disk;
  };
  sound = both.0;
  heap = both.1;
}
  where
    is : core_of p ≡ t.core
    is = core-at host p was before t at

    both : IsSound (written_at t s a) [] × (heap_of (written_at t s a) ≡ heap_of t)
    both = written-sound t s a [] x (ap (λ (c : Core). place_of (c.entries s).state) (sym is) ∙ place)

    same : put t.stored raw.name (Some (stored_as (object_in raw) (count_in (t.stored raw.name)))) ≡ (written_at t s a).stored
    same = ap₂ (λ (n : ℕ) (o : Object). put t.stored n (Some (stored_as o (count_in (t.stored n))))) (name ∙ ap (λ (c : Core). (c.entries s).name) is)
        (object ∙ ap₂ (λ (c : Core) (d : Disk). object_at c d (c.entries s) a) is (sym (disk-at host p was before t at)))
