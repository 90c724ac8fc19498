-- The entry of an idle leaf is given up.
use Rattle.std.proofs.Common.{◌≡◌, ◌≢◌, ◌⊎◌, inl, inr, ℕ, pos, ◌+ℤ◌, ◌+◌, ◌*◌, ◌-◌, ◌<◌, Bool, true, false, cond, eqb, [], ◌∷◌, Option, Some, None, is_some, refl, sym, ◌∙◌, ap, subst, arith, ⊎_elim}
use Rattle.std.specs.Prelude.{IsSome, option_map, nat_eq}
use Rattle.std.specs.Int.{w64, FitsUnsigned}
use Rattle.core_view.specs.Dead.{NoneIdle, outside_by}
use Rattle.delta_counts.proofs.StoredLaws.{object-at}
use Rattle.std.proofs.lemmas.Grind.{common_steps}
use Rattle.std.specs.Prelude.{◌/◌, ◌%◌}
use Rattle.long_names.specs.Names.{is_known}
use Rattle.long_names.specs.Heap.{Has}
use Rattle.loom_host.specs.declared.outside.Host.{Ghosts}
use Rattle.object_table.specs.declared.entry.Entry.{Entry}
use Rattle.object_table.specs.Entries.{put, is_short, is_used, place_of, free_entry}
use Rattle.object_table.specs.Table.{entry_at, entries_of, free_of}
use Rattle.loom_host.specs.Work.{work_of}
use Rattle.disk_objects.specs.declared.rest.DiskRest.{DiskRest}
use Rattle.disk_objects.specs.Disk.{IsDisk}
use Rattle.disk_objects.specs.Calls.{IsIdle as IsIdleName}
use Rattle.core_segment.specs.Chunks.{Chunk}
use Rattle.core_view.specs.Core.{Core, without_leaf}
use Rattle.core_view.specs.Counts.{outside}
use Rattle.core_view.specs.Kept.{IsCore, IsTight, Stays}
use Rattle.core_view.specs.Steps.{IsIdle}
use Rattle.core_view.proofs.Core.{held-leaf}
use Rattle.core_view.proofs.Entries.{at-entry}
use Rattle.core_view.proofs.Lists.{put-here, put-there}
use Rattle.core_view.proofs.Leaves.{idle-core, idle-outside}
use Rattle.core_view.proofs.Steps.{idle-stays, Stays-refl, Stays-trans}
use Rattle.resident_table.specs.Resident.{short_of, held_of, room_of}
use Rattle.resident_table.specs.declared.Parts2.{Parts2}
use Rattle.core_view.specs.Levels.{Stored, Levels, record_in, count_in, records_of, heap_of, sum_of, waits}
use Rattle.core_view.specs.Counted.{one_if, IsSound}
use Rattle.core_view.specs.LevelSteps.{with_change, recounted, to_count, folded, given}
use Rattle.core_view.proofs.ChangeLaws.{folded-sound, folded-heap, given-sound, given-heap}
use Rattle.core_view.proofs.CanLaws.{sum-fits}
use Rattle.core_view.proofs.QueueLaws.{entered-waits}
use Rattle.delta_counts.specs.Parts.{core_with, IsNames, IsCounting}
use Rattle.delta_counts.specs.At.{IsStoredAt, IsAt, AtSome, CanFold, IsFolded, IsReached}
use Rattle.delta_counts.specs.Giving.{IsIdleEntry, IsGiving, NoneIdleBelow}
use Rattle.delta_counts.proofs.AtLaws.{entry-is}
use Rattle.delta_counts.proofs.LowerLaws.{not-joined, is-joined}

-- ---- what may be folded

pub leaf-stored : (t : Levels) (s : ℕ) → IsSound t [] → is_used (t.core.entries s).state ≡ true → place_of (t.core.entries s).state ≡ None → (r : Stored) × (t.stored (t.core.entries s).name ≡ Some r)
leaf-stored t s x used leaf = go (t.stored (t.core.entries s).name) refl
  where
    n : ℕ
    n = (t.core.entries s).name

    has : Has (heap_of t) n
    has = x.counted.entered n s (x.core.found s used)

    go : (o : Option Stored) → t.stored n ≡ o → (r : Stored) × (t.stored n ≡ Some r)
    go None e = let none : is_some (record_in (t.stored n)) ≡ true = sym (ap is_some (held-leaf t.core (records_of t) n s (x.core.found s used) leaf)) ∙ has in absurd (cc)
    go (Some r) e = (r, e)

-- the change of a leaf
pub leaf-can : (t : Levels) (s : ℕ) → IsSound t [] → is_used (t.core.entries s).state ≡ true → place_of (t.core.entries s).state ≡ None → CanFold s t
leaf-can t s x used leaf =
    let r = leaf-stored t s x used leaf in
    record {
      stored = r.0;
      there = r.1;
      found = x.core.found s used;
      fits = subst (λ k. FitsUnsigned w64 (pos k +ℤ (t.core.entries s).change)) (ap count_in r.1) (sum-fits t s [] x used);
    }

pub idle-can : (t : Levels) (s : ℕ) → IsSound t [] → IsIdleEntry (t.core.entries s) → CanFold s t
idle-can t s x idle = leaf-can t s x idle.used idle.leaf

pub idle-at : {H : Type 0} (host : Ghosts H) (chunks : ℕ → Chunk) (p : Parts2) (now : H) (rest : DiskRest) (t : Levels) (s : ℕ) → IsAt host chunks p now rest t → IsIdleEntry (entry_at p.table s) → IsIdleEntry (t.core.entries s)
idle-at host chunks p now rest t s at idle = subst (λ (e : Entry). IsIdleEntry e) (sym (entry-is host chunks p now rest t s at)) idle

pub some-can : {H : Type 0} (host : Ghosts H) (p : Parts2) (now : H) (rest : DiskRest) (s : ℕ) → IsIdleEntry (entry_at p.table s) → AtSome host p now rest (λ t. IsSound t []) → AtSome host p now rest (CanFold s)
some-can host p now rest s idle f told = let x = f told in (x.0, x.1, x.2, idle-can x.1 s x.3 (idle-at host x.0 p now rest x.1 s x.2 idle))

-- ---- the leaf goes

folded-idle : (t : Levels) (s : ℕ) → IsIdleEntry (t.core.entries s) → IsIdle (folded t s).core s (t.core.entries s).name
folded-idle t s idle =
    let here = put-here t.core.entries s (with_change (t.core.entries s) (pos 0)) in
    record {
      used = ap (λ (e : Entry). is_used e.state) here ∙ idle.used;
      leaf = ap (λ (e : Entry). place_of e.state) here ∙ idle.leaf;
      name = ap (λ (e : Entry). e.name) here;
      none = ap (λ (e : Entry). e.refs) here ∙ idle.none;
    }

pub given-is : (t : Levels) (s : ℕ) → IsSound t [] → IsIdleEntry (t.core.entries s) → IsSound (given (folded t s) s (t.core.entries s).name) [] × (heap_of (given (folded t s) s (t.core.entries s).name) ≡ heap_of t)
given-is t s x idle =
    let r = leaf-stored t s x idle.used idle.leaf in
    let y = folded-sound t s r.0 [] x idle.used r.1 in
    let i = folded-idle t s idle in (
      given-sound (folded t s) s (t.core.entries s).name [] y i (ap (λ (e : Entry). e.change) (put-here t.core.entries s (with_change (t.core.entries s) (pos 0)))),
      given-heap (folded t s) s (t.core.entries s).name y.core i ∙ folded-heap t s x.core idle.used,
    )

count-waits : (r : Option Stored) (q : Stored) (k : ℕ) (known : Bool) → r ≡ Some q → q.count ≡ k → waits None r known ≡ cond known false (nat_eq k 0)
count-waits r q k known e f = ap (λ o. waits None o known) e ∙ ap (λ m. cond known false (nat_eq m 0)) f

folded-waits : (t : Levels) (s k : ℕ) (r : Stored) → t.stored (t.core.entries s).name ≡ Some r → pos k ≡ sum_of t (t.core.entries s).name
    → waits None ((folded t s).stored (t.core.entries s).name) (is_known (t.core.entries s).name) ≡ cond (is_known (t.core.entries s).name) false (nat_eq k 0)
folded-waits t s k r there sum =
    let n = (t.core.entries s).name in
    let new : option_map (recounted (to_count (sum_of t n))) (t.stored n) ≡ Some (recounted (to_count (sum_of t n)) r) = ap (λ o. option_map (recounted (to_count (sum_of t n))) o) there in
    count-waits ((folded t s).stored n) (recounted (to_count (sum_of t n)) r) k (is_known n) (put-here t.stored n (option_map (recounted (to_count (sum_of t n))) (t.stored n)) ∙ new) (ap to_count (sym sum))

core-given : {H : Type 0} (host : Ghosts H) (chunks : ℕ → Chunk) (p q : Parts2) (was now : H) (before rest : DiskRest) (t : Levels) (s k : ℕ) → IsFolded host chunks p was before t s k → core_with chunks q ≡ without_leaf (core_with chunks p) s (t.core.entries s).name → core_with chunks q ≡ without_leaf (folded t s).core s (t.core.entries s).name
core-given host chunks p q was now before rest t s k f is = is ∙ ap (λ (c : Core). without_leaf c s (t.core.entries s).name) f.at.core

-- it needn't be pending
pub given-still : {H : Type 0} (host : Ghosts H) (chunks : ℕ → Chunk) (p q : Parts2) (now : H) (rest : DiskRest) (t : Levels) (s k : ℕ) → IsSound t [] → IsIdleEntry (t.core.entries s) → IsFolded host chunks p now rest t s k → core_with chunks q ≡ without_leaf (core_with chunks p) s (t.core.entries s).name
    → cond (is_known (t.core.entries s).name) false (nat_eq k 0) ≡ false → IsReached host chunks q now rest t []
given-still host chunks p q now rest t s k x idle f is quiet =
    let r = leaf-stored t s x idle.used idle.leaf in
    let y = given-is t s x idle in
    record {
      levels = given (folded t s) s (t.core.entries s).name;
      at = record {
        core = core-given host chunks p q now now rest rest t s k f is;
        disk = subst (λ xs. IsStoredAt host now rest (folded t s).stored xs) (sym (not-joined ((folded t s).stored (t.core.entries s).name) (t.core.entries s).name t.pending (cond (is_known (t.core.entries s).name) false (nat_eq k 0)) (folded-waits t s k r.0 r.1 f.sum) quiet)) f.at.disk;
      };
      sound = y.0;
      heap = y.1;
    }

-- or it is pending now
pub given-joins : {H : Type 0} (host : Ghosts H) (chunks : ℕ → Chunk) (p q : Parts2) (was now : H) (before rest : DiskRest) (t : Levels) (s k : ℕ) → IsSound t [] → IsIdleEntry (t.core.entries s) → (f : IsFolded host chunks p was before t s k) → core_with chunks q ≡ without_leaf (core_with chunks p) s (t.core.entries s).name
    → cond (is_known (t.core.entries s).name) false (nat_eq k 0) ≡ true → IsDisk rest (work_of host now) f.at.disk.objects ((t.core.entries s).name ∷ t.pending) → IsReached host chunks q now rest t []
given-joins host chunks p q was now before rest t s k x idle f is due disk =
    let r = leaf-stored t s x idle.used idle.leaf in
    let y = given-is t s x idle in
    record {
      levels = given (folded t s) s (t.core.entries s).name;
      at = record {
        core = core-given host chunks p q was now before rest t s k f is;
        disk = subst (λ xs. IsStoredAt host now rest (folded t s).stored xs) (sym (is-joined ((folded t s).stored (t.core.entries s).name) (t.core.entries s).name t.pending (cond (is_known (t.core.entries s).name) false (nat_eq k 0)) (folded-waits t s k r.0 r.1 f.sum) due)) (record { objects = f.at.disk.objects; disk = disk; same = f.at.disk.same });
      };
      sound = y.0;
      heap = y.1;
    }

-- and may be
pub given-idle : {H : Type 0} (host : Ghosts H) (chunks : ℕ → Chunk) (p : Parts2) (was : H) (before : DiskRest) (t : Levels) (s k : ℕ) → IsSound t [] → IsIdleEntry (t.core.entries s) → (f : IsFolded host chunks p was before t s k) → IsIdleName (t.core.entries s).name f.at.disk.objects t.pending
given-idle host chunks p was before t s k x idle f =
    let n = (t.core.entries s).name in
    let r = leaf-stored t s x idle.used idle.leaf in
    let new : (folded t s).stored n ≡ Some (recounted (to_count (sum_of t n)) r.0) = put-here t.stored n (option_map (recounted (to_count (sum_of t n))) (t.stored n)) ∙ ap (λ o. option_map (recounted (to_count (sum_of t n))) o) r.1 in
    let o = object-at f.at.disk.objects (folded t s).stored n (recounted (to_count (sum_of t n)) r.0) f.at.disk.same new in
    (subst (λ z. IsSome z) (sym o.1) refl, x.counted.waiting n ∙ ap one_if (entered-waits (t.core.find n) s (t.stored n) (is_known n) (x.core.found s idle.used)))

-- ---- the parts

pub gone-core : (p q : Parts2) (s n : ℕ) (chunks : ℕ → Chunk) → entry_at q.table ≡ put (entry_at p.table) s free_entry → entries_of q.table ≡ entries_of p.table → short_of q.resident ≡ put (short_of p.resident) n None → core_with chunks q ≡ without_leaf (core_with chunks p) s n
unfolding core_with
gone-core p q s n chunks entries size find = λ i. record { entries = entries i; find = find i; chunks = chunks; bound = 2 * size i + 2 }

counted-idle : (p q : Parts2) (s : ℕ) (chunks : ℕ → Chunk) → IsCounting p q → IsIdleEntry (entry_at p.table s) → IsIdle (core_with chunks q) s (entry_at p.table s).name
unfolding core_with
counted-idle p q s chunks c idle =
    let e = c.entries s in
    record {
      used = ap (λ (x : Entry). is_used x.state) e ∙ idle.used;
      leaf = ap (λ (x : Entry). place_of x.state) e ∙ idle.leaf;
      name = ap (λ (x : Entry). x.name) e;
      none = ap (λ (x : Entry). x.refs) e ∙ idle.none;
    }

pub gone-giving : (p m q : Parts2) (s : ℕ) → IsCounting p m → IsIdleEntry (entry_at p.table s) → entry_at q.table ≡ put (entry_at m.table) s free_entry → entries_of q.table ≡ entries_of m.table → short_of q.resident ≡ put (short_of m.resident) (entry_at p.table s).name None
    → held_of q.resident + 1 ≡ held_of m.resident → free_of q.table ≡ free_of m.table + 1 → room_of q.resident ≡ room_of m.resident → IsGiving p q
gone-giving p m q s c idle entries size find held free room = record {
  core = λ chunks core. subst (λ (d : Core). IsCore d) (sym (is chunks)) (idle-core (core_with chunks m) s n (c.core chunks core) (counted-idle p m s chunks c idle));
  stays = λ chunks core. Stays-trans (core_with chunks p) (core_with chunks m) (core_with chunks q) (c.stays chunks core) (subst (λ (d : Core). Stays (core_with chunks m) d) (sym (is chunks)) (idle-stays (core_with chunks m) s n (c.core chunks core) (counted-idle p m s chunks c idle)));
  outside = λ chunks core t. ap (λ (d : Core). outside d t) (is chunks) ∙ idle-outside (core_with chunks m) s n t (c.core chunks core) (counted-idle p m s chunks c idle) ∙ c.outside chunks core t;
  entries = λ r. subst (λ (f : ℕ → Entry). (f r ≡ with_change (entry_at p.table r) (f r).change) ⊎ (is_used (f r).state ≡ false)) (sym entries)
      (at-entry (entry_at m.table) s free_entry (λ k e. (e ≡ with_change (entry_at p.table k) e.change) ⊎ (is_used e.state ≡ false)) (inr refl) (λ k away. inl (c.entries k)) r);
  bodies = λ r a at. subst (λ (f : ℕ → Entry). f r ≡ with_change (entry_at p.table r) (f r).change) (sym entries)
      (at-entry (entry_at m.table) s free_entry (λ k e. place_of (entry_at p.table k).state ≡ Some a → e ≡ with_change (entry_at p.table k) e.change) (λ there. let z : None ≡ Some a = sym idle.leaf ∙ there in absurd (cc)) (λ k away there. c.entries k) r at);
  sum = let a = ap held_of c.resident in let b = c.free in omega arith;
  more = let b = c.free in omega arith;
  room = room ∙ ap room_of c.resident;
  bound = ap (λ (k : ℕ). 2 * k + 2) size ∙ c.bound;
}
  where
    n : ℕ
    n = (entry_at p.table s).name

    is : (chunks : ℕ → Chunk) → core_with chunks q ≡ without_leaf (core_with chunks m) s n
    is chunks = gone-core m q s n chunks entries size find

pub others-stay : (p m q : Parts2) (s : ℕ) → IsCounting p m → entry_at q.table ≡ put (entry_at m.table) s free_entry → (r : ℕ) → r ≢ s → entry_at q.table r ≡ with_change (entry_at p.table r) (entry_at q.table r).change
others-stay p m q s c entries r away = subst (λ (e : Entry). e ≡ with_change (entry_at p.table r) e.change) (sym (ap (λ (f : ℕ → Entry). f r) entries ∙ put-there (entry_at m.table) s free_entry r away)) (c.entries r)

pub idle-found : (p m : Parts2) (s : ℕ) → IsNames p → IsCounting p m → is_used (entry_at p.table s).state ≡ true → IsSome (short_of m.resident (entry_at p.table s).name)
unfolding core_with
idle-found p m s names c used = subst (λ o. IsSome o) (sym (ap (λ r. short_of r (entry_at p.table s).name) c.resident ∙ names.1.found s used)) refl

-- ---- the same by another word for the name

pub name-is : {H : Type 0} (host : Ghosts H) (chunks : ℕ → Chunk) (p : Parts2) (now : H) (rest : DiskRest) (t : Levels) (s : ℕ) (e : Entry) → IsAt host chunks p now rest t → e ≡ entry_at p.table s → (t.core.entries s).name ≡ e.name
name-is host chunks p now rest t s e at is = ap (λ (x : Entry). x.name) (entry-is host chunks p now rest t s at ∙ sym is)

pub still-named : {H : Type 0} (host : Ghosts H) (chunks : ℕ → Chunk) (p q : Parts2) (now : H) (rest : DiskRest) (t : Levels) (s k n : ℕ) → (t.core.entries s).name ≡ n → IsSound t [] → IsIdleEntry (t.core.entries s) → IsFolded host chunks p now rest t s k → core_with chunks q ≡ without_leaf (core_with chunks p) s n
    → cond (is_known n) false (nat_eq k 0) ≡ false → IsReached host chunks q now rest t []
still-named host chunks p q now rest t s k n e x idle f = subst (λ m. core_with chunks q ≡ without_leaf (core_with chunks p) s m → cond (is_known m) false (nat_eq k 0) ≡ false → IsReached host chunks q now rest t []) e (given-still host chunks p q now rest t s k x idle f)

pub joins-named : {H : Type 0} (host : Ghosts H) (chunks : ℕ → Chunk) (p q : Parts2) (was now : H) (before rest : DiskRest) (t : Levels) (s k n : ℕ) → (t.core.entries s).name ≡ n → IsSound t [] → IsIdleEntry (t.core.entries s) → (f : IsFolded host chunks p was before t s k) → core_with chunks q ≡ without_leaf (core_with chunks p) s n
    → cond (is_known n) false (nat_eq k 0) ≡ true → IsDisk rest (work_of host now) f.at.disk.objects (n ∷ t.pending) → IsReached host chunks q now rest t []
joins-named host chunks p q was now before rest t s k n e x idle f = subst (λ m. core_with chunks q ≡ without_leaf (core_with chunks p) s m → cond (is_known m) false (nat_eq k 0) ≡ true → IsDisk rest (work_of host now) f.at.disk.objects (m ∷ t.pending) → IsReached host chunks q now rest t []) e (given-joins host chunks p q was now before rest t s k x idle f)

pub idle-named : {H : Type 0} (host : Ghosts H) (chunks : ℕ → Chunk) (p : Parts2) (was : H) (before : DiskRest) (t : Levels) (s k n : ℕ) → (t.core.entries s).name ≡ n → IsSound t [] → IsIdleEntry (t.core.entries s) → (f : IsFolded host chunks p was before t s k) → IsIdleName n f.at.disk.objects t.pending
idle-named host chunks p was before t s k n e x idle f = subst (λ m. IsIdleName m f.at.disk.objects t.pending) e (given-idle host chunks p was before t s k x idle f)

pub giving-refl : (p : Parts2) → IsGiving p p
giving-refl p = record {
  core = λ chunks core. core;
  stays = λ chunks core. Stays-refl (core_with chunks p);
  outside = λ chunks core t. refl;
  entries = λ s. inl refl;
  bodies = λ s at e. refl;
  sum = refl;
  more = omega arith;
  room = refl;
  bound = refl;
}

pub giving-trans : (p q r : Parts2) → IsGiving p q → IsGiving q r → IsGiving p r
giving-trans p q r a b = record {
  core = λ chunks core. b.core chunks (a.core chunks core);
  stays = λ chunks core. Stays-trans (core_with chunks p) (core_with chunks q) (core_with chunks r) (a.stays chunks core) (b.stays chunks (a.core chunks core));
  outside = λ chunks core t. b.outside chunks (a.core chunks core) t ∙ a.outside chunks core t;
  entries = λ s. both s (a.entries s) (b.entries s);
  bodies = λ s at e. b.bodies s at (ap (λ (z : Entry). place_of z.state) (a.bodies s at e) ∙ e) ∙ ap (λ (z : Entry). with_change z (entry_at r.table s).change) (a.bodies s at e);
  sum = b.sum ∙ a.sum;
  more = let first = a.more in let then = b.more in omega arith;
  room = b.room ∙ a.room;
  bound = b.bound ∙ a.bound;
}
  where
    both : (s : ℕ) → (entry_at q.table s ≡ with_change (entry_at p.table s) (entry_at q.table s).change) ⊎ (is_used (entry_at q.table s).state ≡ false) → (entry_at r.table s ≡ with_change (entry_at q.table s) (entry_at r.table s).change) ⊎ (is_used (entry_at r.table s).state ≡ false)
        → (entry_at r.table s ≡ with_change (entry_at p.table s) (entry_at r.table s).change) ⊎ (is_used (entry_at r.table s).state ≡ false)
    both s x (inr f) = inr f
    both s (inl e) (inl f) = inl (f ∙ ap (λ (z : Entry). with_change z (entry_at r.table s).change) e)
    both s (inr e) (inl f) = inr (ap (λ (z : Entry). is_used z.state) f ∙ e)

-- an idle leaf stays none
pub none-later : (p q : Parts2) (s : ℕ) → IsGiving p q → (IsIdleEntry (entry_at p.table s) → ⊥) → IsIdleEntry (entry_at q.table s) → ⊥
none-later p q s a none idle = go (a.entries s)
  where
    go : (entry_at q.table s ≡ with_change (entry_at p.table s) (entry_at q.table s).change) ⊎ (is_used (entry_at q.table s).state ≡ false) → ⊥
    go (inl e) = none (record { used = sym (ap (λ (x : Entry). is_used x.state) e) ∙ idle.used; leaf = sym (ap (λ (x : Entry). place_of x.state) e) ∙ idle.leaf; none = sym (ap (λ (x : Entry). x.refs) e) ∙ idle.none })
    go (inr e) = let on = idle.used in cc

pub gone-idle : (e : Entry) → e ≡ free_entry → IsIdleEntry e → ⊥
gone-idle e is idle = let off : is_used e.state ≡ false = ap (λ (x : Entry). is_used x.state) is in let on = idle.used in cc

eq-is : (j k : ℕ) → eqb j k ≡ true → j ≡ k
eq-is j k e = grind (arith, common_steps, e)

eq-not : (j k : ℕ) → eqb j k ≡ false → j ≢ k
eq-not j k e = grind (arith, common_steps, e)

-- an entry in use was in use before
pub still-used : (p q : Parts2) (s : ℕ) → IsGiving p q → is_used (entry_at q.table s).state ≡ true → is_used (entry_at p.table s).state ≡ true
still-used p q s g used = ⊎_elim
    (λ same. sym (ap (λ (e : Entry). is_used e.state) same) ∙ used)
    (λ free. let both : true ≡ false = sym used ∙ free in absurd (cc))
    (g.entries s)

pub none-below : (p q : Parts2) (k : ℕ) → IsGiving p q → NoneIdleBelow k p → (IsIdleEntry (entry_at q.table (2 * (k + 1))) → ⊥) → NoneIdleBelow (k + 1) q
none-below p q k a below here j low idle = go (eqb j k) refl
  where
    go : (b : Bool) → eqb j k ≡ b → ⊥
    go true e = let is : j ≡ k = eq-is j k e in here (subst (λ m. IsIdleEntry (entry_at q.table (2 * (m + 1)))) is idle)
    go false e = none-later p q (2 * (j + 1)) a (below j (let away = eq-not j k e in omega arith)) idle

-- no entry of the table is idle
pub none-idle : (p : Parts2) (chunks : ℕ → Chunk) → IsCore (core_with chunks p) → NoneIdleBelow (entries_of p.table) p → NoneIdle (core_with chunks p)
unfolding core_with
none-idle p chunks core below s used leaf none =
    let short = core.short s used in
    let low = core.within s used in
    let at = half s short in
    below at.0 (let is = at.1 in omega arith) (subst (λ m. IsIdleEntry (entry_at p.table m)) at.1 (record { used = used; leaf = leaf; none = none }))
  where
    half : (s : ℕ) → is_short s ≡ true → (k : ℕ) × (s ≡ 2 * (k + 1))
    half s e = (s / 2 - 1, (let up : 0 < s = grind (arith, common_steps, e) in let even : s % 2 ≡ 0 = grind (arith, common_steps, e) in omega arith))

-- ---- what stays where entries are given up

pub giving-tight : (chunks : ℕ → Chunk) (p q : Parts2) → IsGiving p q → IsTight (core_with chunks p) → IsTight (core_with chunks q)
unfolding core_with
giving-tight chunks p q g x = record { bodies = λ a owned. let e = x.bodies a owned in ap (λ (z : Entry). place_of z.state) (g.bodies (chunks a).owner a e) ∙ e }

free-outside : (c : Core) (s : ℕ) → IsCore c → is_used (c.entries s).state ≡ false → outside c s ≡ 0
unfolding outside
free-outside c s core off = let none = core.free s off in omega arith

gone-outside : (chunks : ℕ → Chunk) (p q : Parts2) (n s : ℕ) → IsGiving p q → IsCore (core_with chunks p) → (core_with chunks q).find n ≡ None → (core_with chunks p).find n ≡ Some s → outside (core_with chunks p) s ≡ 0
unfolding core_with
gone-outside chunks p q n s g core none found = go (g.entries s)
  where
    now : IsCore (core_with chunks q)
    now = g.core chunks core

    go : (entry_at q.table s ≡ with_change (entry_at p.table s) (entry_at q.table s).change) ⊎ (is_used (entry_at q.table s).state ≡ false) → outside (core_with chunks p) s ≡ 0
    go (inl same) =
        let used : is_used (entry_at q.table s).state ≡ true = ap (λ (z : Entry). is_used z.state) same ∙ core.used n s found in
        let name : (entry_at q.table s).name ≡ n = ap (λ (z : Entry). z.name) same ∙ core.named n s found in
        let there : short_of q.resident n ≡ Some s = ap (short_of q.resident) (sym name) ∙ now.found s used in
        let z : None ≡ Some s = sym none ∙ there in
        absurd (cc)
    go (inr off) = sym (g.outside chunks core s) ∙ free-outside (core_with chunks q) s now off

-- a name that has no entry then isn't named from outside
pub given-roots : (chunks : ℕ → Chunk) (p q : Parts2) (n : ℕ) → IsGiving p q → IsCore (core_with chunks p) → (core_with chunks q).find n ≡ None → outside_by (core_with chunks p) ((core_with chunks p).find n) ≡ 0
given-roots chunks p q n g core none = go ((core_with chunks p).find n) refl
  where
    go : (o : Option ℕ) → (core_with chunks p).find n ≡ o → outside_by (core_with chunks p) o ≡ 0
    go None e = refl
    go (Some s) e = gone-outside chunks p q n s g core none e
