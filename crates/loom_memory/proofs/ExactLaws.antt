-- Counts stay exact: what each kind of step leaves of the levels.
use Rattle.std.proofs.Common.{is_some, ◌≡◌, ◌≢◌, ℕ, pos, ◌+ℤ◌, ◌+◌, ◌<◌, ◌≤◌, Bool, true, false, List, [], Option, Some, None, IsTrue, refl, sym, ◌∙◌, ap, ap₂, subst, arith}
use Rattle.std.specs.Prelude.{◌^◌, ◌||◌, IfSome, IfNone}
use Rattle.long_names.specs.declared.value.Value.{Value}
use Rattle.long_names.specs.declared.value.Value.TheVariants.{Int, Ref}
use Rattle.long_names.specs.declared.object.Object.{Object}
use Rattle.long_names.specs.Names.{is_known}
use Rattle.long_names.specs.Objects.{name_of, field_of, holds}
use Rattle.long_names.specs.Heap.{Heap, Has, count_of}
use Rattle.long_names.specs.Kept.{holds_at}
use Rattle.std.specs.Option.{option_and_then}
use Rattle.long_names.specs.State.{part_at}
use Rattle.long_names.specs.Access.{Field, brought, is_held}
use Rattle.long_names.specs.Thin.{IsWhole}
use Rattle.long_names.proofs.CountLaws.{counted-held}
use Rattle.long_names.proofs.KeptLaws.{any_below-at, any_below-from, holder, holding}
use Rattle.long_names.proofs.ThinLemmas.{holds-field}
use Rattle.loom_host.specs.declared.outside.Host.{Ghosts}
use Rattle.loom_host.specs.declared.outside.Role.TheVariants.{Work}
use Rattle.loom_host.specs.Outside.{RoleState}
use Rattle.loom_host.specs.Work.{IsWorkRead, work_of}
use Rattle.object_table.specs.declared.entry.Entry.{Entry}
use Rattle.object_table.specs.declared.entry.Short.{Short}
use Rattle.object_table.specs.Entries.{is_used, put}
use Rattle.disk_objects.specs.declared.rest.DiskRest.{DiskRest}
use Rattle.disk_objects.specs.Function.{disk_of}
use Rattle.work_space.specs.Blocks.{times}
use Rattle.core_view.specs.Core.{Core, with_entry}
use Rattle.core_view.specs.Counts.{change_of, change_by}
use Rattle.core_view.specs.Held.{Disk, held}
use Rattle.core_view.specs.Kept.{IsCore, Keeps, Stays}
use Rattle.leaf_lambda.specs.declared.parts.Parts.{Parts}
use Rattle.leaf_lambda.specs.Parts.{core_of, spare_of, IsParts, IsWithin, IsNaming, IsHolding, IsDropping, IsLeafStep}
use Rattle.core_view.specs.Levels.{Levels, count_in, records_of, heap_of, is_waiting, waits}
use Rattle.core_view.specs.Counted.{words, one_if, IsHeld, IsSound as AreSound}
use Rattle.core_view.specs.LevelSteps.{with_core, IsMaking, IsUncounted}
use Rattle.core_view.proofs.LevelLaws.{heap-is, heap-same, by_name, counted-step}
use Rattle.core_view.proofs.CameLaws.{came-sound, counted-quiet, known-quiet}
use Rattle.core_view.proofs.QueueLaws.{entered-waits}
use Rattle.core_view.proofs.DeadLaws.{bounded}
use Rattle.delta_counts.specs.At.{IsStoredIn}
use Rattle.purger.specs.Counts.{StandsFor, HasSound, KeepsCounts, KeepsSound}
use Rattle.purger.proofs.NamingLaws.{counts-free, brought-sound}
use Rattle.purger.proofs.SoundLaws.{core-is, core-at, disk-at, core-sound, stored-read}
use Rattle.loom_memory.specs.declared.ledger.Ledger.{Ledger}
use Rattle.loom_memory.specs.Known.{IsNameable}
use Rattle.loom_memory.specs.Memory.{heap_if, IsExact}
use Rattle.loom_memory.specs.Cache.{with_its_mark}
use Rattle.loom_memory.proofs.RowLaws.{marked-stays, marked-same}
use Rattle.loom_memory.proofs.MarkingLaws.{IsCaching}

-- ---- steps that leave the heap

pub exact-has : {H : Type 0} (host : Ghosts H) (p : Parts) (now : H) (rest : DiskRest) (n : ℕ) → IsExact host p now rest n [] → HasSound host p now rest
exact-has host p now rest n x told = let e = x told in (e.0, e.1, e.2)

pub exact-then : {H : Type 0} (host : Ghosts H) (p q : Parts) (was now : H) (before rest : DiskRest) (n : ℕ) → IsExact host p was before n [] → (IsTrue (host.tells Work) → KeepsSound host p was before q now rest) → IsExact host q now rest n []
exact-then host p q was now before rest n x f told =
    let e = x told in
    let r = f told e.0 e.1 e.2 in
    (r.levels, r.at, r.sound, ap (λ (h : Heap). h.next) r.heap ∙ e.3)

-- a step on the core alone, where each name that comes is used
pub exact-core : {H : Type 0} (host : Ghosts H) (p q : Parts) (now : H) (rest : DiskRest) (n : ℕ) → IsExact host p now rest n [] → IsParts q → Stays (core_of p) (core_of q) → IsUncounted (core_of p) (core_of q) → IsExact host q now rest n []
exact-core host p q now rest n x parts stays free = exact-then host p q now now rest rest n x (λ told. core-sound host p q now rest parts.core stays free)

-- or none comes
pub exact-counts : {H : Type 0} (host : Ghosts H) (p q : Parts) (now : H) (rest : DiskRest) (n : ℕ) → IsExact host p now rest n [] → IsParts q → Stays (core_of p) (core_of q) → KeepsCounts (core_of p) (core_of q) → IsExact host q now rest n []
exact-counts host p q now rest n x parts stays same = exact-core host p q now rest n x parts stays (counts-free (core_of p) (core_of q) same)

-- references to two words, one more and one less
pub swap-counts : (a b d : Core) (w old : ℕ) → IsHolding w a b → b.find ≡ a.find → IsDropping old b d → KeepsCounts a d
swap-counts a b d w old hold same drop = record { find = drop.find ∙ same; changes = λ m. drop.changes m ∙ hold.changes m }

-- Work was read, and the core stays, or names come with their use
pub exact-read : {H : Type 0} (host : Ghosts H) (p : Parts) (was now : H) (before rest : DiskRest) (n : ℕ) → IsExact host p was before n [] → rest ≡ before → IsWorkRead host was now → IsExact host p now rest n []
exact-read host p was now before rest n x same read told =
    let e = x told in
    (e.0, record { core = e.1.core; disk = stored-read host was now before rest e.0.stored e.0.pending same read e.1.disk }, e.2, e.3)

-- another role was written
pub exact-work : {H : Type 0} (host : Ghosts H) (p : Parts) (was now : H) (before rest : DiskRest) (n : ℕ) → IsExact host p was before n [] → rest ≡ before → host.roles now Work ≡ host.roles was Work → IsExact host p now rest n []
exact-work host p was now before rest n x same work told =
    let e = x told in (
      e.0,
      record { core = e.1.core; disk = subst (λ (r : DiskRest). IsStoredIn r (work_of host now) e.0.stored e.0.pending) (sym same) (subst (λ (w : List ℕ). IsStoredIn before w e.0.stored e.0.pending) (sym (ap (λ (r : RoleState). r.contents) work)) e.1.disk) },
      e.2,
      e.3,
    )

pub exact-brought : {H : Type 0} (host : Ghosts H) (p q : Parts) (was now : H) (before rest : DiskRest) (s n : ℕ) → IsExact host p was before n [] → rest ≡ before → IsWorkRead host was now → IsParts q → (IsTrue (host.tells Work) → Keeps (disk_of host was before) (core_of p) (core_of q))
    → IsNaming (core_of p) (core_of q) → IsWithin s (core_of p) (core_of q) → IsExact host q now rest n []
exact-brought host p q was now before rest s n x same read parts keeps naming within told =
    let e = x told in
    let is = core-at host p was before e.0 e.1 in (
      with_core e.0 (core_of q),
      record { core = core-is q; disk = stored-read host was now before rest e.0.stored e.0.pending same read e.1.disk },
      brought-sound e.0 (core_of q) s [] e.2 parts.core
          (subst (λ (c : Core). Keeps (records_of e.0) c (core_of q)) is (subst (λ (d : Disk). Keeps d (core_of p) (core_of q)) (sym (disk-at host p was before e.0 e.1)) (keeps told)))
          (subst (λ (c : Core). IsNaming c (core_of q)) is naming) (subst (λ (c : Core). IsWithin s c (core_of q)) is within),
      e.3,
    )

-- ---- nothing of the ledger counts but the next name

pub exact-next : {H : Type 0} (host : Ghosts H) (p : Parts) (now : H) (rest : DiskRest) (n k : ℕ) (owed : List Value) → k ≡ n → IsExact host p now rest n owed → IsExact host p now rest k owed
exact-next host p now rest n k owed same x = subst (λ (m : ℕ). IsExact host p now rest m owed) (sym same) x

pub exact-caching : {H : Type 0} (host : Ghosts H) (p : Parts) (now : H) (rest : DiskRest) (k l : Ledger) → IsExact host p now rest k.next [] → IsCaching k l → IsExact host p now rest l.next []
exact-caching host p now rest k l x is = exact-next host p now rest k.next l.next [] (ap (λ (z : Ledger). z.next) is) x

-- an object was marked
pub mark-exact : {H : Type 0} (host : Ghosts H) (p q : Parts) (now : H) (rest : DiskRest) (k l : Ledger) (s : ℕ) → IsCore (core_of p) → is_used ((core_of p).entries s).state ≡ true → IsParts q → core_of q ≡ with_entry (core_of p) s (with_its_mark ((core_of p).entries s)) → IsCaching k l
    → IsExact host p now rest k.next [] → IsExact host q now rest l.next []
mark-exact host p q now rest k l s core used parts is caching x = exact-caching host q now rest k l (exact-counts host p q now rest k.next x parts
    (subst (λ (c : Core). Stays (core_of p) c) (sym is) (marked-stays (core_of p) s core used))
    (record {
      find = ap (λ (c : Core). c.find) is;
      changes = λ m. ap (λ (c : Core). change_of c m) is ∙ go ((core_of p).find m);
    })) caching
  where
    go : (o : Option ℕ) → change_by (put (core_of p).entries s (with_its_mark ((core_of p).entries s))) o ≡ change_by (core_of p).entries o
    go None = refl
    go (Some w) = marked-same (core_of p) s w (λ (e : Entry). e.change) (λ e. refl)

-- ---- the heap that is told is that of the levels

pub heap-told : (b : Bool) (f : Disk) (n : ℕ) (h : Heap) → IsTrue b → f ≡ h.at → n ≡ h.next → heap_if b f n ≡ h
heap-told true f n h told same next = heap-is f n h same next
heap-told false f n h told same next = absurd (cc)

pub levels-told : {H : Type 0} (host : Ghosts H) (p : Parts) (now : H) (rest : DiskRest) (t : Levels) (n : ℕ) → StandsFor host p now rest t → t.next ≡ n → IsTrue (host.tells Work) → heap_if (host.tells Work) (held (core_of p) (disk_of host now rest)) n ≡ heap_of t
levels-told host p now rest t n at next told = heap-told (host.tells Work) (held (core_of p) (disk_of host now rest)) n (heap_of t) told
    (ap₂ (λ (c : Core) (d : Disk). held c d) (core-at host p now rest t at) (sym (disk-at host p now rest t at))) (sym next)

-- ---- a leaf for a name

-- what is known or held by an object isn't pending
pub nameable-quiet : (t : Levels) (n : ℕ) → AreSound t [] → IsNameable (heap_of t) n → is_waiting t n ≡ false
nameable-quiet t n x is = go (is_known n) refl is.1
  where
    go : (b : Bool) → is_known n ≡ b → IsTrue (b || is_held (heap_of t) n) → is_waiting t n ≡ false
    go true e some = known-quiet t n e
    go false e some =
        let it = any_below-at (heap_of t).next (λ k. holds_at (heap_of t) k n) some in
        let by = holder (heap_of t) it.0 n it.1 in
        let counted = counted-held (heap_of t) it.0 n by.0 by.1 (bounded (heap_of t) x.heap) by.2 in
        counted-quiet t n [] x is.0 (omega (arith, counted))

-- a name gets its entry
leaf-sound : (t : Levels) (c : Core) (s n : ℕ) → AreSound t [] → IsCore c → Keeps (records_of t) t.core c → IsMaking t.core c n s → Has (heap_of t) n → is_waiting t n ≡ false → AreSound (with_core t c) []
leaf-sound t c s n x core keeps f there quiet = record {
  core = core;
  backed = keeps.backed;
  counted = counted-step t u [] [] x.counted same (λ q h. ap (λ z. pos (count_in (t.stored q)) +ℤ z +ℤ pos (words [] q)) (f.changes q)) waiting entered x.counted.named;
  small = record { stored = x.small.stored; counts = λ q. subst (λ h. count_of h q + words [] q ≤ 2 ^ 62) (sym same) (x.small.counts q) };
  heap = subst (λ h. IsHeld h) (sym same) x.heap;
}
  where
    u : Levels
    u = with_core t c

    same : heap_of u ≡ heap_of t
    same = heap-same t u keeps.held refl

    entered : (q r : ℕ) → c.find q ≡ Some r → Has (heap_of t) q
    entered = by_name {P = λ q. (r : ℕ) → c.find q ≡ Some r → Has (heap_of t) q} n (λ r e. there) (λ q away r e. x.counted.entered q r (sym (f.others q away) ∙ e))

    waiting : (q : ℕ) → times q t.pending ≡ one_if (waits (c.find q) (t.stored q) (is_known q))
    waiting = by_name {P = λ q. times q t.pending ≡ one_if (waits (c.find q) (t.stored q) (is_known q))} n
        (x.counted.waiting n ∙ ap one_if (quiet ∙ sym (entered-waits (c.find n) s (t.stored n) (is_known n) f.found)))
        (λ q away. x.counted.waiting q ∙ ap (λ o. one_if (waits o (t.stored q) (is_known q))) (sym (f.others q away)))

-- an entry that was in use is found as before
leaf-found : (x y : Core) (m r : ℕ) → IsCore x → IsCore y → IsLeafStep x y → y.find m ≡ Some r → is_used (x.entries r).state ≡ true → x.find m ≡ Some r
leaf-found x y m r core now step found used = ap x.find (sym (now.named m r found) ∙ ap (λ (e : Entry). e.name) (step.used r used)) ∙ core.found r used

-- no entry came
leaf-none : (x y : Core) (s : ℕ) → IsCore x → IsCore y → IsLeafStep x y → ((q : ℕ) → is_used (x.entries q).state ≡ false → is_used (y.entries q).state ≡ true → q ≡ s) → is_used (x.entries s).state ≡ true → IsUncounted x y
leaf-none x y s core now step only used = record { changes = step.changes; grew = step.grew; came = λ m r none found. absurd (came m r none found (is_used (x.entries r).state) refl) }
  where
    came : (m r : ℕ) → x.find m ≡ None → y.find m ≡ Some r → (b : Bool) → is_used (x.entries r).state ≡ b → ⊥
    came m r none found true e = let there = leaf-found x y m r core now step found e in cc
    came m r none found false e = let is = only r e (now.used m r found) in let on = ap (λ (k : ℕ). is_used (x.entries k).state) is ∙ used in cc

-- that of s came, for the name n
leaf-made : (x y : Core) (s n : ℕ) → IsCore x → IsCore y → IsLeafStep x y → ((q : ℕ) → is_used (x.entries q).state ≡ false → is_used (y.entries q).state ≡ true → q ≡ s) → is_used (y.entries s).state ≡ true → (y.entries s).name ≡ n → IsMaking x y n s
leaf-made x y s n core now step only used name = record { changes = step.changes; found = ap y.find (sym name) ∙ now.found s used; others = λ m away. go m away (x.find m) refl }
  where
    inner : (m : ℕ) → m ≢ n → x.find m ≡ None → (o : Option ℕ) → y.find m ≡ o → y.find m ≡ x.find m
    inner m away e None f = f ∙ sym e
    inner m away e (Some r) f = last (is_used (x.entries r).state) refl
      where
        last : (b : Bool) → is_used (x.entries r).state ≡ b → y.find m ≡ x.find m
        last true g = f ∙ sym (leaf-found x y m r core now step f g)
        last false g = absurd (away (sym (now.named m r f) ∙ ap (λ (k : ℕ). (y.entries k).name) (only r g (now.used m r f)) ∙ name))

    go : (m : ℕ) → m ≢ n → (o : Option ℕ) → x.find m ≡ o → y.find m ≡ x.find m
    go m away None e = inner m away e (y.find m) refl
    go m away (Some r) e =
        let on = core.used m r e in
        let same = step.used r on in
        ap y.find (sym (ap (λ (z : Entry). z.name) same ∙ core.named m r e)) ∙ now.found r (ap (λ (z : Entry). is_used z.state) same ∙ on) ∙ sym e

-- the levels after a leaf came, or its name had its entry
leaf-levels : (t : Levels) (y : Core) (s n : ℕ) → AreSound t [] → IsCore y → IsLeafStep t.core y → ((q : ℕ) → is_used (t.core.entries q).state ≡ false → is_used (y.entries q).state ≡ true → q ≡ s) → is_used (y.entries s).state ≡ true → (y.entries s).name ≡ n → IsNameable (heap_of t) n
    → AreSound (with_core t y) []
leaf-levels t y s n x now step only used name is = go (is_used (t.core.entries s).state) refl
  where
    go : (b : Bool) → is_used (t.core.entries s).state ≡ b → AreSound (with_core t y) []
    go true e = came-sound t y [] x now (step.stays (records_of t) x.backed) (leaf-none t.core y s x.core now step only e)
    go false e = leaf-sound t y s n x now (step.stays (records_of t) x.backed) (leaf-made t.core y s n x.core now step only used name) is.0 (nameable-quiet t n x is)

pub exact-leaf : {H : Type 0} (host : Ghosts H) (r : Option Short) (p q : Parts) (now : H) (rest : DiskRest) (k n : ℕ) → IsExact host p now rest k [] → IsParts q → IsLeafStep (core_of p) (core_of q)
    → IfSome r (λ s. (is_used ((core_of q).entries s.0).state ≡ true) × (((core_of q).entries s.0).name ≡ n))
    → IfSome r (λ s. (q_ : ℕ) → is_used ((core_of p).entries q_).state ≡ false → is_used ((core_of q).entries q_).state ≡ true → q_ ≡ s.0)
    → IfNone r ((core_of q ≡ core_of p) × (spare_of q ≤ spare_of p))
    → (IsTrue (host.tells Work) → IsNameable (heap_if (host.tells Work) (held (core_of p) (disk_of host now rest)) k) n) → IsExact host q now rest k []
exact-leaf host None p q now rest k n x parts step found only none is = exact-counts host p q now rest k x parts step.stays (record { find = ap (λ (c : Core). c.find) none.0; changes = step.changes })
exact-leaf host (Some s) p q now rest k n x parts step found only none is = λ told.
    let e = x told in
    let same = core-at host p now rest e.0 e.1 in (
      with_core e.0 (core_of q),
      record { core = core-is q; disk = e.1.disk },
      leaf-levels e.0 (core_of q) s.0 n e.2 parts.core (subst (λ (c : Core). IsLeafStep c (core_of q)) same step)
          (subst (λ (c : Core). (z : ℕ) → is_used (c.entries z).state ≡ false → is_used ((core_of q).entries z).state ≡ true → z ≡ s.0) same only) found.0 found.1
          (subst (λ (h : Heap). IsNameable h n) (levels-told host p now rest e.0 k e.1 e.3 told) (is told)),
      e.3,
    )

-- ---- what may get an entry

some-of-two : (a b : Bool) → b ≡ true → IsTrue (a || b)
some-of-two true b e = refl
some-of-two false b e = e

-- the name in a field of an object
pub field-nameable : (h : Heap) (regs : ℕ → Value) (slots : ℕ → Option ℕ) (k i n : ℕ) (o : Object) → IsWhole h regs slots → h.at k ≡ Some o → field_of o.body i ≡ Some (Ref n) → IsNameable h n
field-nameable h regs slots k i n o whole there field =
    let some : holds o n ≡ true = holds-field o i n field in
    let low : k < h.next = whole.below k (ap (λ (x : Option Object). is_some x) there) in
    (whole.closed k o n there some, some-of-two (is_known n) (is_held h n) (any_below-from h.next (λ q. holds_at h q n) k low (holding h k n o there some)))

-- what a call would bring of an object
pub brought-nameable : (h : Heap) (regs : ℕ → Value) (slots : ℕ → Option ℕ) (of i n : ℕ) → IsWhole h regs slots → brought h regs (Field 0 of i) ≡ Some (Ref n) → IsNameable h n
brought-nameable h regs slots of i n whole e = go (regs of) e
  where
    inner : (k : ℕ) (x : Option Object) → h.at k ≡ x → option_and_then (λ (o : Object). field_of o.body i) x ≡ Some (Ref n) → IsNameable h n
    inner k None g f = absurd (let z : None ≡ Some (Ref n) = f in cc)
    inner k (Some o) g f = field-nameable h regs slots k i n o whole g f

    go : (v : Value) → part_at h v (λ b. field_of b i) ≡ Some (Ref n) → IsNameable h n
    go (Int z) f = absurd (let y : None ≡ Some (Ref n) = f in cc)
    go (Ref k) f = inner k (h.at k) refl f

-- a value that has a name is that name
pub name-value : (v : Value) (n : ℕ) → name_of v ≡ Some n → v ≡ Ref n
name-value (Int z) n e = absurd (let y : None ≡ Some n = e in cc)
name-value (Ref k) n e = let is : k ≡ n = (let y : Some k ≡ Some n = e in cc) in ap Ref is
