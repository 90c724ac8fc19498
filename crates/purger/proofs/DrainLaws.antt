-- Which objects with a body are dead, and those of a table one after another.
use Rattle.std.proofs.Common.{◌≡◌, ◌≢◌, ℕ, ℤ, pos, ◌+ℤ◌, ◌+◌, ◌*◌, ◌%◌, ◌<◌, ◌≤◌, Bool, true, false, List, [], Option, Some, None, Result, Ok, Err, refl, sym, ◌∙◌, ap, subst, arith, ⊎_elim}
use Rattle.std.specs.Prelude.{IsSome, IfSome, option_map}
use Rattle.std.specs.Result.{IfErr}
use Rattle.std.specs.FinMap as map
use Rattle.std.proofs.lemmas.Bool.{cases_eq}
use Rattle.std.proofs.lemmas.Grind.{common_steps}
use Rattle.std.proofs.lemmas.Int.{ints}
use Rattle.std.specs.List.{slice_get}
use Rattle.long_names.specs.Counting.{Rose}
use Rattle.long_names.specs.Names.{is_known}
use Rattle.long_names.specs.Heap.{Heap, Has, without, count_of}
use Rattle.long_names.specs.declared.object.Object.{Object}
use Rattle.long_names.specs.declared.value.Value.{Value}
use Rattle.long_names.specs.Objects.{fields_of}
use Rattle.long_names.proofs.CountLaws.{eqb-here, thinner-without}
use Rattle.loom_host.specs.declared.outside.DiskFault.{DiskFault}
use Rattle.loom_host.specs.declared.outside.DiskFault.TheVariants as fault
use Rattle.loom_host.specs.declared.outside.Host.{Ghosts}
use Rattle.loom_host.specs.Work.{work_of}
use Rattle.object_record.specs.Raw.{RawRecord, longs_of}
use Rattle.object_record.specs.Objects.{object_in, value_in}
use Rattle.object_record.proofs.ObjectLaws.{fields-values}
use Rattle.object_table.specs.declared.entry.Entry.{Entry}
use Rattle.object_table.specs.declared.entry.Short.{Short}
use Rattle.object_table.specs.Entries.{is_short, is_used, place_of, put}
use Rattle.disk_objects.specs.declared.rest.DiskRest.{DiskRest}
use Rattle.disk_objects.specs.Calls.{IsIdle}
use Rattle.disk_objects.specs.Disk.{IsDisk}
use Rattle.core_view.specs.Core.{Core}
use Rattle.core_view.specs.Counts.{uses, outside}
use Rattle.core_view.specs.Held.{held, object_at}
use Rattle.core_view.specs.Kept.{IsCore}
use Rattle.core_view.proofs.Core.{placed-used, held-at}
use Rattle.core_view.proofs.Purge.{body-then}
use Rattle.leaf_lambda.specs.declared.parts.Parts.{Parts}
use Rattle.leaf_lambda.specs.Parts.{core_of, IsParts}
use Rattle.resident_table.specs.Resident.{short_of}
use Rattle.core_view.specs.Levels.{Stored, Levels, heap_of, count_in, record_in, records_of}
use Rattle.core_view.specs.Counted.{one_if, words, IsSound}
use Rattle.core_view.specs.Dead.{IsDead, outside_by}
use Rattle.core_view.proofs.CanLaws.{sum-is}
use Rattle.core_view.proofs.DeadLaws.{bounded, uncounted-unused}
use Rattle.core_view.proofs.QueueLaws.{entered-waits}
use Rattle.delta_counts.specs.At.{IsReached, IsStoredAt}
use Rattle.delta_counts.specs.Giving.{IsGiving}
use Rattle.delta_counts.specs.Faults.{AreValues, IsWordsFault}
use Rattle.delta_counts.proofs.StoredLaws.{object-at, remove-same}
use Rattle.purger.specs.Draining.{IsDeadBy, IsForgotten, IsThinned, KeepsLevels, MayDrop, NoBodyDead, NoneDeadBelow, NotDeadAt}
use Rattle.purger.specs.Marks.{AreHere, IsOut, MindsMarks}
use Rattle.purger.specs.Purge.{IsReadFault, KeepsBodies}
use Rattle.purger.proofs.ForgetLaws.{IsOwedAt, forgotten-held, forgotten-here, forgotten-marks}
use Rattle.purger.proofs.GivingLaws.{given-purged, giving-parts, giving-up}
use Rattle.purger.proofs.MarkLaws.{low-short, odd-short}
use Rattle.purger.proofs.MindLaws.{came-out, forgotten-came, forgotten-out, minds-kept, minds-trans, purged-came}
use Rattle.purger.proofs.ThinLaws.{giving-minds}

no-refs : (c : Core) (s : ℕ) → (c.entries s).refs ≡ 0 → outside c s ≡ 0
unfolding outside
no-refs c s none = omega arith

few-refs : (c : Core) (s : ℕ) → uses c s ≡ 0 → outside c s ≡ 0 → uses c s ≤ (c.entries s).refs → (c.entries s).refs ≡ 0
unfolding outside
few-refs c s unused free most = omega arith

-- what is dead has no reference
dead-refs : (t : Levels) (s : ℕ) → IsSound t [] → is_used (t.core.entries s).state ≡ true → IsDead t (t.core.entries s).name → (t.core.entries s).refs ≡ 0
dead-refs t s x used dead =
    let found = x.core.found s used in
    few-refs t.core s (uncounted-unused t (t.core.entries s).name s x.core x.heap found dead.uncounted)
    (sym (ap (λ o. outside_by t.core o) found) ∙ dead.free) (x.core.counted s)

-- and its count is 0
dead-sum : (t : Levels) (s : ℕ) → IsSound t [] → is_used (t.core.entries s).state ≡ true → IsDead t (t.core.entries s).name → (t.core.entries s).change +ℤ pos (count_in (t.stored (t.core.entries s).name)) ≡ pos 0
dead-sum t s x used dead =
    let e = sum-is t s [] x used in
    let none = dead.uncounted in
    let nothing : words [] (t.core.entries s).name ≡ 0 = refl in
    omega (arith, ints)

-- ---- by what an entry and its count are

pub dead-if : (t : Levels) (s p k : ℕ) (e : Entry) (b : Bool) → IsSound t [] → t.core.entries s ≡ e → place_of e.state ≡ Some p → e.refs ≤ 0 → is_known e.name ≡ false → k ≡ count_in (t.stored e.name)
    → (b ≡ true → e.change +ℤ pos k ≡ pos 0) → (e.change +ℤ pos k ≡ pos 0 → b ≡ true) → IsDeadBy b s t
dead-if t s p k e true x is at none un count to from =
    let place = ap (λ (z : Entry). place_of z.state) is ∙ at in
    let used = placed-used (t.core.entries s).state p place in
    let found = x.core.found s used in
    let sum = to refl in
    let all = sum-is t s [] x used in
    let nothing : words [] (t.core.entries s).name ≡ 0 = refl in
    let change = ap (λ (z : Entry). z.change) is in
    let same : count_in (t.stored (t.core.entries s).name) ≡ k = ap (λ (z : Entry). count_in (t.stored z.name)) is ∙ sym count in
    record {
      held = x.counted.entered (t.core.entries s).name s found;
      unknown = ap (λ (z : Entry). is_known z.name) is ∙ un;
      uncounted = omega (arith, ints);
      free = ap (λ o. outside_by t.core o) found ∙ no-refs t.core s (let refs = ap (λ (z : Entry). z.refs) is in omega arith);
    }
dead-if t s p k e false x is at none un count to from = λ a place dead.
    let sum = dead-sum t s x (placed-used (t.core.entries s).state a place) dead in
    let here : e.change +ℤ pos k ≡ pos 0 = ap (λ (n : ℕ). e.change +ℤ pos n) count ∙ subst (λ (z : Entry). z.change +ℤ pos (count_in (t.stored z.name)) ≡ pos 0) is sum in
    let both : false ≡ true = from here in
    cc

pub not-placed : (t : Levels) (s : ℕ) (e : Entry) → t.core.entries s ≡ e → place_of e.state ≡ None → NotDeadAt s t
not-placed t s e is none a place dead = let both : None ≡ Some a = sym none ∙ ap (λ (z : Entry). place_of z.state) (sym is) ∙ place in cc

pub not-loose : (t : Levels) (s : ℕ) (e : Entry) → IsSound t [] → t.core.entries s ≡ e → 0 < e.refs → NotDeadAt s t
not-loose t s e x is some a place dead =
    let none = dead-refs t s x (placed-used (t.core.entries s).state a place) dead in
    let refs = ap (λ (z : Entry). z.refs) is in
    absurd (omega arith)

pub not-unknown : (t : Levels) (s : ℕ) (e : Entry) → t.core.entries s ≡ e → is_known e.name ≡ true → NotDeadAt s t
not-unknown t s e is known a place dead = let both : true ≡ false = sym known ∙ ap (λ (z : Entry). is_known z.name) (sym is) ∙ dead.unknown in cc

pub entry-at : (p : Parts) (t : Levels) (s : ℕ) (e : Entry) → core_of p ≡ t.core → e ≡ (core_of p).entries s → t.core.entries s ≡ e
entry-at p t s e is here = ap (λ (c : Core). c.entries s) (sym is) ∙ sym here

-- ---- the table, entry by entry

pub none-first : (t : Levels) → IsCore t.core → NoneDeadBelow 2 t
none-first t core s low a place dead = let both : true ≡ false = sym (core.short s (placed-used (t.core.entries s).state a place)) ∙ low-short s low in cc

pub none-more : (t : Levels) (i : ℕ) → IsCore t.core → NoneDeadBelow (2 * i + 2) t → NotDeadAt (2 * i + 2) t → NoneDeadBelow (2 * (i + 1) + 2) t
none-more t i core below here s low a place dead = ⊎_elim
    (λ (e : s ≡ 2 * i + 2). here a (ap (λ (k : ℕ). place_of (t.core.entries k).state) (sym e) ∙ place) (subst (λ (k : ℕ). IsDead t (t.core.entries k).name) e dead))
    (λ (e : s ≢ 2 * i + 2). ⊎_elim
    (λ (f : s ≡ 2 * i + 3). absurd (let both : true ≡ false = sym (core.short s (placed-used (t.core.entries s).state a place)) ∙ odd-short s i f in cc))
    (λ (f : s ≢ 2 * i + 3). below s (omega arith) a place dead) (cases_eq s (2 * i + 3))) (cases_eq s (2 * i + 2))

pub none-all : (t : Levels) (n : ℕ) → ((s : ℕ) → is_used (t.core.entries s).state ≡ true → s < n) → NoneDeadBelow n t → NoBodyDead t
none-all t n most below s a place dead = below s (most s (placed-used (t.core.entries s).state a place)) a place dead

pub bodies-then : (a b c : Core) → KeepsBodies a b → KeepsBodies b c → KeepsBodies a c
bodies-then a b c f g s p at = let first = f s p at in body-then a b c s p first (g s first.at first.place)

-- ---- the record of what goes

-- an object that is fresh has none; another has one, and isn't pending
pub may-drop : (t : Levels) (s p n : ℕ) (fresh : Bool) (e : Entry) → IsSound t [] → t.core.entries s ≡ e → place_of e.state ≡ Some p → n ≡ e.name → fresh ≡ e.flags.fresh → MayDrop fresh t.stored t.pending n
may-drop t s p n fresh e x is at name same = subst (λ (k : ℕ). MayDrop fresh t.stored t.pending k) (sym own) (go fresh (same ∙ ap (λ (z : Entry). z.flags.fresh) (sym is)))
  where
    own : n ≡ (t.core.entries s).name
    own = name ∙ ap (λ (z : Entry). z.name) (sym is)

    place : place_of (t.core.entries s).state ≡ Some p
    place = ap (λ (z : Entry). place_of z.state) is ∙ at

    none : (o : Option Stored) → record_in o ≡ None → o ≡ None
    none None f = refl
    none (Some r) f = cc

    some : (o : Option Stored) (y : Object) → record_in o ≡ Some y → IsSome o
    some None y f = let both : None ≡ Some y = f in absurd (cc)
    some (Some r) y f = refl

    go : (b : Bool) → b ≡ (t.core.entries s).flags.fresh → MayDrop b t.stored t.pending (t.core.entries s).name
    go true f = none (t.stored (t.core.entries s).name) ((x.backed.body s p place).absent (sym f))
    go false f =
        let like = (x.backed.body s p place).like (sym f) in (
          some (t.stored (t.core.entries s).name) like.object like.there,
          x.counted.waiting (t.core.entries s).name ∙ ap one_if (entered-waits (t.core.find (t.core.entries s).name) s (t.stored (t.core.entries s).name) (is_known (t.core.entries s).name) (x.core.found s (placed-used (t.core.entries s).state p place))),
        )

-- a fresh object has no record
pub fresh-none : (t : Levels) (s p : ℕ) (e : Entry) → IsSound t [] → t.core.entries s ≡ e → place_of e.state ≡ Some p → e.flags.fresh ≡ true → t.stored e.name ≡ None
fresh-none t s p e x is at fresh = subst (λ (b : Bool). MayDrop b t.stored t.pending e.name) fresh (may-drop t s p e.name e.flags.fresh e x is at refl refl)

pub fresh-dropped : {H : Type 0} (host : Ghosts H) (now : H) (rest : DiskRest) (stored : ℕ → Option Stored) (pending : List ℕ) (n : ℕ) (fresh : Bool) → fresh ≡ true → MayDrop fresh stored pending n → IsStoredAt host now rest stored pending → IsStoredAt host now rest (put stored n None) pending
fresh-dropped host now rest stored pending n true e may x = record {
  objects = x.objects;
  disk = x.disk;
  same = λ q. x.same q ∙ ⊎_elim (λ (h : q ≡ n). ap stored h ∙ may ∙ sym (ap (put stored n None) h ∙ Rattle.core_view.proofs.Lists.put-here stored n None)) (λ (h : q ≢ n). sym (Rattle.core_view.proofs.Lists.put-there stored n None q h)) (cases_eq q n);
}
fresh-dropped host now rest stored pending n false e may x = absurd (let both : false ≡ true = e in cc)

pub other-idle : {H : Type 0} (host : Ghosts H) (now : H) (rest : DiskRest) (stored : ℕ → Option Stored) (pending : List ℕ) (n : ℕ) (fresh : Bool) → fresh ≡ false → MayDrop fresh stored pending n → (x : IsStoredAt host now rest stored pending) → IsIdle n x.objects pending
other-idle host now rest stored pending n true e may x = absurd (let both : true ≡ false = e in cc)
other-idle host now rest stored pending n false e may x = go (stored n) refl may.0
  where
    go : (o : Option Stored) → stored n ≡ o → IsSome o → IsIdle n x.objects pending
    go None f some = absurd (let both : false ≡ true = some in cc)
    go (Some r) f some = let y = object-at x.objects stored n r x.same f in (subst (λ z. IsSome z) (sym y.1) refl, may.1)

pub other-dropped : {H : Type 0} (host : Ghosts H) (was now : H) (before rest : DiskRest) (stored : ℕ → Option Stored) (pending : List ℕ) (n : ℕ) → (x : IsStoredAt host was before stored pending) → IsDisk rest (work_of host now) (map.remove x.objects n) pending → IsStoredAt host now rest (put stored n None) pending
other-dropped host was now before rest stored pending n x disk = record { objects = map.remove x.objects n; disk = disk; same = remove-same x.objects stored n x.same }

-- ---- what it held

-- each field of an object of sound levels is a value
pub body-values : (t : Levels) (c : Core) (s p : ℕ) (r : RawRecord) → c ≡ t.core → IsSound t [] → place_of (c.entries s).state ≡ Some p → object_in r ≡ object_at c (records_of t) (c.entries s) p → AreValues (Rattle.std.proofs.Common.map value_in (longs_of r.body))
body-values t c s p r is x at object i v there =
    let place : place_of (t.core.entries s).state ≡ Some p = ap (λ (y : Core). place_of (y.entries s).state) (sym is) ∙ at in
    let same : object_in r ≡ object_at t.core (records_of t) (t.core.entries s) p = object ∙ ap (λ (y : Core). object_at y (records_of t) (y.entries s) p) is in
    x.heap.valued (t.core.entries s).name i (object_at t.core (records_of t) (t.core.entries s) p) v
    (held-at t.core (records_of t) (t.core.entries s).name s p (x.core.found s (placed-used (t.core.entries s).state p place)) place)
    (ap (λ (o : Object). slice_get (fields_of o.body) i) (sym same) ∙ ap (λ (vs : List Value). slice_get vs i) (fields-values r.body) ∙ there)

-- it went, and what it held has a word less: its name is out of the core, and marks stay where it had none
pub forgotten-away : (p m q : Parts) (s a : ℕ) → IsParts p → IsParts m → place_of ((core_of p).entries s).state ≡ Some a → IsForgotten s (core_of p) (core_of m) → q.segment ≡ m.segment → IsGiving m.names q.names → IsOut (core_of q) ((core_of p).entries s).name
forgotten-away p m q s a parts then at f same g =
    came-out (core_of m) (core_of q) (purged-came (core_of m) (core_of q) (λ a b k. given-purged a b k (core_of m) (core_of q) (giving-parts m q then same g).core (giving-up m q then same g))) ((core_of p).entries s).name
    (forgotten-out (core_of p) (core_of m) s parts.core (placed-used ((core_of p).entries s).state a at) f)

pub forgotten-minds : (p m q : Parts) (s a : ℕ) → IsParts p → IsParts m → place_of ((core_of p).entries s).state ≡ Some a → ((core_of p).entries s).flags.marked ≡ false → AreHere (core_of p) → IsForgotten s (core_of p) (core_of m) → q.segment ≡ m.segment → IsGiving m.names q.names
    → MindsMarks (core_of p) (core_of q)
forgotten-minds p m q s a parts then at off here f same g = minds-trans (core_of p) (core_of m) (core_of q)
    (minds-kept (core_of p) (core_of m) (forgotten-came (core_of p) (core_of m) s f) (forgotten-marks s a (core_of p) (core_of m) parts.core f at off here))
    (giving-minds m q then (forgotten-here s a (core_of p) (core_of m) parts.core f at off here) same g)

pub freed-thinned : {H : Type 0} (host : Ghosts H) (p m q : Parts) (now after : H) (rest last : DiskRest) (t : Levels) (o : Object) (n s : ℕ) → core_of p ≡ t.core → IsSound t [] → IsDead t (t.core.entries s).name → n ≡ ((core_of p).entries s).name → IsForgotten s (core_of p) (core_of m) → KeepsBodies (core_of m) (core_of q) → MindsMarks (core_of p) (core_of q)
    → (w : IsOwedAt host m now rest t o n) → IsReached host (Rattle.core_segment.specs.Segment.chunk_at q.segment) q.names after last w.levels [] → IsThinned host p q after last t
freed-thinned host p m q now after rest last t o n s is x dead name f keeps minds w r = record {
  levels = r.levels;
  at = r.at;
  sound = r.sound;
  thinner = subst (λ (h : Heap). Rattle.long_names.specs.Thin.IsThinner (heap_of t) h) (sym heap) (thinner-without (heap_of t) n (bounded (heap_of t) x.heap) (ap (count_of (heap_of t)) own ∙ dead.uncounted));
  bodies = λ i b at has.
      let first = forgotten-held s (core_of p) (core_of m) (heap_of r.levels) f gone i b at has in
      body-then (core_of p) (core_of m) (core_of q) i b first (keeps i first.at first.place);
  minds = minds;
}
  where
    own : n ≡ (t.core.entries s).name
    own = name ∙ ap (λ (c : Core). (c.entries s).name) is

    heap : heap_of r.levels ≡ without (heap_of t) n
    heap = r.heap ∙ w.heap

    gone : Has (heap_of r.levels) ((core_of p).entries s).name → ⊥
    gone has =
        let here : Has (without (heap_of t) n) n = subst (λ (k : ℕ). Has (without (heap_of t) n) k) (sym name) (subst (λ (h : Heap). Has h ((core_of p).entries s).name) heap has) in
        let none = eqb-here n in
        let off : Rattle.std.proofs.Common.is_some (Rattle.std.proofs.Common.cond (Rattle.std.proofs.Common.eqb n n) None ((heap_of t).at n)) ≡ false = ap (λ (b : Bool). Rattle.std.proofs.Common.is_some (Rattle.std.proofs.Common.cond b None ((heap_of t).at n))) none in
        let both : true ≡ false = sym here ∙ off in
        cc

-- ---- faults

rose-earlier : (a b c : ℕ) → a ≤ b → Rose b c → Rose a c
rose-earlier a b c low x = omega arith

pub read-later : (tells : Bool) (first before now : ℕ) (f : DiskFault) → first ≤ before → IsReadFault tells before now f → IsReadFault tells first now f
read-later tells first before now (fault.Work count) low x = (x.0, rose-earlier first before now low x.1)
read-later tells first before now (fault.Full held room) low x = x
read-later tells first before now (fault.Damaged at about) low x = x

pub read-later-if : {T : Type 0} (tells : Bool) (first before now : ℕ) (r : Result T DiskFault) → first ≤ before → IfErr r (IsReadFault tells before now) → IfErr r (IsReadFault tells first now)
read-later-if {T} tells first before now (Ok v) low x = tt
read-later-if {T} tells first before now (Err f) low x = read-later tells first before now f low x

pub words-read : (tells : Bool) (before now : ℕ) (rest : DiskRest) (vs : List Value) (place name : ℕ) (f : DiskFault) → IsWordsFault tells before now rest vs place name f → IsReadFault tells before now f
words-read tells before now rest vs place name (fault.Work count) x = x
words-read tells before now rest vs place name (fault.Full held room) x = x
words-read tells before now rest vs place name (fault.Damaged at about) x = x.0

pub words-read-if : {T : Type 0} (tells : Bool) (first before now : ℕ) (rest : DiskRest) (vs : List Value) (place name : ℕ) (r : Result T DiskFault) → first ≤ before → IfErr r (IsWordsFault tells before now rest vs place name) → IfErr r (IsReadFault tells first now)
words-read-if {T} tells first before now rest vs place name (Ok v) low x = tt
words-read-if {T} tells first before now rest vs place name (Err f) low x = read-later tells first before now f low (words-read tells before now rest vs place name f x)

pub free-read : (tells : Bool) (first before now : ℕ) (rest : DiskRest) (f : DiskFault) → first ≤ before → Rattle.delta_counts.specs.Faults.IsFreeFault tells before now rest f → IsReadFault tells first now f
free-read tells first before now rest (fault.Work count) low x = (x.0, rose-earlier first before now low x.1)
free-read tells first before now rest (fault.Full held room) low x = x
free-read tells first before now rest (fault.Damaged at about) low x = x.0

pub free-read-if : {T : Type 0} (tells : Bool) (before now : ℕ) (rest : DiskRest) (r : Result T DiskFault) → IfErr r (Rattle.delta_counts.specs.Faults.IsFreeFault tells before now rest) → IfErr r (IsReadFault tells before now)
free-read-if {T} tells before now rest (Ok v) x = tt
free-read-if {T} tells before now rest (Err f) x = free-read tells before before now rest f (omega arith) x

-- ---- by what a test says

pub dead-no : (b : Bool) (s : ℕ) (t : Levels) → b ≡ false → IsDeadBy b s t → NotDeadAt s t
dead-no true s t e x = absurd (let both : true ≡ false = e in cc)
dead-no false s t e x = x

pub dead-yes : (b : Bool) (s : ℕ) (t : Levels) → b ≡ true → IsDeadBy b s t → IsDead t (t.core.entries s).name
dead-yes true s t e x = x
dead-yes false s t e x = absurd (let both : false ≡ true = e in cc)

-- ---- levels that stay

pub levels-then : {H : Type 0} (host : Ghosts H) (a b c : Parts) (x y z : H) (k l m : DiskRest) (i : ℕ) → KeepsLevels host a x k b y l (NoneDeadBelow (2 * i + 2)) → KeepsLevels host b y l c z m (NotDeadAt (2 * i + 2)) → KeepsLevels host a x k c z m (NoneDeadBelow (2 * (i + 1) + 2))
levels-then host a b c x y z k l m i f g t at s =
    let first = f t at s in
    let then = g t first.0 s in
    (then.0, bodies-then (core_of a) (core_of b) (core_of c) first.1 then.1, none-more t i s.core first.2 then.2)

pub levels-all : {H : Type 0} (host : Ghosts H) (a b : Parts) (x y : H) (k l : DiskRest) (n : ℕ) → ((s : ℕ) → is_used ((core_of a).entries s).state ≡ true → s < n) → KeepsLevels host a x k b y l (NoneDeadBelow n) → KeepsLevels host a x k b y l NoBodyDead
levels-all host a b x y k l n most f t at s =
    let r = f t at s in
    (r.0, r.1, none-all t n (subst (λ (c : Core). (s : ℕ) → is_used (c.entries s).state ≡ true → s < n) (Rattle.purger.proofs.SoundLaws.core-at host a x k t at) most) r.2)

pub twice-short : (n : ℕ) → 0 < n → is_short (2 * n) ≡ true
twice-short n some = let rest : (2 * n) % 2 ≡ 0 = omega arith in grind (arith, common_steps)

-- ---- what a record names

-- what is found of a name is in use
pub found-used : (p : Parts) (n : ℕ) (o : Option Short) → IsParts p → option_map (λ (s : Short). s.0) o ≡ short_of p.names.resident n → IfSome o (λ s. is_used ((core_of p).entries s.0).state ≡ true)
unfolding core_of
found-used p n None parts e = tt
found-used p n (Some s) parts e = parts.core.used n s.0 (sym e)
