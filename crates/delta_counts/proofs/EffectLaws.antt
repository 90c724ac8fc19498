-- What calls on the two levels leave, one after another.
use Rattle.std.proofs.Common.{◌≡◌, ℕ, pos, Bool, true, false, None, is_some, [], List, ◌∷◌, ◌++◌, map, IsTrue, Result, Ok, Err, IfOk, IfErr, refl, sym, ◌∙◌, ap, subst, arith, ⊎_elim}
use Rattle.std.specs.Result.{OnOk, IsErrAnd}
use Rattle.long_names.specs.declared.value.Value.{Value}
use Rattle.long_names.proofs.ThinLemmas.{IsThinner-refl, IsThinner-trans}
use Rattle.loom_host.specs.declared.outside.DiskFault.{DiskFault}
use Rattle.loom_host.specs.declared.outside.Host.{Ghosts}
use Rattle.loom_host.specs.declared.outside.Role.TheVariants.{Work}
use Rattle.object_table.specs.declared.entry.Entry.{Entry}
use Rattle.object_table.specs.Entries.{is_used, place_of}
use Rattle.object_table.specs.Table.{entries_of, entry_at}
use Rattle.disk_objects.specs.declared.rest.DiskRest.{DiskRest}
use Rattle.disk_objects.specs.Calls.{IsFault, IsSlotsFault}
use Rattle.disk_objects.specs.Places.{IsSlotPlace}
use Rattle.disk_objects.specs.Disk.{disk_held}
use Rattle.disk_objects.specs.Stays.{StaysOnWork}
use Rattle.disk_objects.proofs.StayLaws.{stays-refl, stays-trans}
use Rattle.core_segment.specs.declared.segment.Segment.{Segment}
use Rattle.core_segment.specs.Chunks.{Chunk}
use Rattle.core_segment.specs.Segment.{chunk_at}
use Rattle.core_view.specs.Core.{Core}
use Rattle.core_view.specs.Kept.{IsBacked, IsCore, IsTight, Keeps as Kept}
use Rattle.core_view.specs.Once.{HasMarksHere}
use Rattle.core_view.proofs.Lists.{put-here}
use Rattle.resident_table.specs.declared.Parts2.{Parts2}
use Rattle.leaf_lambda.specs.declared.parts.Parts.{Parts}
use Rattle.leaf_lambda.specs.Parts.{core_of, IsParts}
use Rattle.leaf_lambda.specs.Whole.{IsWhole}
use Rattle.core_view.specs.Levels.{Levels, heap_of, records_of}
use Rattle.core_view.specs.Counted.{IsSound}
use Rattle.core_view.specs.LevelSteps.{with_change, with_core, folded}
use Rattle.core_view.proofs.ChangeLaws.{folded-sound, folded-heap}
use Rattle.core_view.proofs.LevelLaws.{heap-same}
use Rattle.delta_counts.specs.Parts.{core_with, IsCounting, IsNames}
use Rattle.delta_counts.specs.At.{IsAt, AtSome, IsReached, IsSoundWith, CanFold, IsFolded, Drains, DrainsOne}
use Rattle.delta_counts.specs.Giving.{IsGiving, NoneIdleBelow}
use Rattle.delta_counts.specs.Faults.{IsFreeFault}
use Rattle.delta_counts.specs.Effects.{HasSound, HeapStep, Same, Thinner, IsHeapStep, Reaches, Leaves, Keeps, Counts, Frees, StandsFor}
use Rattle.delta_counts.specs.declared.two_levels.TwoLevels.{TwoLevels}
use Rattle.delta_counts.proofs.AtLaws.{entry-is}
use Rattle.delta_counts.specs.Shorts.{Lowers, short_value}
use Rattle.delta_counts.proofs.DrainLaws.{counting-giving, first-none, if-map, none-core, then-one, thinner-one}
use Rattle.delta_counts.proofs.PartLaws.{counting-trans}
use Rattle.delta_counts.proofs.ShortLaws.{lowers-then, values-same}
use Rattle.delta_counts.proofs.FaultLaws.{err-map, fault-slots, free-again, slots-again, slots-free}
use Rattle.delta_counts.proofs.GiveLaws.{giving-refl, giving-trans, giving-tight, leaf-can, leaf-stored}

-- ---- the parts as a core

pub core-is : (p : Parts) → core_with (chunk_at p.segment) p.names ≡ core_of p
unfolding core_with core_of
core-is p = refl

pub core-over : (p q : Parts) → q.segment ≡ p.segment → core_with (chunk_at p.segment) q.names ≡ core_of q
core-over p q same = ap (λ (g : Segment). core_with (chunk_at g) q.names) (sym same) ∙ core-is q

pub over-core : (p : Parts) → IsParts p → IsCore (core_with (chunk_at p.segment) p.names)
over-core p parts = subst (λ (c : Core). IsCore c) (sym (core-is p)) parts.core

pub names-of : (p : Parts) → IsParts p → IsNames p.names
names-of p parts = (chunk_at p.segment, over-core p parts)

over-tight : (p : Parts) → IsTight (core_of p) → IsTight (core_with (chunk_at p.segment) p.names)
over-tight p tight = subst (λ (c : Core). IsTight c) (sym (core-is p)) tight

-- ---- the parts stay whole

given-marks : (p q : Parts) → HasMarksHere (core_of p) → IsGiving p.names q.names → HasMarksHere (core_of q)
unfolding core_of
given-marks p q m g = record {
  here = λ s on marked. ⊎_elim
      (λ (same : entry_at q.names.table s ≡ with_change (entry_at p.names.table s) (entry_at q.names.table s).change).
      ap (λ (e : Entry). is_some (place_of e.state)) same ∙ m.here s (ap (λ (e : Entry). is_used e.state) (sym same) ∙ on) (ap (λ (e : Entry). e.flags.marked) (sym same) ∙ marked))
      (λ off. let both : true ≡ false = sym on ∙ off in absurd (cc))
      (g.entries s);
}

pub given-whole : (p q : Parts) → IsWhole p → q.segment ≡ p.segment → IsGiving p.names q.names → IsWhole q
given-whole p q w same g = record {
  parts = record {
    core = subst (λ (c : Core). IsCore c) (core-over p q same) (g.core (chunk_at p.segment) (over-core p w.parts));
    room = let a = g.sum in let b = g.room in let c = w.parts.room in omega arith;
  };
  tight = subst (λ (c : Core). IsTight c) (core-over p q same) (giving-tight (chunk_at p.segment) p.names q.names g (over-tight p w.tight));
  marks = given-marks p q w.marks g;
}

-- ---- frames and effects

pub leaves-refl : {H : Type 0} {host : Ghosts H} (l : TwoLevels H host) → Leaves Same l l
leaves-refl {H} {host} l = record { disk = stays-refl host l.disk; held = refl; segment = refl; giving = giving-refl l.parts.names }

pub leaves-trans : {H : Type 0} {host : Ghosts H} (a b c : TwoLevels H host) → Leaves Same a b → Leaves Same b c → Leaves Same a c
leaves-trans {H} {host} a b c x y = record {
  disk = stays-trans host a.disk b.disk c.disk x.disk y.disk;
  held = y.held ∙ x.held;
  segment = y.segment ∙ x.segment;
  giving = giving-trans a.parts.names b.parts.names c.parts.names x.giving y.giving;
}

pub keeps-refl : {H : Type 0} {host : Ghosts H} (l : TwoLevels H host) (owed : List Value) → Keeps Same owed owed l l
keeps-refl {H} {host} l owed told t at x = record { levels = t; at = at; sound = x; heap = refl }

-- behind calls that leave the heap, a step is one from the first heap
pub keeps-then : {H : Type 0} {host : Ghosts H} (step : HeapStep) (us vs ws : List Value) (a b c : TwoLevels H host) → Keeps Same us vs a b → Keeps step vs ws b c → Keeps step us ws a c
keeps-then {H} {host} step us vs ws a b c f g told t at x =
    let r = f told t at x in
    let s = g told r.levels r.at r.sound in
    record { levels = s.levels; at = s.at; sound = s.sound; heap = subst (λ h. IsHeapStep step h (heap_of s.levels)) r.heap s.heap }

-- thinned twice is thinned
pub keeps-thinner : {H : Type 0} {host : Ghosts H} (us vs ws : List Value) (a b c : TwoLevels H host) → Keeps Thinner us vs a b → Keeps Thinner vs ws b c → Keeps Thinner us ws a c
keeps-thinner {H} {host} us vs ws a b c f g told t at x =
    let r = f told t at x in
    let s = g told r.levels r.at r.sound in
    record { levels = s.levels; at = s.at; sound = s.sound; heap = IsThinner-trans (heap_of t) (heap_of r.levels) (heap_of s.levels) r.heap s.heap r.sound.heap.closed }

-- what leaves the heap thins it
pub keeps-as-thinner : {H : Type 0} {host : Ghosts H} (us vs : List Value) (a b : TwoLevels H host) → Keeps Same us vs a b → Keeps Thinner us vs a b
keeps-as-thinner {H} {host} us vs a b f told t at x =
    let r = f told t at x in
    record { levels = r.levels; at = r.at; sound = r.sound; heap = subst (λ h. IsHeapStep Thinner (heap_of t) h) (sym r.heap) (IsThinner-refl (heap_of t)) }

pub sound-after : {H : Type 0} {host : Ghosts H} (step : HeapStep) (us vs : List Value) (a b : TwoLevels H host) → HasSound a us → Keeps step us vs a b → HasSound b vs
sound-after {H} {host} step us vs a b has f told =
    let h = has told in
    let r = f told h.0 h.1 h.2 in
    (r.levels, r.at, r.sound)

pub counts-none : {T H : Type 0} {host : Ghosts H} (l : TwoLevels H host) (owed : List Value) (x : T) → Counts Same owed owed l l (Ok x)
counts-none {T} {H} {host} l owed x = record { leaves = leaves-refl l; keeps = keeps-refl l owed; fault = tt }

-- behind a call that was done, what the next does is done by both
pub counts-then : {T H : Type 0} {host : Ghosts H} (us vs ws : List Value) (a b c : TwoLevels H host) (r : Result T DiskFault) → Leaves Same a b → Keeps Same us vs a b → Counts Same vs ws b c r → Counts Same us ws a c r
counts-then {T} {H} {host} us vs ws a b c (Ok v) x k y = record { leaves = leaves-trans a b c x y.leaves; keeps = keeps-then Same us vs ws a b c k y.keeps; fault = tt }
counts-then {T} {H} {host} us vs ws a b c (Err f) x k y = record { leaves = leaves-trans a b c x y.leaves; keeps = tt; fault = slots-again _ _ _ _ a.disk.rest b.disk.rest f x.disk.work.later x.disk.limit y.fault }

-- a fault that is handed on
pub counts-exit : {S T H : Type 0} {host : Ghosts H} (us vs : List Value) (a b : TwoLevels H host) (r : Result T DiskFault) (f : DiskFault) → IsErrAnd r (λ y. y ≡ f) → Counts {T = S} Same us vs a b (Err f) → Counts Same us vs a b r
counts-exit {S} {T} {H} {host} us vs a b (Ok x) f e p = absurd e
counts-exit {S} {T} {H} {host} us vs a b (Err y) f e p = record {
  leaves = p.leaves;
  keeps = tt;
  fault = subst (λ (z : DiskFault). IsSlotsFault (host.tells Work) (host.faults a.disk.host.now Work) (host.faults b.disk.host.now Work) a.disk.rest z) (sym e) p.fault;
}

-- ---- from calls on names and a disk

pub some-at : {H : Type 0} {host : Ghosts H} (l : TwoLevels H host) (owed : List Value) → HasSound l owed → AtSome host l.parts.names l.disk.host.now l.disk.rest (IsSoundWith owed)
some-at {H} {host} l owed has told = let x = has told in (chunk_at l.parts.segment, x.0, x.1, x.2)

reached-in : {H : Type 0} {host : Ghosts H} (a b : TwoLevels H host) (owed : List Value) (t : Levels) → b.parts.segment ≡ a.parts.segment → IsReached host (chunk_at a.parts.segment) b.parts.names b.disk.host.now b.disk.rest t owed → Reaches Same b t owed
reached-in {H} {host} a b owed t same r = record {
  levels = r.levels;
  at = subst (λ (g : Segment). IsAt host (chunk_at g) b.parts.names b.disk.host.now b.disk.rest r.levels) (sym same) r.at;
  sound = r.sound;
  heap = r.heap;
}

pub reached-ok : {T H : Type 0} {host : Ghosts H} (us vs : List Value) (a b : TwoLevels H host) (r : Result T DiskFault) → b.parts.segment ≡ a.parts.segment
    → (IsTrue (host.tells Work) → (chunks : ℕ → Chunk) (t : Levels) → IsAt host chunks a.parts.names a.disk.host.now a.disk.rest t → IsSound t us → OnOk r (IsReached host chunks b.parts.names b.disk.host.now b.disk.rest t vs)) → OnOk r (Keeps Same us vs a b)
reached-ok {T} {H} {host} us vs a b (Ok v) same f = λ told t at x. reached-in a b vs t same (f told (chunk_at a.parts.segment) t at x)
reached-ok {T} {H} {host} us vs a b (Err e) same f = tt

pub names-count : {T H : Type 0} {host : Ghosts H} (us vs : List Value) (a b : TwoLevels H host) (r : Result T DiskFault) → b.parts.segment ≡ a.parts.segment → IsGiving a.parts.names b.parts.names → StaysOnWork host a.disk b.disk → disk_held b.disk.rest ≡ disk_held a.disk.rest
    → (IsTrue (host.tells Work) → (chunks : ℕ → Chunk) (t : Levels) → IsAt host chunks a.parts.names a.disk.host.now a.disk.rest t → IsSound t us → OnOk r (IsReached host chunks b.parts.names b.disk.host.now b.disk.rest t vs))
    → IfErr r (IsSlotsFault (host.tells Work) (host.faults a.disk.host.now Work) (host.faults b.disk.host.now Work) a.disk.rest) → Counts Same us vs a b r
names-count {T} {H} {host} us vs a b r same giving disk held f fault = record {
  leaves = record { disk = disk; held = held; segment = same; giving = giving };
  keeps = reached-ok us vs a b r same f;
  fault = fault;
}

-- ---- the change of a leaf

-- the entry, in levels that stand there
at-leaf : {H : Type 0} (host : Ghosts H) (chunks : ℕ → Chunk) (p : Parts2) (now : H) (rest : DiskRest) (t : Levels) (s : ℕ) → IsAt host chunks p now rest t → is_used (entry_at p.table s).state ≡ true → place_of (entry_at p.table s).state ≡ None
    → (is_used (t.core.entries s).state ≡ true) × (place_of (t.core.entries s).state ≡ None)
at-leaf host chunks p now rest t s at used leaf =
    let e = entry-is host chunks p now rest t s at in
    (ap (λ (z : Entry). is_used z.state) e ∙ used, ap (λ (z : Entry). place_of z.state) e ∙ leaf)

pub leaf-some : {H : Type 0} {host : Ghosts H} (l : TwoLevels H host) (s : ℕ) → is_used (entry_at l.parts.names.table s).state ≡ true → place_of (entry_at l.parts.names.table s).state ≡ None → HasSound l [] → AtSome host l.parts.names l.disk.host.now l.disk.rest (CanFold s)
leaf-some {H} {host} l s used leaf has told =
    let x = has told in
    let e = at-leaf host (chunk_at l.parts.segment) l.parts.names l.disk.host.now l.disk.rest x.0 s x.1 used leaf in
    (chunk_at l.parts.segment, x.0, x.1, leaf-can x.0 s x.2 e.0 e.1)

pub leaf-folded : {H : Type 0} (host : Ghosts H) (chunks : ℕ → Chunk) (p q : Parts2) (was now : H) (before rest : DiskRest) (t : Levels) (s k : ℕ) → is_used (entry_at p.table s).state ≡ true → place_of (entry_at p.table s).state ≡ None → IsAt host chunks p was before t → IsSound t []
    → (CanFold s t → IsFolded host chunks q now rest t s k) → IsReached host chunks q now rest t []
leaf-folded host chunks p q was now before rest t s k used leaf at x f =
    let e = at-leaf host chunks p was before t s at used leaf in
    let r = leaf-stored t s x e.0 e.1 in
    record { levels = folded t s; at = (f (leaf-can t s x e.0 e.1)).at; sound = folded-sound t s r.0 [] x e.0 r.1; heap = folded-heap t s x.core e.0 }

-- it is 0 then
pub leaf-none : {H : Type 0} {host : Ghosts H} (l : TwoLevels H host) (q : Parts2) (now : H) (rest : DiskRest) (s k : ℕ) → is_used (entry_at l.parts.names.table s).state ≡ true → place_of (entry_at l.parts.names.table s).state ≡ None → HasSound l [] → IsTrue (host.tells Work)
    → ((chunks : ℕ → Chunk) (t : Levels) → IsAt host chunks l.parts.names l.disk.host.now l.disk.rest t → CanFold s t → IsFolded host chunks q now rest t s k) → (entry_at q.table s).change ≡ pos 0
leaf-none {H} {host} l q now rest s k used leaf has told f =
    let x = has told in
    let e = at-leaf host (chunk_at l.parts.segment) l.parts.names l.disk.host.now l.disk.rest x.0 s x.1 used leaf in
    let y = f (chunk_at l.parts.segment) x.0 x.1 (leaf-can x.0 s x.2 e.0 e.1) in
    ap (λ (z : Entry). z.change) (sym (entry-is host (chunk_at l.parts.segment) q now rest (folded x.0 s) s y.at)) ∙ ap (λ (z : Entry). z.change) (put-here x.0.core.entries s (with_change (x.0.core.entries s) (pos 0)))

leaf-reached : {H : Type 0} (host : Ghosts H) (chunks : ℕ → Chunk) (p q : Parts2) (was now : H) (before rest : DiskRest) (t : Levels) (s : ℕ) (r : Result ℕ DiskFault) → is_used (entry_at p.table s).state ≡ true → place_of (entry_at p.table s).state ≡ None → IsAt host chunks p was before t → IsSound t []
    → (CanFold s t → IfOk r (IsFolded host chunks q now rest t s)) → OnOk r (IsReached host chunks q now rest t [])
leaf-reached host chunks p q was now before rest t s (Ok k) used leaf at x f = leaf-folded host chunks p q was now before rest t s k used leaf at x f
leaf-reached host chunks p q was now before rest t s (Err e) used leaf at x f = tt

pub leaf-counts : {H : Type 0} {host : Ghosts H} (a b : TwoLevels H host) (s n : ℕ) (r : Result ℕ DiskFault) → is_used (entry_at a.parts.names.table s).state ≡ true → place_of (entry_at a.parts.names.table s).state ≡ None
    → b.parts.segment ≡ a.parts.segment → IsGiving a.parts.names b.parts.names → StaysOnWork host a.disk b.disk → disk_held b.disk.rest ≡ disk_held a.disk.rest
    → (IsTrue (host.tells Work) → (chunks : ℕ → Chunk) (t : Levels) → IsAt host chunks a.parts.names a.disk.host.now a.disk.rest t → CanFold s t → IfOk r (IsFolded host chunks b.parts.names b.disk.host.now b.disk.rest t s))
    → IfErr r (IsFault (host.tells Work) (host.faults a.disk.host.now Work) (host.faults b.disk.host.now Work) (IsSlotPlace a.disk.rest) n) → Counts Same [] [] a b r
leaf-counts {H} {host} a b s n r used leaf same giving disk held f fault = names-count [] [] a b r same giving disk held
    (λ told chunks t at x. leaf-reached host chunks a.parts.names b.parts.names a.disk.host.now b.disk.host.now a.disk.rest b.disk.rest t s r used leaf at x (f told chunks t at))
    (err-map r (λ e x. fault-slots _ _ _ _ a.disk.rest a.disk.rest n e (omega arith) refl x) fault)

pub leaf-zero : {H : Type 0} {host : Ghosts H} (l : TwoLevels H host) (q : Parts2) (now : H) (rest : DiskRest) (s : ℕ) (r : Result ℕ DiskFault) → is_used (entry_at l.parts.names.table s).state ≡ true → place_of (entry_at l.parts.names.table s).state ≡ None → HasSound l [] → IsTrue (host.tells Work)
    → ((chunks : ℕ → Chunk) (t : Levels) → IsAt host chunks l.parts.names l.disk.host.now l.disk.rest t → CanFold s t → IfOk r (IsFolded host chunks q now rest t s)) → OnOk r ((entry_at q.table s).change ≡ pos 0)
leaf-zero {H} {host} l q now rest s (Ok k) used leaf has told f = leaf-none l q now rest s k used leaf has told f
leaf-zero {H} {host} l q now rest s (Err e) used leaf has told f = tt

-- ---- short words

pub lowered-leaves : {H : Type 0} {host : Ghosts H} (a b : TwoLevels H host) → b.disk ≡ a.disk → b.parts.segment ≡ a.parts.segment → IsCounting a.parts.names b.parts.names → Leaves Same a b
lowered-leaves {H} {host} a b disk same counting = record {
  disk = rw disk (stays-refl host a.disk);
  held = rw disk refl;
  segment = same;
  giving = counting-giving a.parts.names b.parts.names counting;
}

-- the first word and then the others
pub lowered-keeps : {H : Type 0} {host : Ghosts H} (a b : TwoLevels H host) (q : Parts2) (w : ℕ) (ws : List ℕ) → b.disk ≡ a.disk → b.parts.segment ≡ a.parts.segment → IsCounting a.parts.names q → IsCounting q b.parts.names
    → Lowers a.parts.names q (short_value (entry_at a.parts.names.table) w ∷ []) → Lowers q b.parts.names (map (short_value (entry_at q.table)) ws)
    → Keeps Same (map (short_value (entry_at a.parts.names.table)) (w ∷ ws)) [] a b
lowered-keeps {H} {host} a b q w ws disk same first last one rest told t at x = record {
  levels = with_core t (core_with (chunk_at b.parts.segment) b.parts.names);
  at = record { core = refl; disk = rw disk at.disk };
  sound = subst (λ (g : Segment). IsSound (with_core t (core_with (chunk_at g) b.parts.names)) []) (sym same)
      (both (chunk_at a.parts.segment) t [] at.core (subst (λ (vs : List Value). IsSound t vs) (sym (no-more (map f (w ∷ ws)))) x));
  heap = heap-same t (with_core t (core_with (chunk_at b.parts.segment) b.parts.names)) keeps.held refl;
}
  where
    f : ℕ → Value
    f = short_value (entry_at a.parts.names.table)

    no-more : (vs : List Value) → vs ++ [] ≡ vs
    no-more [] = refl
    no-more (v ∷ vs) = ap (λ (us : List Value). v ∷ us) (no-more vs)

    both : Lowers a.parts.names b.parts.names (map f (w ∷ ws))
    both = lowers-then a.parts.names q b.parts.names (f w ∷ []) (map f ws) one (subst (λ (vs : List Value). Lowers q b.parts.names vs) (values-same a.parts.names q ws first) rest)

    all : IsCounting a.parts.names b.parts.names
    all = counting-trans a.parts.names q b.parts.names first last

    keeps : Kept (records_of t) t.core (core_with (chunk_at b.parts.segment) b.parts.names)
    keeps = subst (λ (g : Segment). Kept (records_of t) t.core (core_with (chunk_at g) b.parts.names)) (sym same)
        (subst (λ (c : Core). Kept (records_of t) c (core_with (chunk_at a.parts.segment) b.parts.names)) at.core
        (all.stays (chunk_at a.parts.segment) (over-core a.parts a.whole.parts) (records_of t) (subst (λ (c : Core). IsBacked c (records_of t)) (sym at.core) x.backed)))

-- ---- what is dead

first-reached : {H : Type 0} {host : Ghosts H} (a b : TwoLevels H host) (t : Levels) (found : Bool) → b.parts.segment ≡ a.parts.segment → IsSound t [] → Drains host (chunk_at a.parts.segment) b.parts.names b.disk.host.now b.disk.rest t found → Reaches Thinner b t []
first-reached {H} {host} a b t true same x d = record {
  levels = d.3.levels;
  at = subst (λ (g : Segment). IsAt host (chunk_at g) b.parts.names b.disk.host.now b.disk.rest d.3.levels) (sym same) d.3.at;
  sound = d.3.sound;
  heap = thinner-one t d.3.levels d.0 x d.1.uncounted d.3.heap;
}
first-reached {H} {host} a b t false same x d = record {
  levels = t;
  at = subst (λ (g : Segment). IsAt host (chunk_at g) b.parts.names b.disk.host.now b.disk.rest t) (sym same) d.1;
  sound = x;
  heap = IsThinner-refl (heap_of t);
}

pub firsts-reached : {H : Type 0} {host : Ghosts H} (a b : TwoLevels H host) (r : Result Bool DiskFault) → b.parts.segment ≡ a.parts.segment
    → (IsTrue (host.tells Work) → (chunks : ℕ → Chunk) (t : Levels) → IsAt host chunks a.parts.names a.disk.host.now a.disk.rest t → IsSound t [] → IfOk r (Drains host chunks b.parts.names b.disk.host.now b.disk.rest t)) → OnOk r (Keeps Thinner [] [] a b)
firsts-reached {H} {host} a b (Ok found) same f = λ told t at x. first-reached a b t found same x (f told (chunk_at a.parts.segment) t at x)
firsts-reached {H} {host} a b (Err e) same f = tt

pub names-free : {H : Type 0} {host : Ghosts H} (a b : TwoLevels H host) (r : Result Bool DiskFault) → b.parts.segment ≡ a.parts.segment → IsGiving a.parts.names b.parts.names → StaysOnWork host a.disk b.disk → OnOk r (Keeps Thinner [] [] a b)
    → IfErr r (IsFreeFault (host.tells Work) (host.faults a.disk.host.now Work) (host.faults b.disk.host.now Work) a.disk.rest) → Frees a b r
names-free {H} {host} a b r same giving disk keeps fault = record {
  leaves = record { disk = disk; held = tt; segment = same; giving = giving };
  keeps = keeps;
  fault = fault;
}

-- a call that leaves the heap is one that may thin it
pub leaves-as-thinner : {H : Type 0} {host : Ghosts H} (a b : TwoLevels H host) → Leaves Same a b → Leaves Thinner a b
leaves-as-thinner {H} {host} a b x = record { disk = x.disk; held = tt; segment = x.segment; giving = x.giving }

pub leaves-thinner : {H : Type 0} {host : Ghosts H} (a b c : TwoLevels H host) → Leaves Thinner a b → Leaves Thinner b c → Leaves Thinner a c
leaves-thinner {H} {host} a b c x y = record {
  disk = stays-trans host a.disk b.disk c.disk x.disk y.disk;
  held = tt;
  segment = y.segment ∙ x.segment;
  giving = giving-trans a.parts.names b.parts.names c.parts.names x.giving y.giving;
}

-- behind a call that was done, what the next frees is freed by both
pub frees-then : {T H : Type 0} {host : Ghosts H} (a b c : TwoLevels H host) (r : Result T DiskFault) → Leaves Thinner a b → Keeps Thinner [] [] a b → Frees b c r → Frees a c r
frees-then {T} {H} {host} a b c (Ok v) x k y = record { leaves = leaves-thinner a b c x y.leaves; keeps = keeps-thinner [] [] [] a b c k y.keeps; fault = tt }
frees-then {T} {H} {host} a b c (Err f) x k y = record { leaves = leaves-thinner a b c x y.leaves; keeps = tt; fault = free-again _ _ _ _ a.disk.rest b.disk.rest f x.disk.work.later x.disk.limit y.fault }

-- a call that counts is one that frees
pub counts-frees : {T H : Type 0} {host : Ghosts H} (a b : TwoLevels H host) (r : Result T DiskFault) → Counts Same [] [] a b r → Frees a b r
counts-frees {T} {H} {host} a b (Ok v) x = record { leaves = leaves-as-thinner a b x.leaves; keeps = keeps-as-thinner [] [] a b x.keeps; fault = tt }
counts-frees {T} {H} {host} a b (Err f) x = record { leaves = leaves-as-thinner a b x.leaves; keeps = tt; fault = slots-free _ _ _ _ a.disk.rest a.disk.rest f (omega arith) refl x.fault }

-- a fault that is handed on
pub frees-exit : {S T H : Type 0} {host : Ghosts H} (a b : TwoLevels H host) (r : Result T DiskFault) (f : DiskFault) → IsErrAnd r (λ y. y ≡ f) → Frees {T = S} a b (Err f) → Frees a b r
frees-exit {S} {T} {H} {host} a b (Ok x) f e p = absurd e
frees-exit {S} {T} {H} {host} a b (Err y) f e p = record {
  leaves = p.leaves;
  keeps = tt;
  fault = subst (λ (z : DiskFault). IsFreeFault (host.tells Work) (host.faults a.disk.host.now Work) (host.faults b.disk.host.now Work) a.disk.rest z) (sym e) p.fault;
}

-- where none was pending, and then the entries of idle leaves were given up, the next that is pending is the one, or there is none
pub drained-then : {H : Type 0} {host : Ghosts H} (b c d : TwoLevels H host) (found : Bool) (r : Result Bool DiskFault) (t : Levels) → found ≡ false → IsTrue (host.tells Work) → IsSound t [] → Drains host (chunk_at b.parts.segment) b.parts.names b.disk.host.now b.disk.rest t found
    → Leaves Same b c → Keeps Same [] [] b c → NoneIdleBelow (entries_of b.parts.names.table) c.parts.names → d.parts.segment ≡ c.parts.segment
    → ((u : Levels) → StandsFor c u → IsSound u [] → IfOk r (Drains host (chunk_at d.parts.segment) d.parts.names d.disk.host.now d.disk.rest u)) → IfOk r (DrainsOne host (chunk_at d.parts.segment) d.parts.names d.disk.host.now d.disk.rest t)
drained-then {H} {host} b c d found r t off told x first leaves keeps none same last =
    let at = first-none host (chunk_at b.parts.segment) b.parts.names b.disk.host.now b.disk.rest t found off first in
    let z = keeps told t at x in
    if-map r (λ k v. then-one host (chunk_at d.parts.segment) b.parts.names c.parts.names d.parts.names b.disk.host.now c.disk.host.now d.disk.host.now b.disk.rest c.disk.rest d.disk.rest t z.levels k
    (subst (λ (g : Segment). IsAt host (chunk_at g) b.parts.names b.disk.host.now b.disk.rest t) (sym (same ∙ leaves.segment)) at)
    (subst (λ (g : Segment). IsAt host (chunk_at g) c.parts.names c.disk.host.now c.disk.rest z.levels) (sym same) z.at)
    leaves.giving x z.heap z.sound (none-core host (chunk_at c.parts.segment) b.parts.names c.parts.names c.disk.host.now c.disk.rest z.levels leaves.giving none z.at z.sound) v) (last z.levels z.at z.sound)
