-- What calls on a pager leave that free what is dead, one after another.
use Rattle.std.proofs.Common.{◌≡◌, Bool, true, false, [], IsTrue, Result, Ok, Err, refl, sym, ap, subst, ◌∙◌, arith}
use Rattle.std.specs.Result.{IfOk, IsErrAnd}
use Rattle.long_names.specs.Heap.{Heap, Has}
use Rattle.long_names.specs.Thin.{IsThinner}
use Rattle.loom_host.specs.declared.outside.DiskFault.{DiskFault}
use Rattle.loom_host.specs.declared.outside.Host.{Ghosts}
use Rattle.loom_host.specs.declared.outside.Role.TheVariants.{Work}
use Rattle.object_table.specs.Table.{entries_of}
use Rattle.disk_objects.proofs.StayLaws.{stays-refl, stays-trans}
use Rattle.core_segment.specs.Segment.{chunk_at, free_of}
use Rattle.core_view.proofs.Purge.{body-then}
use Rattle.leaf_lambda.specs.Parts.{core_of}
use Rattle.core_view.specs.Levels.{Levels, heap_of}
use Rattle.core_view.specs.Counted.{IsSound}
use Rattle.delta_counts.specs.At.{DrainsOne}
use Rattle.delta_counts.specs.Effects.{Counts, Frees, HasSound, Keeps, Leaves, Same, StandsFor, Thinner}
use Rattle.delta_counts.specs.declared.two_levels.TwoLevels.{TwoLevels}
use Rattle.delta_counts.proofs.EffectLaws.{counts-frees}
use Rattle.purger.specs.Draining.{NoBodyDead, Thins}
use Rattle.purger.specs.Freeing.{FreesAll, FreesBare, FreesDead, HasTold, KeepsAll, LeavesNamed, ThinsHeap}
use Rattle.purger.specs.Marks.{MindsMarks}
use Rattle.purger.specs.Pager.{core_in, IsReady}
use Rattle.purger.specs.Purge.{IsReadFault, KeepsBodies}
use Rattle.purger.specs.declared.pager.Pager.{Pager}
use Rattle.purger.specs.declared.room.Pinned.{Pinned}
use Rattle.purger.proofs.DrainLaws.{free-read-if, read-later}
use Rattle.purger.proofs.MindLaws.{minds-refl, minds-trans}
use Rattle.purger.proofs.PagerLaws.{are-here}
use Rattle.purger.proofs.ThinLaws.{all-drained, giving-bodies, giving-leaves, giving-minds, leaves-bound, leaves-refl, leaves-trans, thinned-first, thinned-has, thinned-number, thinned-trans}

pub named-refl : {H : Type 0} {host : Ghosts H} (p : Pager H host) → LeavesNamed p p
named-refl {H} {host} p = record {
  disk = stays-refl host p.levels.disk;
  pinned = refl;
  rest = leaves-refl p.levels.parts p.levels.whole.parts p.levels.whole.tight (are-here (core_in p) p.levels.whole.marks);
}

pub named-trans : {H : Type 0} {host : Ghosts H} (a b c : Pager H host) → LeavesNamed a b → LeavesNamed b c → LeavesNamed a c
named-trans {H} {host} a b c x y = record {
  disk = stays-trans host a.levels.disk b.levels.disk c.levels.disk x.disk y.disk;
  pinned = y.pinned ∙ x.pinned;
  rest = leaves-trans a.levels.parts b.levels.parts c.levels.parts x.rest y.rest;
}

pub thins-refl : {H : Type 0} {host : Ghosts H} (p : Pager H host) → ThinsHeap p p
thins-refl {H} {host} p = record { keeps = λ told. thinned-first host p.levels.parts p.levels.disk.host.now p.levels.disk.rest; minds = minds-refl (core_in p) }

pub thins-trans : {H : Type 0} {host : Ghosts H} (a b c : Pager H host) → ThinsHeap a b → ThinsHeap b c → ThinsHeap a c
thins-trans {H} {host} a b c x y = record {
  keeps = λ told. thinned-trans host a.levels.parts b.levels.parts c.levels.parts a.levels.disk.host.now b.levels.disk.host.now c.levels.disk.host.now a.levels.disk.rest b.levels.disk.rest c.levels.disk.rest (x.keeps told) (y.keeps told);
  minds = minds-trans (core_in a) (core_in b) (core_in c) x.minds y.minds;
}

pub sound-behind : {H : Type 0} {host : Ghosts H} (a b : Pager H host) → HasSound a.levels [] → ThinsHeap a b → HasSound b.levels []
sound-behind {H} {host} a b has x = thinned-has host a.levels.parts b.levels.parts a.levels.disk.host.now b.levels.disk.host.now a.levels.disk.rest b.levels.disk.rest has x.keeps

pub named-entries : {H : Type 0} {host : Ghosts H} (a b : Pager H host) → LeavesNamed a b → entries_of b.levels.parts.names.table ≡ entries_of a.levels.parts.names.table
named-entries {H} {host} a b x = leaves-bound a.levels.parts b.levels.parts x.rest

-- ---- calls that free

pub free-none : {T H : Type 0} {host : Ghosts H} (p : Pager H host) (x : T) → FreesDead p p (Ok x)
free-none {T} {H} {host} p x = record { leaves = named-refl p; keeps = thins-refl p; fault = tt }

pub free-done : {T H : Type 0} {host : Ghosts H} (a b : Pager H host) (x : T) → LeavesNamed a b → ThinsHeap a b → FreesDead a b (Ok x)
free-done {T} {H} {host} a b x l k = record { leaves = l; keeps = k; fault = tt }

pub free-then : {T H : Type 0} {host : Ghosts H} (a b c : Pager H host) (r : Result T DiskFault) → LeavesNamed a b → ThinsHeap a b → FreesDead b c r → FreesDead a c r
free-then {T} {H} {host} a b c (Ok v) x k y = record { leaves = named-trans a b c x y.leaves; keeps = thins-trans a b c k y.keeps; fault = tt }
free-then {T} {H} {host} a b c (Err f) x k y = record { leaves = named-trans a b c x y.leaves; keeps = tt; fault = read-later (host.tells Work) (host.faults a.levels.disk.host.now Work) (host.faults b.levels.disk.host.now Work) (host.faults c.levels.disk.host.now Work) f x.disk.work.later y.fault }

pub free-exit : {S T H : Type 0} {host : Ghosts H} (a b : Pager H host) (r : Result T DiskFault) (f : DiskFault) → IsErrAnd r (λ y. y ≡ f) → FreesDead {T = S} a b (Err f) → FreesDead a b r
free-exit {S} {T} {H} {host} a b (Ok x) f e p = absurd e
free-exit {S} {T} {H} {host} a b (Err y) f e p = record {
  leaves = p.leaves;
  keeps = tt;
  fault = subst (λ (z : DiskFault). IsReadFault (host.tells Work) (host.faults a.levels.disk.host.now Work) (host.faults b.levels.disk.host.now Work) z) (sym e) p.fault;
}

-- ---- calls on the levels, by which no body goes

levels-minds : {H : Type 0} {host : Ghosts H} (a b : TwoLevels H host) → Leaves Thinner a b → MindsMarks (core_of a.parts) (core_of b.parts)
levels-minds {H} {host} a b x = giving-minds a.parts b.parts a.whole.parts (are-here (core_of a.parts) a.whole.marks) x.segment x.giving

levels-bodies : {H : Type 0} {host : Ghosts H} (a b : TwoLevels H host) → Leaves Thinner a b → KeepsBodies (core_of a.parts) (core_of b.parts)
levels-bodies {H} {host} a b x = giving-bodies a.parts b.parts a.whole.parts x.segment x.giving

levels-thins : {H : Type 0} {host : Ghosts H} (a b : TwoLevels H host) → Leaves Thinner a b → Keeps Thinner [] [] a b → IsTrue (host.tells Work) → Thins host a.parts a.disk.host.now a.disk.rest b.parts b.disk.host.now b.disk.rest
levels-thins {H} {host} a b x k told t at s =
    let r = k told t at s in
    record { levels = r.levels; at = r.at; sound = r.sound; thinner = r.heap; bodies = λ i p place has. levels-bodies a b x i p place; minds = levels-minds a b x }

levels-named : {H : Type 0} {host : Ghosts H} (a b : Pager H host) → b.pinned ≡ a.pinned → Leaves Thinner a.levels b.levels → LeavesNamed a b
levels-named {H} {host} a b pinned x = record {
  disk = x.disk;
  pinned = pinned;
  rest = giving-leaves a.levels.parts b.levels.parts a.levels.whole.parts a.levels.whole.tight (are-here (core_in a) a.levels.whole.marks) x.segment x.giving;
}

pub levels-free : {T H : Type 0} {host : Ghosts H} (a b : Pager H host) (r : Result T DiskFault) → b.pinned ≡ a.pinned → Frees a.levels b.levels r → FreesDead a b r
levels-free {T} {H} {host} a b (Ok v) pinned x = record {
  leaves = levels-named a b pinned x.leaves;
  keeps = record { keeps = levels-thins a.levels b.levels x.leaves x.keeps; minds = levels-minds a.levels b.levels x.leaves };
  fault = tt;
}
levels-free {T} {H} {host} a b (Err f) pinned x = record {
  leaves = levels-named a b pinned x.leaves;
  keeps = tt;
  fault = free-read-if {T = T} (host.tells Work) (host.faults a.levels.disk.host.now Work) (host.faults b.levels.disk.host.now Work) a.levels.disk.rest (Err f) x.fault;
}

pub levels-count : {T H : Type 0} {host : Ghosts H} (a b : Pager H host) (r : Result T DiskFault) → b.pinned ≡ a.pinned → Counts Same [] [] a.levels b.levels r → FreesDead a b r
levels-count {T} {H} {host} a b r pinned x = levels-free a b r pinned (counts-frees a.levels b.levels r x)

-- the last name without a body that was dead went
pub last-bare : {H : Type 0} {host : Ghosts H} (a b c : Pager H host) (found : Bool) → found ≡ false → ThinsHeap a b → Leaves Thinner b.levels c.levels → IsTrue (host.tells Work)
    → ((t : Levels) → StandsFor b.levels t → IsSound t [] → DrainsOne host (chunk_at c.levels.parts.segment) c.levels.parts.names c.levels.disk.host.now c.levels.disk.rest t found) → FreesBare a c
last-bare {H} {host} a b c true e f x told h t at s = absurd (let no : true ≡ false = e in cc)
last-bare {H} {host} a b c false e f x told h t at s =
    let r = f.keeps told t at s in
    let d = h r.levels r.at r.sound in
    record {
      thinned = record {
        levels = d.0.levels;
        at = d.0.at;
        sound = d.0.sound;
        thinner = subst (λ h. IsThinner (heap_of t) h) (sym d.0.heap) r.thinner;
        bodies = λ i p there has.
            let first = r.bodies i p there (subst (λ (h : Heap). Has h ((core_in a).entries i).name) d.0.heap has) in
            body-then (core_in a) (core_in b) (core_in c) i p first (levels-bodies b.levels c.levels x i first.at first.place);
        minds = minds-trans (core_in a) (core_in b) (core_in c) r.minds (levels-minds b.levels c.levels x);
      };
      none = d.1;
    }

-- what is asked for before room is made
pub ready-behind : {H : Type 0} {host : Ghosts H} (a b : Pager H host) → IsReady a → LeavesNamed a b → ThinsHeap a b → IsReady b
ready-behind {H} {host} a b ready x k = record {
  sound = sound-behind a b ready.sound k;
  counted = λ told.
      let less = thinned-number host a.levels.parts b.levels.parts a.levels.disk.host.now b.levels.disk.host.now a.levels.disk.rest b.levels.disk.rest ready.sound told (k.keeps told) in
      let most = ready.counted told in
      let room = x.disk.limit in
      omega arith;
}

-- the pinned three are others
pub ready-pinned : {H : Type 0} {host : Ghosts H} (p : Pager H host) (q : Pinned) → IsReady p → IsReady (record p { pinned = q })
ready-pinned {H} {host} p q x = record { sound = x.sound; counted = x.counted }

-- rounds, then all names without a body, then all objects of the table: nothing is dead
pub all-free : {H : Type 0} {host : Ghosts H} (a b c d : Pager H host) → IsTrue (host.tells Work) → ThinsHeap a b → FreesBare b c → ThinsHeap c d → KeepsAll c d NoBodyDead → FreesAll a d
all-free {H} {host} a b c d told x y z none = all-drained host a.levels.parts b.levels.parts c.levels.parts d.levels.parts a.levels.disk.host.now b.levels.disk.host.now c.levels.disk.host.now d.levels.disk.host.now a.levels.disk.rest b.levels.disk.rest c.levels.disk.rest d.levels.disk.rest
    (x.keeps told) y (z.keeps told) none

-- ---- from calls on parts and a disk

-- behind a step by which no words became free
pub told-later : {H : Type 0} {host : Ghosts H} (a b c : Pager H host) (r : Result Bool DiskFault) → b.levels.parts.segment ≡ a.levels.parts.segment → b.out ≡ a.out → IfOk r (HasTold b c) → IfOk r (HasTold a c)
told-later {H} {host} a b c (Ok v) same out x = record { wider = λ on. let e = ap free_of same in let more = x.wider on in omega arith; there = x.there; still = λ off. x.still off ∙ out }
told-later {H} {host} a b c (Err f) same out x = tt
