-- What the steps leave by which one object is evicted, put together.
use Rattle.std.proofs.Common.{◌≡◌, ℕ, pos, ◌<◌, ◌≤◌, IsTrue, Result, Ok, Err, cond, is_some, true, false, [], Option, Some, None, sym, ap, subst, ◌∙◌, arith}
use Rattle.std.specs.Result.{OnOk, IsErrAnd}
use Rattle.long_names.specs.declared.object.Object.{Object}
use Rattle.loom_host.specs.declared.outside.DiskFault.{DiskFault}
use Rattle.loom_host.specs.declared.outside.Host.{Ghosts}
use Rattle.loom_host.specs.declared.outside.Role.TheVariants.{Work}
use Rattle.object_table.specs.Entries.{is_used, place_of}
use Rattle.object_table.specs.Table.{entry_at}
use Rattle.disk_objects.specs.Function.{disk_of}
use Rattle.disk_objects.specs.Disk.{disk_held, disk_room}
use Rattle.disk_objects.specs.Stays.{StaysOnWork}
use Rattle.disk_objects.specs.declared.objects.DiskObjects.{DiskObjects}
use Rattle.disk_objects.proofs.StayLaws.{stays-read, stays-trans}
use Rattle.core_segment.specs.Segment.{free_of, size_of}
use Rattle.core_view.specs.Purge.{IsPurged}
use Rattle.core_view.specs.Room.{is_among}
use Rattle.core_view.proofs.Core.{placed-used}
use Rattle.core_view.proofs.Fresh.{fresh-is}
use Rattle.leaf_lambda.specs.declared.parts.Parts.{Parts}
use Rattle.leaf_lambda.specs.Parts.{core_of, spare_of, IsWithin}
use Rattle.leaf_lambda.proofs.TranslateLaws.{Within-refl}
use Rattle.delta_counts.specs.Effects.{Keeps, Leaves, Same}
use Rattle.delta_counts.specs.declared.two_levels.TwoLevels.{TwoLevels}
use Rattle.delta_counts.proofs.EffectLaws.{keeps-then, sound-after}
use Rattle.purger.specs.Counts.{KeepsSound}
use Rattle.purger.specs.Leaving.{Evicts, LeavesOthers, Reads, Unmarks}
use Rattle.purger.specs.Marks.{KeepsMarks, MindsMarks}
use Rattle.purger.specs.Pager.{core_in, HasLeft, IsReady, Preserves, Purges, Spares}
use Rattle.purger.specs.Purge.{IsEvictFault, IsPurgeFault}
use Rattle.purger.specs.Rounds.{KeepsAllBut}
use Rattle.purger.specs.declared.pager.Pager.{Pager}
use Rattle.purger.proofs.EvictLaws.{read-same}
use Rattle.purger.proofs.GivingLaws.{evict-later, given-gone, giving-up, left-purged}
use Rattle.purger.proofs.MarkLaws.{Marks-same, Marks-trans, state-same, unmarked-fresh, within-marks}
use Rattle.purger.proofs.MindLaws.{came-trans, left-out, minds-after, minds-kept, unmarked-came, within-came}
use Rattle.purger.proofs.OnlyLaws.{only-gone}
use Rattle.purger.proofs.PagerLaws.{keeps-of}
use Rattle.purger.proofs.RoundLaws.{purged-all}
use Rattle.purger.proofs.SoundLaws.{has-backed, unmarked-sound}
use Rattle.purger.proofs.RoomLaws.{purge-fault}

-- ---- what was read

pub reads-others : {T H : Type 0} {host : Ghosts H} (s : ℕ) (a b : Pager H host) (r : Result T DiskFault) → Reads a b r → LeavesOthers s a b
reads-others {T} {H} {host} s a b r x = record {
  disk = stays-read host a.levels.disk b.levels.disk x.disk;
  pinned = x.pinned;
  size = ap (λ (p : Parts). size_of p.segment) x.parts;
  spare = ap spare_of x.parts;
  within = subst (λ (p : Parts). IsWithin s (core_in a) (core_of p)) (sym x.parts) (Within-refl s (core_in a));
}

-- ---- a record was written

-- behind what was read, in parts that are the same
pub wrote-others : {T H : Type 0} {host : Ghosts H} (s : ℕ) (a b c : Pager H host) (r : Result T DiskFault) → Reads a b r → StaysOnWork host b.levels.disk c.levels.disk → c.levels.parts ≡ b.levels.parts → c.pinned ≡ b.pinned → LeavesOthers s a c
wrote-others {T} {H} {host} s a b c r x disk parts pinned = record {
  disk = stays-trans host a.levels.disk b.levels.disk c.levels.disk (stays-read host a.levels.disk b.levels.disk x.disk) disk;
  pinned = pinned ∙ x.pinned;
  size = ap (λ (p : Parts). size_of p.segment) (parts ∙ x.parts);
  spare = ap spare_of (parts ∙ x.parts);
  within = subst (λ (p : Parts). IsWithin s (core_in a) (core_of p)) (sym (parts ∙ x.parts)) (Within-refl s (core_in a));
}

pub wrote-evicts : {T H : Type 0} {host : Ghosts H} (s : ℕ) (a b : Pager H host) (x : T) → LeavesOthers s a b
    → (IsTrue (host.tells Work) → KeepsSound host a.levels.parts a.levels.disk.host.now a.levels.disk.rest b.levels.parts b.levels.disk.host.now b.levels.disk.rest) → Evicts s a b (Ok x)
wrote-evicts {T} {H} {host} s a b x leaves keeps = record { leaves = leaves; keeps = keeps-of a.levels b.levels keeps; fault = tt }

-- where there is room for each object that has no record, it isn't wanting
pub wrote-fault : {S T H : Type 0} {host : Ghosts H} (s at : ℕ) (a b c : Pager H host) (q : Result S DiskFault) (r : Result T DiskFault) (f : DiskFault) → IsReady a → place_of ((core_in a).entries s).state ≡ Some at → Reads a b q → IsErrAnd r (λ y. y ≡ f) → LeavesOthers s a c
    → (n : ℕ) → n ≡ ((core_in a).entries s).name → IsEvictFault host b.levels.disk.host.now c.levels.disk.host.now b.levels.disk.rest (cond (is_some (disk_of host b.levels.disk.host.now b.levels.disk.rest n)) false true) f → Evicts s a c r
wrote-fault {S} {T} {H} {host} s at a b c q (Ok v) f ready place x e leaves n name fault = absurd e
wrote-fault {S} {T} {H} {host} s at a b c q (Err y) f ready place x e leaves n name fault = record {
  leaves = leaves;
  keeps = tt;
  fault = subst (λ (z : DiskFault). IsPurgeFault host a.levels.disk.host.now c.levels.disk.host.now z) (sym e)
      (purge-fault host a.levels.disk.host.now c.levels.disk.host.now a.levels.disk.rest (core_in a) s at f a.levels.whole.parts.core place ready.counted
      (evict-later host a.levels.disk.host.now b.levels.disk.host.now c.levels.disk.host.now a.levels.disk.rest b.levels.disk.rest (cond (is_some (disk_of host b.levels.disk.host.now b.levels.disk.rest n)) false true) ((core_in a).entries s).flags.fresh f x.disk.read.later x.disk.rest
      (λ told g. sym (ap (λ (o : Option Object). cond (is_some o) false true) there ∙ fresh-is (core_in a) disk s at (has-backed host a.levels.parts a.levels.disk.host.now a.levels.disk.rest ready.sound told) place) ∙ g) fault));
}
  where
    disk : ℕ → Option Object
    disk = disk_of host a.levels.disk.host.now a.levels.disk.rest

    there : disk_of host b.levels.disk.host.now b.levels.disk.rest n ≡ disk ((core_in a).entries s).name
    there = ap (λ (k : ℕ → Option Object). k n) (read-same host a.levels.disk.host.now b.levels.disk.host.now a.levels.disk.rest b.levels.disk.rest x.disk.rest x.disk.read) ∙ ap disk name

-- ---- all marks go

pub unmarks-keeps : {H : Type 0} {host : Ghosts H} (s : ℕ) (a b : Pager H host) → Unmarks s a b → Keeps Same [] [] a.levels b.levels
unmarks-keeps {H} {host} s a b u = keeps-of a.levels b.levels (λ told. rw u.disk (unmarked-sound host a.levels.parts b.levels.parts a.levels.disk.host.now a.levels.disk.rest b.levels.whole.parts u.stays u.step))

pub unmarks-ready : {H : Type 0} {host : Ghosts H} (s : ℕ) (a b : Pager H host) → IsReady a → Unmarks s a b → IsReady b
unmarks-ready {H} {host} s a b ready u = record {
  sound = sound-after Same [] [] a.levels b.levels ready.sound (unmarks-keeps s a b u);
  counted = λ told.
      let same = unmarked-fresh (core_in a) (core_in b) u.step in
      let held = ap (λ (d : DiskObjects H). disk_held d.rest) u.disk in
      let room = ap (λ (d : DiskObjects H). disk_room d.rest) u.disk in
      let most = ready.counted told in
      omega arith;
}

pub unmarks-body : {H : Type 0} {host : Ghosts H} (s at : ℕ) (a b : Pager H host) → Unmarks s a b → place_of ((core_in a).entries s).state ≡ Some at → place_of ((core_in b).entries s).state ≡ Some at
unmarks-body {H} {host} s at a b u place = ap place_of (state-same (core_in a) (core_in b) s u.step) ∙ place

-- a step after it that leaves all but one object
pub unmarked-minds : {H : Type 0} {host : Ghosts H} (s at : ℕ) (a b : Pager H host) (c : Pager H host) → place_of ((core_in a).entries s).state ≡ Some at → Unmarks s a b → MindsMarks (core_in b) (core_in c)
    → Rattle.purger.specs.Marks.IsOut (core_in c) ((core_in a).entries s).name → MindsMarks (core_in a) (core_in c)
unmarked-minds {H} {host} s at a b c place u minds out = minds-after (core_in a) (core_in b) (core_in c) s a.levels.whole.parts.core (placed-used ((core_in a).entries s).state at place) u.step u.marks u.gone u.idle minds out

-- ---- an object left

-- whichever three are pinned, if it isn't among them
pub left-all : {H : Type 0} {host : Ghosts H} (s at : ℕ) (a b c : Pager H host) → place_of ((core_in a).entries s).state ≡ Some at → Unmarks s a b → LeavesOthers s b c → (p q k : ℕ) → is_among p q k s ≡ false → IsPurged p q k (core_in a) (core_in c)
left-all {H} {host} s at a b c place u x p q k away = left-purged p q k s at (core_in a) (core_in b) (core_in c) b.levels.whole.parts.core u.step u.outside x.within place away

pub left-one : {H : Type 0} {host : Ghosts H} (s at : ℕ) (a b c : Pager H host) → place_of ((core_in a).entries s).state ≡ Some at → Unmarks s a b → LeavesOthers s b c → KeepsAllBut s (core_in a) (core_in c)
left-one {H} {host} s at a b c place u x = purged-all s (core_in a) (core_in c) (left-all s at a b c place u x)

others-marks : {H : Type 0} {host : Ghosts H} (s : ℕ) (b c : Pager H host) → LeavesOthers s b c → KeepsMarks (core_in b) (core_in c)
others-marks {H} {host} s b c x = within-marks (core_in b) (core_in c) s b.levels.whole.parts.core c.levels.whole.parts.core x.within

pub left-spares : {H : Type 0} {host : Ghosts H} (s at : ℕ) (a b c : Pager H host) → place_of ((core_in a).entries s).state ≡ Some at → is_among a.pinned.a a.pinned.b a.pinned.d s ≡ false → Unmarks s a b → LeavesOthers s b c → Spares a c
left-spares {H} {host} s at a b c place loose u x = record {
  disk = subst (λ (d : DiskObjects H). StaysOnWork host d c.levels.disk) u.disk x.disk;
  size = x.size ∙ ap size_of u.segment;
  pinned = x.pinned ∙ u.pinned;
  purged = left-all s at a b c place u x a.pinned.a a.pinned.b a.pinned.d loose;
  marks = Marks-trans (core_in a) (core_in b) (core_in c) u.marks (Marks-same (core_in b) (core_in c) (others-marks s b c x));
}

pub left-preserves : {H : Type 0} {host : Ghosts H} (s at : ℕ) (a b c : Pager H host) → place_of ((core_in a).entries s).state ≡ Some at → Unmarks s a b → LeavesOthers s b c → Keeps Same [] [] b.levels c.levels
    → place_of ((core_in c).entries s).state ≡ None → free_of b.levels.parts.segment < free_of c.levels.parts.segment → Preserves a c
left-preserves {H} {host} s at a b c place u x keeps gone wider = record {
  keeps = keeps-then Same [] [] [] a.levels b.levels c.levels (unmarks-keeps s a b u) keeps;
  minds = unmarked-minds s at a b c place u (minds-kept (core_in b) (core_in c) came (others-marks s b c x))
      (left-out (core_in a) (core_in c) s a.levels.whole.parts.core (placed-used ((core_in a).entries s).state at place) (came-trans (core_in a) (core_in b) (core_in c) (unmarked-came (core_in a) (core_in b) u.step) came) gone);
  only = only-gone s (core_in a) (core_in c) (left-all s at a b c place u x) gone;
  less = record { words = let e = ap free_of u.segment in omega arith; entries = let e = u.spare in let f = x.spare in omega arith };
}
  where
    came : Rattle.purger.proofs.MindLaws.NoneCame (core_in b) (core_in c)
    came = within-came (core_in b) (core_in c) s x.within gone

-- where it had no mark, all marks stay
pub left-marks : {H : Type 0} {host : Ghosts H} (s : ℕ) (a b c : Pager H host) → Unmarks s a b → LeavesOthers s b c → ((core_in a).entries s).flags.marked ≡ false → KeepsMarks (core_in a) (core_in c)
left-marks {H} {host} s a b c u x off = subst (λ k. KeepsMarks k (core_in c)) (u.idle off) (others-marks s b c x)

pub left-fault : {S T H : Type 0} {host : Ghosts H} (s : ℕ) (a b c : Pager H host) (f : DiskFault) → Spares a c → Unmarks s a b → Evicts {T = S} s b c (Err f) → Purges {T = T} a c (Err f)
left-fault {S} {T} {H} {host} s a b c f spares u x = record {
  leaves = spares;
  keeps = tt;
  fault = subst (λ (d : DiskObjects H). IsPurgeFault host d.host.now c.levels.disk.host.now f) u.disk x.fault;
}

-- its change was folded then, and its entry goes where nothing refers to it
pub left-behind : {T H : Type 0} {host : Ghosts H} (s : ℕ) (l : TwoLevels H host) (p : Pager H host) (r : Result T DiskFault) → place_of ((core_of l.parts).entries s).state ≡ None → Leaves Same l p.levels
    → OnOk r (is_used (entry_at p.levels.parts.names.table s).state ≡ true → 1 ≤ (entry_at p.levels.parts.names.table s).refs) → (IsTrue (host.tells Work) → OnOk r ((entry_at p.levels.parts.names.table s).change ≡ pos 0)) → OnOk r (HasLeft s p)
unfolding core_of
left-behind {T} {H} {host} s l p (Ok v) gone x none folded = record {
  gone = given-gone (core_of l.parts) (core_of p.levels.parts) s (giving-up l.parts p.levels.parts l.whole.parts x.segment x.giving) gone;
  none = none;
  folded = folded;
}
left-behind {T} {H} {host} s l p (Err f) gone x none folded = tt
