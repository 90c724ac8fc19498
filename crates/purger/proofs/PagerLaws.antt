-- What calls on a pager leave, one after another.
use Rattle.std.proofs.Common.{◌≡◌, inl, inr, ℕ, ◌+◌, ◌*◌, ◌<◌, IsTrue, Result, Ok, Err, true, [], Option, Some, is_some, refl, sym, ap, subst, ◌∙◌, arith, ⊎_elim}
use Rattle.std.specs.Result.{OnOk, IsErrAnd}
use Rattle.std.specs.Prelude.{◌⊎◌, IfOk}
use Rattle.loom_host.specs.declared.outside.DiskFault.{DiskFault}
use Rattle.loom_host.specs.declared.outside.Host.{Ghosts}
use Rattle.loom_host.specs.declared.outside.Role.TheVariants.{Work}
use Rattle.object_table.specs.Entries.{place_of}
use Rattle.object_table.specs.Table.{entries_of}
use Rattle.disk_objects.proofs.StayLaws.{stays-refl, stays-trans}
use Rattle.core_segment.specs.Segment.{free_of, size_of}
use Rattle.core_view.specs.Core.{Core}
use Rattle.core_view.specs.Kept.{IsTight, Stays}
use Rattle.core_view.specs.Once.{HasMarksHere}
use Rattle.core_view.specs.Purge.{HasNoIdle, IsPurged, IsSameBody}
use Rattle.core_view.specs.Room.{is_among}
use Rattle.core_view.specs.Steps.{IsMove}
use Rattle.core_view.proofs.Steps.{Stays-refl, Stays-trans}
use Rattle.core_view.proofs.Purge.{Purged-refl, Purged-trans, body-then, gone-first, gone-more, move-purged}
use Rattle.leaf_lambda.specs.declared.parts.Parts.{Parts}
use Rattle.leaf_lambda.specs.Parts.{core_of, spare_of, IsParts}
use Rattle.leaf_lambda.specs.Whole.{IsWhole}
use Rattle.delta_counts.specs.Effects.{Counts, Keeps, Leaves, Same}
use Rattle.delta_counts.specs.Giving.{NoneIdleBelow}
use Rattle.delta_counts.specs.declared.two_levels.TwoLevels.{TwoLevels}
use Rattle.delta_counts.proofs.EffectLaws.{keeps-refl, keeps-then, sound-after}
use Rattle.purger.specs.Counts.{IsGivingUp, KeepsSound}
use Rattle.purger.specs.Marks.{AreHere, KeepsMarks}
use Rattle.purger.specs.Purge.{IsPurgeFault, KeepsBodies}
use Rattle.purger.specs.Rounds.{IsFewBehind, KeepsAllBut}
use Rattle.purger.specs.Pager.{core_in, Clears, IsReady, Moves, Passes, Preserves, Purges, Spares}
use Rattle.purger.specs.declared.pager.Pager.{Pager}
use Rattle.purger.specs.declared.room.Behind.{Behind}
use Rattle.purger.specs.declared.room.Pinned.{Pinned}
use Rattle.purger.specs.declared.room.RoomFault.{RoomFault}
use Rattle.purger.specs.declared.room.RoomFault.TheVariants.{Short, Disk}
use Rattle.purger.proofs.GivingLaws.{given-idle, given-marks, given-purged, giving-spare, giving-up, purge-later, slots-purge-if}
use Rattle.purger.proofs.MarkLaws.{Kept-refl, Kept-trans, Marks-same, Marks-trans, move-marks}
use Rattle.purger.proofs.MindLaws.{minds-kept, minds-refl, minds-trans, purged-came}
use Rattle.purger.proofs.NamingLaws.{Counts-refl, Counts-trans, move-counts}
use Rattle.purger.proofs.OnlyLaws.{keeps-refl as keeps-bodies, less-refl, less-same, less-trans, only-all, only-refl, only-trans}
use Rattle.purger.proofs.RoundLaws.{kept-all}
use Rattle.purger.proofs.SweptLaws.{if-ok}
use Rattle.purger.proofs.RoomLaws.{all-pinned, bound-entries, disk-later, some-of, undisturbed-map}
use Rattle.purger.proofs.SoundLaws.{has-number, quiet-keeps}

-- ---- what the type keeps, in the words of the laws below

there : (o : Option ℕ) → is_some o ≡ true → (p : ℕ) × (o ≡ Some p)
there o is = some-of o (is_some o) refl is

pub are-here : (c : Core) → HasMarksHere c → AreHere c
are-here c m s used marked = there (place_of (c.entries s).state) (m.here s used marked)

pub whole-of : (p : Parts) → IsParts p → IsTight (core_of p) → AreHere (core_of p) → IsWhole p
whole-of p parts tight here = record { parts = parts; tight = tight; marks = record { here = λ s used marked. ap is_some (here s used marked).1 } }

pub keeps-of : {H : Type 0} {host : Ghosts H} (a b : TwoLevels H host) → (IsTrue (host.tells Work) → KeepsSound host a.parts a.disk.host.now a.disk.rest b.parts b.disk.host.now b.disk.rest) → Keeps Same [] [] a b
keeps-of {H} {host} a b f told t at x = let r = f told t at x in record { levels = r.levels; at = r.at; sound = r.sound; heap = r.heap }

pub sound-of : {H : Type 0} {host : Ghosts H} (a b : TwoLevels H host) → Keeps Same [] [] a b → IsTrue (host.tells Work) → KeepsSound host a.parts a.disk.host.now a.disk.rest b.parts b.disk.host.now b.disk.rest
sound-of {H} {host} a b f told t at x = let r = f told t at x in record { levels = r.levels; at = r.at; sound = r.sound; heap = r.heap }

-- ---- frames and effects

pub spares-refl : {H : Type 0} {host : Ghosts H} (p : Pager H host) → Spares p p
spares-refl {H} {host} p = record {
  disk = stays-refl host p.levels.disk;
  size = refl;
  pinned = refl;
  purged = Purged-refl p.pinned.a p.pinned.b p.pinned.d (core_in p);
  marks = Marks-same (core_in p) (core_in p) (Kept-refl (core_in p));
}

pub spares-trans : {H : Type 0} {host : Ghosts H} (a b c : Pager H host) → Spares a b → Spares b c → Spares a c
spares-trans {H} {host} a b c x y = record {
  disk = stays-trans host a.levels.disk b.levels.disk c.levels.disk x.disk y.disk;
  size = y.size ∙ x.size;
  pinned = y.pinned ∙ x.pinned;
  purged = Purged-trans a.pinned.a a.pinned.b a.pinned.d (core_in a) (core_in b) (core_in c) x.purged (subst (λ (q : Pinned). IsPurged q.a q.b q.d (core_in b) (core_in c)) x.pinned y.purged);
  marks = Marks-trans (core_in a) (core_in b) (core_in c) x.marks y.marks;
}

pub preserves-refl : {H : Type 0} {host : Ghosts H} (p : Pager H host) → Preserves p p
preserves-refl {H} {host} p = record { keeps = keeps-refl p.levels []; minds = minds-refl (core_in p); only = only-refl (core_in p); less = less-refl p.levels.parts }

pub preserves-trans : {H : Type 0} {host : Ghosts H} (a b c : Pager H host) → Preserves a b → Preserves b c → Preserves a c
preserves-trans {H} {host} a b c x y = record {
  keeps = keeps-then Same [] [] [] a.levels b.levels c.levels x.keeps y.keeps;
  minds = minds-trans (core_in a) (core_in b) (core_in c) x.minds y.minds;
  only = only-trans (core_in a) (core_in b) (core_in c) x.only y.only;
  less = less-trans a.levels.parts b.levels.parts c.levels.parts x.less y.less;
}

pub ready-after : {H : Type 0} {host : Ghosts H} (a b : Pager H host) → IsReady a → Spares a b → Preserves a b → IsReady b
ready-after {H} {host} a b ready x k = record {
  sound = sound-after Same [] [] a.levels b.levels ready.sound k.keeps;
  counted = λ told.
      let same = has-number host a.levels.parts b.levels.parts a.levels.disk.host.now b.levels.disk.host.now a.levels.disk.rest b.levels.disk.rest ready.sound told (sound-of a.levels b.levels k.keeps told) in
      let room = x.disk.limit in
      let most = ready.counted told in
      omega arith;
}

pub same-entries : {H : Type 0} {host : Ghosts H} (a b : Pager H host) → Spares a b → entries_of b.levels.parts.names.table ≡ entries_of a.levels.parts.names.table
same-entries {H} {host} a b x = bound-entries a.levels.parts b.levels.parts x.purged.bound

-- ---- calls that purge

pub purges-none : {T H : Type 0} {host : Ghosts H} (p : Pager H host) (x : T) → Purges p p (Ok x)
purges-none {T} {H} {host} p x = record { leaves = spares-refl p; keeps = preserves-refl p; fault = tt }

-- behind calls that were done, what the next does is done by all
pub purges-then : {T H : Type 0} {host : Ghosts H} (a b c : Pager H host) (r : Result T DiskFault) → Spares a b → Preserves a b → Purges b c r → Purges a c r
purges-then {T} {H} {host} a b c (Ok v) x k y = record { leaves = spares-trans a b c x y.leaves; keeps = preserves-trans a b c k y.keeps; fault = tt }
purges-then {T} {H} {host} a b c (Err f) x k y = record { leaves = spares-trans a b c x y.leaves; keeps = tt; fault = purge-later host a.levels.disk.host.now b.levels.disk.host.now c.levels.disk.host.now f x.disk.work.later y.fault }

-- a fault that is handed on
pub purges-exit : {S T H : Type 0} {host : Ghosts H} (a b : Pager H host) (r : Result T DiskFault) (f : DiskFault) → IsErrAnd r (λ y. y ≡ f) → Purges {T = S} a b (Err f) → Purges a b r
purges-exit {S} {T} {H} {host} a b (Ok x) f e p = absurd e
purges-exit {S} {T} {H} {host} a b (Err y) f e p = record { leaves = p.leaves; keeps = tt; fault = subst (λ (z : DiskFault). IsPurgeFault host a.levels.disk.host.now b.levels.disk.host.now z) (sym e) p.fault }

pub purges-done : {T H : Type 0} {host : Ghosts H} (a b : Pager H host) (x : T) → Spares a b → Preserves a b → Purges a b (Ok x)
purges-done {T} {H} {host} a b x l k = record { leaves = l; keeps = k; fault = tt }

-- ---- nothing leaves

pub moves-refl : {H : Type 0} {host : Ghosts H} (p : Pager H host) → Moves p p
moves-refl {H} {host} p = record {
  disk = refl;
  pinned = refl;
  stays = Stays-refl (core_in p);
  purged = λ a b d. Purged-refl a b d (core_in p);
  marks = Kept-refl (core_in p);
  counts = Counts-refl (core_in p);
  size = refl;
  free = refl;
  spare = refl;
}

pub moves-trans : {H : Type 0} {host : Ghosts H} (a b c : Pager H host) → Moves a b → Moves b c → Moves a c
moves-trans {H} {host} a b c x y = record {
  disk = y.disk ∙ x.disk;
  pinned = y.pinned ∙ x.pinned;
  stays = Stays-trans (core_in a) (core_in b) (core_in c) x.stays y.stays;
  purged = λ p q r. Purged-trans p q r (core_in a) (core_in b) (core_in c) (x.purged p q r) (y.purged p q r);
  marks = Kept-trans (core_in a) (core_in b) (core_in c) x.marks y.marks;
  counts = Counts-trans (core_in a) (core_in b) (core_in c) x.counts y.counts;
  size = y.size ∙ x.size;
  free = y.free ∙ x.free;
  spare = y.spare ∙ x.spare;
}

-- one body moved
pub one-moves : {H : Type 0} {host : Ghosts H} (a b : Pager H host) → b.levels.disk ≡ a.levels.disk → b.pinned ≡ a.pinned → IsMove (core_in a) (core_in b) → Stays (core_in a) (core_in b)
    → size_of b.levels.parts.segment ≡ size_of a.levels.parts.segment → free_of b.levels.parts.segment ≡ free_of a.levels.parts.segment → spare_of b.levels.parts ≡ spare_of a.levels.parts → Moves a b
one-moves {H} {host} a b disk pinned move stays size free spare = record {
  disk = disk;
  pinned = pinned;
  stays = stays;
  purged = λ p q r. move-purged p q r (core_in a) (core_in b) move;
  marks = move-marks (core_in a) (core_in b) move;
  counts = move-counts (core_in a) (core_in b) move;
  size = size;
  free = free;
  spare = spare;
}

pub moves-spares : {H : Type 0} {host : Ghosts H} (a b : Pager H host) → Moves a b → Spares a b
moves-spares {H} {host} a b m = record {
  disk = rw m.disk (stays-refl host a.levels.disk);
  size = m.size;
  pinned = m.pinned;
  purged = m.purged a.pinned.a a.pinned.b a.pinned.d;
  marks = Marks-same (core_in a) (core_in b) m.marks;
}

pub moves-preserves : {H : Type 0} {host : Ghosts H} (a b : Pager H host) → Moves a b → Preserves a b
moves-preserves {H} {host} a b m = record {
  keeps = keeps-of a.levels b.levels (λ told. rw m.disk (quiet-keeps host a.levels.parts b.levels.parts a.levels.disk.host.now a.levels.disk.rest b.levels.whole.parts m.stays m.counts));
  minds = minds-kept (core_in a) (core_in b) (purged-came (core_in a) (core_in b) m.purged) m.marks;
  only = only-all (core_in a) (core_in b) m.purged;
  less = record { words = let e = m.free in omega arith; entries = let e = m.spare in omega arith };
}

pub moves-bodies : {H : Type 0} {host : Ghosts H} (a b : Pager H host) → Moves a b → KeepsBodies (core_in a) (core_in b)
moves-bodies {H} {host} a b m = all-pinned (core_in a) (core_in b) m.purged

pub moves-purges : {T H : Type 0} {host : Ghosts H} (a b : Pager H host) (x : T) → Moves a b → Purges a b (Ok x)
moves-purges {T} {H} {host} a b x m = purges-done a b x (moves-spares a b m) (moves-preserves a b m)

-- the hand alone is elsewhere
pub ready-hand : {H : Type 0} {host : Ghosts H} (p : Pager H host) (h : ℕ) → IsReady p → IsReady (record p { hand = h })
ready-hand {H} {host} p h x = record { sound = x.sound; counted = x.counted }

hand-moves : {H : Type 0} {host : Ghosts H} (p : Pager H host) (h : ℕ) → Moves p (record p { hand = h })
hand-moves {H} {host} p h = record {
  disk = refl;
  pinned = refl;
  stays = Stays-refl (core_in p);
  purged = λ a b d. Purged-refl a b d (core_in p);
  marks = Kept-refl (core_in p);
  counts = Counts-refl (core_in p);
  size = refl;
  free = refl;
  spare = refl;
}

pub purges-hand : {T H : Type 0} {host : Ghosts H} (p q : Pager H host) (h : ℕ) (r : Result T DiskFault) → Purges (record p { hand = h }) q r → Purges p q r
purges-hand {T} {H} {host} p q h r x = purges-then p (record p { hand = h }) q r (moves-spares p (record p { hand = h }) (hand-moves p h)) (moves-preserves p (record p { hand = h }) (hand-moves p h)) x

-- ---- entries of idle leaves are given up

given : {H : Type 0} {host : Ghosts H} (a b : TwoLevels H host) → Leaves Same a b → IsGivingUp (core_of a.parts) (core_of b.parts)
given {H} {host} a b x = giving-up a.parts b.parts a.whole.parts x.segment x.giving

gives-purged : {H : Type 0} {host : Ghosts H} (a b : TwoLevels H host) → Leaves Same a b → (p q r : ℕ) → IsPurged p q r (core_of a.parts) (core_of b.parts)
gives-purged {H} {host} a b x p q r = given-purged p q r (core_of a.parts) (core_of b.parts) b.whole.parts.core (given a b x)

pub gives-marks : {H : Type 0} {host : Ghosts H} (a b : TwoLevels H host) → Leaves Same a b → KeepsMarks (core_of a.parts) (core_of b.parts)
gives-marks {H} {host} a b x = given-marks (core_of a.parts) (core_of b.parts) a.whole.parts.core b.whole.parts.core (given a b x) (are-here (core_of a.parts) a.whole.marks)

pub gives-bodies : {H : Type 0} {host : Ghosts H} (a b : TwoLevels H host) → Leaves Same a b → KeepsBodies (core_of a.parts) (core_of b.parts)
gives-bodies {H} {host} a b x = all-pinned (core_of a.parts) (core_of b.parts) (gives-purged a b x)

pub gives-idle : {T H : Type 0} {host : Ghosts H} (a b : TwoLevels H host) (r : Result T DiskFault) → Leaves Same a b → OnOk r (NoneIdleBelow (entries_of a.parts.names.table) b.parts.names) → OnOk r (HasNoIdle (core_of b.parts))
gives-idle {T} {H} {host} a b (Ok v) x none = given-idle a.parts b.parts b.whole.parts x.giving none
gives-idle {T} {H} {host} a b (Err f) x none = tt

gives-spares : {H : Type 0} {host : Ghosts H} (a b : Pager H host) → b.pinned ≡ a.pinned → Leaves Same a.levels b.levels → Spares a b
gives-spares {H} {host} a b pinned x = record {
  disk = x.disk;
  size = ap size_of x.segment;
  pinned = pinned;
  purged = gives-purged a.levels b.levels x a.pinned.a a.pinned.b a.pinned.d;
  marks = Marks-same (core_in a) (core_in b) (gives-marks a.levels b.levels x);
}

gives-preserves : {H : Type 0} {host : Ghosts H} (a b : Pager H host) → Leaves Same a.levels b.levels → Keeps Same [] [] a.levels b.levels → Preserves a b
gives-preserves {H} {host} a b x k = record {
  keeps = k;
  minds = minds-kept (core_in a) (core_in b) (purged-came (core_in a) (core_in b) (gives-purged a.levels b.levels x)) (gives-marks a.levels b.levels x);
  only = only-all (core_in a) (core_in b) (gives-purged a.levels b.levels x);
  less = less-same a.levels.parts b.levels.parts x.segment (giving-spare a.levels.parts b.levels.parts x.giving);
}

pub counts-purges : {T H : Type 0} {host : Ghosts H} (a b : Pager H host) (r : Result T DiskFault) → b.pinned ≡ a.pinned → Counts Same [] [] a.levels b.levels r → Purges a b r
counts-purges {T} {H} {host} a b (Ok v) pinned x = record { leaves = gives-spares a b pinned x.leaves; keeps = gives-preserves a b x.leaves x.keeps; fault = tt }
counts-purges {T} {H} {host} a b (Err f) pinned x = record {
  leaves = gives-spares a b pinned x.leaves;
  keeps = tt;
  fault = slots-purge-if {T = T} host a.levels.disk.host.now a.levels.disk.host.now b.levels.disk.host.now a.levels.disk.rest (Err f) (omega arith) x.fault;
}

-- ---- one object leaves

pub one-then : (s : ℕ) (a b c : Core) → KeepsAllBut s a b → KeepsBodies b c → KeepsAllBut s a c
one-then s a b c one keeps t p at = ⊎_elim (λ (e : t ≡ s). inl e) (λ (same : IsSameBody a b t p). inr (body-then a b c t p same (keeps t same.at same.place))) (one t p at)

-- ---- an entry that the search comes to

-- no body goes, and no more room is wanting than before
pub passes-still : {H : Type 0} {host : Ghosts H} (s part words entries : ℕ) (b : Behind) (p q : Pager H host) → Purges p q (Ok b) → KeepsBodies (core_in p) (core_in q)
    → (IsFewBehind part words entries p.levels.parts b.left → IsFewBehind part words entries q.levels.parts b.left) → Passes s part words entries b.left p q (Ok b)
passes-still {H} {host} s part words entries b p q purges keeps few = record {
  purges = purges;
  one = kept-all s (core_in p) (core_in q) keeps;
  behind = inl (refl, keeps);
  few = few;
}

pub passes-none : {H : Type 0} {host : Ghosts H} (s part words entries : ℕ) (b : Behind) (p : Pager H host) → Passes s part words entries b.left p p (Ok b)
passes-none {H} {host} s part words entries b p = passes-still s part words entries b p p (purges-none p b) (keeps-bodies (core_in p)) (λ few. few)

-- the object of the entry is evicted
pub passes-one : {H : Type 0} {host : Ghosts H} (s part words entries left : ℕ) (p q : Pager H host) (r : Result Behind DiskFault) → Purges p q r → KeepsAllBut s (core_in p) (core_in q)
    → IfOk r (λ b. (b.left ≡ left + 1) ⊎ ((b.left ≡ 0) × HasNoIdle (core_in q))) → IfOk r (λ b. IsFewBehind part words entries q.levels.parts b.left) → Passes s part words entries left p q r
passes-one {H} {host} s part words entries left p q r purges one counted few = record {
  purges = purges;
  one = one;
  behind = if-ok r (λ b c. inr c) counted;
  few = if-ok r (λ b f was. f) few;
}

-- ---- going over the table

-- below the n-th short word nothing but pinned objects has a body
abbrev pub NoneBelow : {H : Type 0} {host : Ghosts H} → ℕ → Pager H host → Type 0
NoneBelow n p = (s at : ℕ) → s < n → place_of ((core_in p).entries s).state ≡ Some at → is_among p.pinned.a p.pinned.b p.pinned.d s ≡ true

pub none-first : {H : Type 0} {host : Ghosts H} (p : Pager H host) → NoneBelow 2 p
none-first {H} {host} p s at low place = gone-first (core_in p) p.pinned.a p.pinned.b p.pinned.d s at p.levels.whole.parts.core low place

pub none-more : {H : Type 0} {host : Ghosts H} (a b : Pager H host) (i : ℕ) → Spares a b → NoneBelow (2 * i + 2) a
    → ((at : ℕ) → place_of ((core_in b).entries (2 * i + 2)).state ≡ Some at → is_among a.pinned.a a.pinned.b a.pinned.d (2 * i + 2) ≡ true) → NoneBelow (2 * (i + 1) + 2) b
none-more {H} {host} a b i x before here s at low place = subst (λ (q : Pinned). is_among q.a q.b q.d s ≡ true) (sym x.pinned)
    (gone-more a.pinned.a a.pinned.b a.pinned.d i s at (core_in a) (core_in b) b.levels.whole.parts.core x.purged before here low place)

-- ---- calls that clear

pub clears-done : {T H : Type 0} {host : Ghosts H} (a b : Pager H host) (x : T) → Spares a b → Preserves a b → Clears a b (Ok x)
clears-done {T} {H} {host} a b x l k = record { leaves = l; keeps = k; fault = tt }

pub clears-short : {T H : Type 0} {host : Ghosts H} (a b : Pager H host) → Spares a b → Preserves a b → Clears {T = T} a b (Err Short)
clears-short {T} {H} {host} a b l k = record { leaves = l; keeps = k; fault = tt }

pub clears-disk : {S T H : Type 0} {host : Ghosts H} (a b : Pager H host) (f : DiskFault) → Purges {T = S} a b (Err f) → Clears {T = T} a b (Err (Disk f))
clears-disk {S} {T} {H} {host} a b f p = record { leaves = p.leaves; keeps = tt; fault = p.fault }

pub clears-then : {T H : Type 0} {host : Ghosts H} (a b c : Pager H host) (r : Result T RoomFault) → Spares a b → Preserves a b → Clears b c r → Clears a c r
clears-then {T} {H} {host} a b c r x k y = record {
  leaves = spares-trans a b c x y.leaves;
  keeps = undisturbed-map r (λ (z : Preserves b c). preserves-trans a b c k z) y.keeps;
  fault = disk-later host a.levels.disk.host.now b.levels.disk.host.now c.levels.disk.host.now r x.disk.work.later y.fault;
}

-- behind calls that were done, moving bodies is done too
pub clears-moved : {T H : Type 0} {host : Ghosts H} (a b c : Pager H host) (x : T) → Spares a b → Preserves a b → Moves b c → Clears a c (Ok x)
clears-moved {T} {H} {host} a b c x l k m = clears-done a c x (spares-trans a b c l (moves-spares b c m)) (preserves-trans a b c k (moves-preserves b c m))
