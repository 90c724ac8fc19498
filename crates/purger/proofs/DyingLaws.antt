-- What the steps leave by which a dead object with a body goes, put together.
use Rattle.std.proofs.Common.{◌≡◌, ℕ, ◌+◌, ◌<◌, ◌≤◌, Bool, IsTrue, Result, Ok, Err, true, false, [], List, Some, None, refl, sym, ap, subst, ◌∙◌, arith}
use Rattle.std.specs.Result.{OnOk, IfOk, IfErr}
use Rattle.long_names.specs.declared.value.Value.{Value}
use Rattle.loom_host.specs.declared.outside.DiskFault.{DiskFault}
use Rattle.loom_host.specs.declared.outside.Host.{Ghosts}
use Rattle.loom_host.specs.declared.outside.Role.TheVariants.{Work}
use Rattle.object_record.specs.Buffer.{raw_of}
use Rattle.object_record.specs.Objects.{object_in}
use Rattle.object_table.specs.Entries.{is_used, place_of, put}
use Rattle.core_segment.specs.Segment.{free_of, size_of}
use Rattle.disk_objects.specs.declared.objects.DiskObjects.{DiskObjects}
use Rattle.disk_objects.specs.declared.rest.DiskRest.{DiskRest}
use Rattle.disk_objects.specs.Disk.{disk_held}
use Rattle.disk_objects.specs.Stays.{StaysOnWork}
use Rattle.disk_objects.proofs.StayLaws.{stays-read, stays-refl}
use Rattle.core_view.specs.Held.{object_at}
use Rattle.core_view.proofs.Core.{placed-used}
use Rattle.core_view.proofs.Purge.{body-stays}
use Rattle.leaf_lambda.specs.declared.parts.Parts.{Parts}
use Rattle.leaf_lambda.specs.Parts.{core_of, spare_of}
use Rattle.core_view.specs.Levels.{Levels, records_of}
use Rattle.core_view.specs.Counted.{IsSound, words_of}
use Rattle.core_view.specs.Dead.{IsDead}
use Rattle.delta_counts.specs.At.{IsStoredAt}
use Rattle.delta_counts.specs.Effects.{HasSound, Keeps, Leaves, Same, StandsFor}
use Rattle.delta_counts.proofs.LowerLaws.{ok-map, ok-of}
use Rattle.purger.specs.Counts.{StandsFor as StandsAt}
use Rattle.purger.specs.Draining.{HasDead, IsForgotten, IsThinned, LeavesRest, Thins}
use Rattle.purger.specs.Freeing.{FreesDead, HasTold, LeavesNamed, ThinsHeap}
use Rattle.purger.specs.Leaving.{FreesOne, MayGo, Reads, TakesOut, Unmarks}
use Rattle.purger.specs.Marks.{IsOut, MindsMarks}
use Rattle.purger.specs.Pager.{core_in}
use Rattle.purger.specs.Purge.{IsReadFault, KeepsBodies}
use Rattle.purger.specs.declared.pager.Pager.{Pager}
use Rattle.purger.proofs.DrainLaws.{forgotten-away, forgotten-minds, freed-thinned, read-later-if}
use Rattle.purger.proofs.ForgetLaws.{IsOwedAt, forgotten-leaves, forgotten-owed}
use Rattle.purger.proofs.FreeingLaws.{named-trans, told-later}
use Rattle.purger.proofs.LeavingLaws.{unmarked-minds, unmarks-body}
use Rattle.purger.proofs.MarkLaws.{unmarked-same}
use Rattle.purger.proofs.MindLaws.{minds-refl}
use Rattle.purger.proofs.PagerLaws.{are-here}
use Rattle.purger.proofs.SoundLaws.{core-at}
use Rattle.purger.proofs.ThinLaws.{IsDeadThere, giving-bodies, giving-leaves, leaves-refl, levels-read, read-thinned, same-then, unmarked-bodies, unmarked-dead, unmarked-leaves}

-- ---- what was read

pub reads-named : {T H : Type 0} {host : Ghosts H} (a b : Pager H host) (r : Result T DiskFault) → Reads a b r → LeavesNamed a b
reads-named {T} {H} {host} a b r x = record {
  disk = stays-read host a.levels.disk b.levels.disk x.disk;
  pinned = x.pinned;
  rest = subst (λ (p : Parts). LeavesRest a.levels.parts p) (sym x.parts) (leaves-refl a.levels.parts a.levels.whole.parts a.levels.whole.tight (are-here (core_in a) a.levels.whole.marks));
}

pub reads-stands : {T H : Type 0} {host : Ghosts H} (a b : Pager H host) (r : Result T DiskFault) → Reads a b r → (t : Levels) → StandsFor a.levels t → StandsFor b.levels t
reads-stands {T} {H} {host} a b r x t at = subst (λ (p : Parts). StandsAt host p b.levels.disk.host.now b.levels.disk.rest t) (sym x.parts)
    (levels-read host a.levels.parts a.levels.disk.host.now b.levels.disk.host.now a.levels.disk.rest b.levels.disk.rest x.disk.rest x.disk.read t at)

pub reads-frees : {S T H : Type 0} {host : Ghosts H} (a b : Pager H host) (q : Result S DiskFault) (x : T) → Reads a b q → FreesDead a b (Ok x)
reads-frees {S} {T} {H} {host} a b q v x = record {
  leaves = reads-named a b q x;
  keeps = record {
    keeps = λ told. subst (λ (p : Parts). Thins host a.levels.parts a.levels.disk.host.now a.levels.disk.rest p b.levels.disk.host.now b.levels.disk.rest) (sym x.parts)
        (read-thinned host a.levels.parts a.levels.disk.host.now b.levels.disk.host.now a.levels.disk.rest b.levels.disk.rest x.disk.rest x.disk.read);
    minds = subst (λ (p : Parts). MindsMarks (core_in a) (core_of p)) (sym x.parts) (minds-refl (core_in a));
  };
  fault = tt;
}

pub reads-bodies : {T H : Type 0} {host : Ghosts H} (a b : Pager H host) (r : Result T DiskFault) → Reads a b r → KeepsBodies (core_in a) (core_in b)
reads-bodies {T} {H} {host} a b r x = subst (λ (p : Parts). KeepsBodies (core_in a) (core_of p)) (sym x.parts) (λ s p at. body-stays (core_in a) s p at)

pub reads-body : {T H : Type 0} {host : Ghosts H} (s at : ℕ) (a b : Pager H host) (r : Result T DiskFault) → Reads a b r → place_of ((core_in a).entries s).state ≡ Some at → place_of ((core_in b).entries s).state ≡ Some at
reads-body {T} {H} {host} s at a b r x place = subst (λ (p : Parts). place_of ((core_of p).entries s).state ≡ Some at) (sym x.parts) place

pub reads-used : {T H : Type 0} {host : Ghosts H} (s at : ℕ) (a b : Pager H host) (r : Result T DiskFault) → Reads a b r → place_of ((core_in a).entries s).state ≡ Some at → is_used ((core_in b).entries s).state ≡ true
reads-used {T} {H} {host} s at a b r x place = subst (λ (p : Parts). is_used ((core_of p).entries s).state ≡ true) (sym x.parts) (placed-used ((core_in a).entries s).state at place)

pub may-read : {T H : Type 0} {host : Ghosts H} (s : ℕ) (a b : Pager H host) (r : Result T DiskFault) → Reads a b r → MayGo s a → MayGo s b
may-read {T} {H} {host} s a b r x m = record {
  body = (m.body.0, reads-body s m.body.0 a b r x m.body.1);
  unmarked = subst (λ (p : Parts). ((core_of p).entries s).flags.marked ≡ false) (sym x.parts) m.unmarked;
  none = subst (λ (p : Parts). ((core_of p).entries s).refs ≡ 0) (sym x.parts) m.none;
  dead = λ told. let d = m.dead told in (d.0, reads-stands a b r x d.0 d.1, d.2, d.3);
}

-- what is freed behind it
pub frees-behind : {S T H : Type 0} {host : Ghosts H} (s : ℕ) (a b c : Pager H host) (q : Result S DiskFault) (r : Result T DiskFault) → Reads a b q → FreesOne s b c r → FreesOne s a c r
frees-behind {S} {T} {H} {host} s a b c q r x y = record {
  leaves = named-trans a b c (reads-named a b q x) y.leaves;
  freed = λ told t at z dead. subst (λ (p : Parts). OnOk r (IsThinned host p c.levels.parts c.levels.disk.host.now c.levels.disk.rest t)) x.parts (y.freed told t (reads-stands a b q x t at) z dead);
  minds = subst (λ (p : Parts). OnOk r (MindsMarks (core_of p) (core_in c))) x.parts y.minds;
  gone = subst (λ (p : Parts). OnOk r (IsOut (core_in c) ((core_of p).entries s).name)) x.parts y.gone;
  wider = subst (λ (p : Parts). OnOk r (free_of p.segment < free_of c.levels.parts.segment)) x.parts y.wider;
  held = subst (λ (d : DiskRest). OnOk r (disk_held c.levels.disk.rest ≤ disk_held d)) x.disk.rest y.held;
  fault = read-later-if (host.tells Work) (host.faults a.levels.disk.host.now Work) (host.faults b.levels.disk.host.now Work) (host.faults c.levels.disk.host.now Work) r x.disk.read.later y.fault;
}

-- ---- an object is taken out

pub took-out : {T H : Type 0} {host : Ghosts H} (s : ℕ) (a b : Pager H host) (x : T) → MayGo s a → (n : ℕ) → n ≡ ((core_in a).entries s).name → StaysOnWork host a.levels.disk b.levels.disk → b.pinned ≡ a.pinned → b.out ≡ a.out
    → IsForgotten s (core_in a) (core_in b) → size_of b.levels.parts.segment ≡ size_of a.levels.parts.segment → free_of a.levels.parts.segment < free_of b.levels.parts.segment → spare_of b.levels.parts ≡ spare_of a.levels.parts + 1 → disk_held b.levels.disk.rest ≤ disk_held a.levels.disk.rest
    → (IsTrue (host.tells Work) → (t : Levels) → StandsFor a.levels t → IsSound t [] → IsStoredAt host b.levels.disk.host.now b.levels.disk.rest (put t.stored n None) t.pending) → TakesOut s a b (Ok x)
took-out {T} {H} {host} s a b x may n name disk pinned out gone size wider spare held stored = record {
  leaves = record {
    disk = disk;
    pinned = pinned;
    rest = forgotten-leaves a.levels.parts b.levels.parts s may.body.0 a.levels.whole.parts a.levels.whole.tight (are-here (core_in a) a.levels.whole.marks) may.body.1 may.unmarked may.none b.levels.whole.parts gone size wider spare;
  };
  out = out;
  gone = gone;
  wider = wider;
  held = held;
  owed = λ told t at stands z dead place.
      let is = core-at host a.levels.parts a.levels.disk.host.now a.levels.disk.rest t stands in
      let y = subst (λ (k : ℕ). IsStoredAt host b.levels.disk.host.now b.levels.disk.rest (put t.stored k None) t.pending) name (stored told t stands z) in
      let w = forgotten-owed host b.levels.parts b.levels.disk.host.now b.levels.disk.rest t (core_in a) (object_at (core_in a) (records_of t) ((core_in a).entries s) at) ((core_in a).entries s).name s at is z place dead gone refl refl y in
      record { levels = w.levels; at = w.at; sound = w.sound; heap = w.heap };
  fault = tt;
}

-- ---- what it held has a word less

lowered-named : {H : Type 0} {host : Ghosts H} (a b : Pager H host) → b.pinned ≡ a.pinned → Leaves Same a.levels b.levels → LeavesNamed a b
lowered-named {H} {host} a b pinned x = record {
  disk = x.disk;
  pinned = pinned;
  rest = giving-leaves a.levels.parts b.levels.parts a.levels.whole.parts a.levels.whole.tight (are-here (core_in a) a.levels.whole.marks) x.segment x.giving;
}

-- the record that was made of it, in the parts that it is taken out of
pub took-object : {T H : Type 0} {host : Ghosts H} (s at : ℕ) (a b c : Pager H host) (q : Result T DiskFault) → Reads a b q → c.out ≡ b.out → (t : Levels) → object_in (raw_of b.out) ≡ object_at (core_in a) (records_of t) ((core_in a).entries s) at
    → object_in (raw_of c.out) ≡ object_at (core_in b) (records_of t) ((core_in b).entries s) at
took-object {T} {H} {host} s at a b c q x out t is = ap (λ o. object_in (raw_of o)) out ∙ subst (λ (p : Parts). object_in (raw_of b.out) ≡ object_at (core_of p) (records_of t) ((core_of p).entries s) at) (sym x.parts) is

-- an object that was taken out, and then its words
pub took-frees : {S T H : Type 0} {host : Ghosts H} (s at : ℕ) (a b c : Pager H host) (x : S) (r : Result T DiskFault) (vs : List Value) → MayGo s a → place_of ((core_in a).entries s).state ≡ Some at → TakesOut s a b (Ok x)
    → (IsTrue (host.tells Work) → (t : Levels) → StandsFor a.levels t → IsSound t [] → words_of (object_at (core_in a) (records_of t) ((core_in a).entries s) at) ≡ vs) → c.pinned ≡ b.pinned → Leaves Same b.levels c.levels → OnOk r (Keeps Same vs [] b.levels c.levels)
    → IfErr r (IsReadFault (host.tells Work) (host.faults b.levels.disk.host.now Work) (host.faults c.levels.disk.host.now Work)) → FreesOne s a c r
took-frees {S} {T} {H} {host} s at a b c x r vs may place takes words pinned leaves keeps fault = record {
  leaves = named-trans a b c takes.leaves (lowered-named b c pinned leaves);
  freed = λ told t stands z dead.
      let w = takes.owed told t at stands z dead place in
      let o : IsOwedAt host b.levels.parts b.levels.disk.host.now b.levels.disk.rest t (object_at (core_in a) (records_of t) ((core_in a).entries s) at) ((core_in a).entries s).name = record { levels = w.levels; at = w.at; sound = w.sound; heap = w.heap } in
      ok-map r (λ (k : Keeps Same vs [] b.levels c.levels).
      let l = k told w.levels w.at (subst (λ (us : List Value). IsSound w.levels us) (words told t stands z) w.sound) in
      freed-thinned host a.levels.parts b.levels.parts c.levels.parts b.levels.disk.host.now c.levels.disk.host.now b.levels.disk.rest c.levels.disk.rest t (object_at (core_in a) (records_of t) ((core_in a).entries s) at) ((core_in a).entries s).name s
      (core-at host a.levels.parts a.levels.disk.host.now a.levels.disk.rest t stands) z dead refl takes.gone bodies minds o (record { levels = l.levels; at = l.at; sound = l.sound; heap = l.heap })) keeps;
  minds = ok-of r minds;
  gone = ok-of r (forgotten-away a.levels.parts b.levels.parts c.levels.parts s at a.levels.whole.parts b.levels.whole.parts place takes.gone leaves.segment leaves.giving);
  wider = ok-of r (let e = ap free_of leaves.segment in let more = takes.wider in omega arith);
  held = ok-of r (let e = leaves.held in let less = takes.held in omega arith);
  fault = read-later-if (host.tells Work) (host.faults a.levels.disk.host.now Work) (host.faults b.levels.disk.host.now Work) (host.faults c.levels.disk.host.now Work) r takes.leaves.disk.work.later fault;
}
  where
    minds : MindsMarks (core_in a) (core_in c)
    minds = forgotten-minds a.levels.parts b.levels.parts c.levels.parts s at a.levels.whole.parts b.levels.whole.parts place may.unmarked (are-here (core_in a) a.levels.whole.marks) takes.gone leaves.segment leaves.giving

    bodies : KeepsBodies (core_in b) (core_in c)
    bodies = giving-bodies b.levels.parts c.levels.parts b.levels.whole.parts leaves.segment leaves.giving

-- the words that are owed then
pub took-sound : {S H : Type 0} {host : Ghosts H} (s at : ℕ) (a b : Pager H host) (x : S) (vs : List Value) → MayGo s a → place_of ((core_in a).entries s).state ≡ Some at → TakesOut s a b (Ok x)
    → (IsTrue (host.tells Work) → (t : Levels) → StandsFor a.levels t → IsSound t [] → words_of (object_at (core_in a) (records_of t) ((core_in a).entries s) at) ≡ vs) → HasSound b.levels vs
took-sound {S} {H} {host} s at a b x vs may place takes words told =
    let d = may.dead told in
    let w = takes.owed told d.0 at d.1 d.2 d.3 place in
    (w.levels, w.at, subst (λ (us : List Value). IsSound w.levels us) (words told d.0 d.1 d.2) w.sound)

-- ---- all marks go first

pub unmarks-named : {H : Type 0} {host : Ghosts H} (s : ℕ) (a b : Pager H host) → Unmarks s a b → LeavesNamed a b
unmarks-named {H} {host} s a b u = record {
  disk = rw u.disk (stays-refl host a.levels.disk);
  pinned = u.pinned;
  rest = unmarked-leaves a.levels.parts b.levels.parts b.levels.whole.parts a.levels.whole.tight (are-here (core_in a) a.levels.whole.marks) u.step u.outside u.marks u.segment u.spare;
}

-- the object is dead there too
pub unmarks-dead : {H : Type 0} {host : Ghosts H} (s : ℕ) (a b : Pager H host) → Unmarks s a b → (t : Levels) → StandsFor a.levels t → IsSound t [] → IsDead t (t.core.entries s).name → IsDeadThere host b.levels.parts b.levels.disk.host.now b.levels.disk.rest t s
unmarks-dead {H} {host} s a b u t at x dead = rw u.disk (unmarked-dead host a.levels.parts b.levels.parts a.levels.disk.host.now a.levels.disk.rest t s b.levels.whole.parts u.stays u.step u.outside at x dead)

pub unmarks-may : {H : Type 0} {host : Ghosts H} (s at : ℕ) (a b : Pager H host) → place_of ((core_in a).entries s).state ≡ Some at → ((core_in a).entries s).refs ≡ 0 → HasDead host a.levels.parts a.levels.disk.host.now a.levels.disk.rest s → Unmarks s a b → MayGo s b
unmarks-may {H} {host} s at a b place none dead u = record {
  body = (at, unmarks-body s at a b u place);
  unmarked = u.gone;
  none = unmarked-same (core_in a) (core_in b) s (λ e. e.refs) u.step (λ e. refl) ∙ none;
  dead = λ told.
      let x = dead told in
      let d = unmarks-dead s a b u x.0 x.1 x.2 x.3 in
      (d.reached.levels, d.reached.at, d.reached.sound, d.dead);
}

-- ---- whether it is dead is read, then all marks go, and then it

pub dead-may : {T H : Type 0} {host : Ghosts H} (s at : ℕ) (a b c : Pager H host) (q : Result T DiskFault) → HasSound a.levels [] → place_of ((core_in a).entries s).state ≡ Some at → ((core_in a).entries s).refs ≡ 0
    → (IsTrue (host.tells Work) → (t : Levels) → StandsFor a.levels t → IsSound t [] → IsDead t (t.core.entries s).name) → Reads a b q → Unmarks s b c → MayGo s c
dead-may {T} {H} {host} s at a b c q has place none dead x u = unmarks-may s at b c
    (reads-body s at a b q x place) (subst (λ (p : Parts). ((core_of p).entries s).refs ≡ 0) (sym x.parts) none)
    (λ told. let y = has told in (y.0, reads-stands a b q x y.0 y.1, y.2, dead told y.0 y.1 y.2)) u

pub dead-frees : {S T H : Type 0} {host : Ghosts H} (s at : ℕ) (a b c d : Pager H host) (q : Result S DiskFault) (r : Result T DiskFault) → place_of ((core_in a).entries s).state ≡ Some at
    → (IsTrue (host.tells Work) → (t : Levels) → StandsFor a.levels t → IsSound t [] → IsDead t (t.core.entries s).name) → Reads a b q → Unmarks s b c → FreesOne s c d r → FreesDead a d r
dead-frees {S} {T} {H} {host} s at a b c d q r place dead x u y = record {
  leaves = named-trans a b d (reads-named a b q x) (named-trans b c d (unmarks-named s b c u) y.leaves);
  keeps = go r y;
  fault = read-later-if (host.tells Work) (host.faults a.levels.disk.host.now Work) (host.faults b.levels.disk.host.now Work) (host.faults d.levels.disk.host.now Work) r x.disk.read.later
      (subst (λ (k : DiskObjects H). IfErr r (IsReadFault (host.tells Work) (host.faults k.host.now Work) (host.faults d.levels.disk.host.now Work))) u.disk y.fault);
}
  where
    there : place_of ((core_in b).entries s).state ≡ Some at
    there = reads-body s at a b q x place

    go : (r : Result T DiskFault) → FreesOne s c d r → OnOk r (ThinsHeap a d)
    go (Ok v) z = record {
      keeps = λ told t stands sound.
          let n = unmarks-dead s b c u t (reads-stands a b q x t stands) sound (dead told t stands sound) in
          subst (λ (p : Parts). IsThinned host p d.levels.parts d.levels.disk.host.now d.levels.disk.rest t) x.parts
          (same-then host b.levels.parts c.levels.parts d.levels.parts c.levels.disk.host.now d.levels.disk.host.now c.levels.disk.rest d.levels.disk.rest t
          (unmarked-bodies (core_in b) (core_in c) u.step u.outside) minds n.reached (z.freed told n.reached.levels n.reached.at n.reached.sound n.dead));
      minds = subst (λ (p : Parts). MindsMarks (core_of p) (core_in d)) x.parts minds;
    }
      where
        minds : MindsMarks (core_in b) (core_in d)
        minds = unmarked-minds s at b c d there u z.minds (subst (λ (n : ℕ). IsOut (core_in d) n) (unmarked-same (core_in b) (core_in c) s (λ e. e.name) u.step (λ e. refl)) z.gone)
    go (Err f) z = tt

pub dead-told : {S H : Type 0} {host : Ghosts H} (s : ℕ) (a b c d : Pager H host) (q : Result S DiskFault) (r : Result Bool DiskFault) → Reads a b q → b.out ≡ a.out → Unmarks s b c → IfOk r (HasTold c d) → IfOk r (HasTold a d)
dead-told {S} {H} {host} s a b c d q r x out u y = told-later a c d r (u.segment ∙ ap (λ (p : Parts). p.segment) x.parts) (u.out ∙ out) y

-- words became free
pub dead-none : {S T H : Type 0} {host : Ghosts H} (A : Type 0) (s : ℕ) (a b c d : Pager H host) (q : Result S DiskFault) (r : Result T DiskFault) → Reads a b q → Unmarks s b c → FreesOne s c d r → OnOk r (free_of d.levels.parts.segment ≡ free_of a.levels.parts.segment → A)
dead-none {S} {T} {H} {host} A s a b c d q r x u y = ok-map r (λ (wider : free_of c.levels.parts.segment < free_of d.levels.parts.segment).
    λ same. absurd (let first = ap (λ (p : Parts). free_of p.segment) x.parts in let then = ap free_of u.segment in omega arith)) y.wider

pub dead-held : {S T H : Type 0} {host : Ghosts H} (s : ℕ) (a b c d : Pager H host) (q : Result S DiskFault) (r : Result T DiskFault) → Reads a b q → Unmarks s b c → FreesOne s c d r → OnOk r (disk_held d.levels.disk.rest ≤ disk_held a.levels.disk.rest)
dead-held {S} {T} {H} {host} s a b c d q r x u y = ok-map r (λ (less : disk_held d.levels.disk.rest ≤ disk_held c.levels.disk.rest).
    let first = ap (λ (k : DiskRest). disk_held k) x.disk.rest in let then = ap (λ (k : DiskObjects H). disk_held k.rest) u.disk in omega arith) y.held
