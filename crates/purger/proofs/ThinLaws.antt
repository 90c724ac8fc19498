-- Thinner heaps that are reached one after another, and what is left of parts.
use Rattle.std.proofs.Common.{zero, suc, ◌≡◌, ℕ, ◌+◌, ◌≤◌, true, false, [], Option, Some, None, IsTrue, refl, sym, ◌∙◌, ap, subst, arith, is_some}
use Rattle.long_names.specs.declared.object.Object.{Object}
use Rattle.long_names.specs.Heap.{Heap, Has, object_count, count_of}
use Rattle.long_names.specs.Thin.{IsThinner}
use Rattle.long_names.proofs.CountLaws.{sum_below, one_if_there, object_count-sum}
use Rattle.long_names.proofs.ThinLemmas.{IsThinner-refl, IsThinner-trans}
use Rattle.loom_host.specs.declared.outside.Host.{Ghosts}
use Rattle.loom_host.specs.declared.outside.Role.TheVariants.{Work}
use Rattle.loom_host.specs.Work.{work_of, IsWorkRead}
use Rattle.object_table.specs.Entries.{place_of}
use Rattle.object_table.specs.Table.{entries_of}
use Rattle.disk_objects.specs.declared.rest.DiskRest.{DiskRest}
use Rattle.disk_objects.specs.Disk.{disk_held}
use Rattle.core_segment.specs.Segment.{chunk_at, free_of, size_of}
use Rattle.core_view.specs.Core.{Core}
use Rattle.core_view.specs.Counts.{outside}
use Rattle.core_view.specs.Kept.{IsCore, IsTight, Stays}
use Rattle.core_view.specs.Purge.{fresh_of, IsPurged}
use Rattle.core_view.proofs.Purge.{Purged-refl, Purged-trans, body-stays, body-then}
use Rattle.leaf_lambda.specs.declared.parts.Parts.{Parts}
use Rattle.leaf_lambda.specs.Parts.{core_of, spare_of, IsParts}
use Rattle.core_view.specs.Levels.{Levels, heap_of}
use Rattle.core_view.specs.Counted.{IsSound}
use Rattle.core_view.specs.Dead.{IsDead, NoneBareDead, NoneDead, bare_by, outside_by}
use Rattle.delta_counts.specs.At.{IsReached}
use Rattle.delta_counts.specs.Giving.{IsGiving}
use Rattle.delta_counts.proofs.NumberLaws.{held-on_disk}
use Rattle.purger.specs.Counts.{HasSound, StandsFor}
use Rattle.purger.specs.Draining.{AreNamed, DrainsBare, DrainsDead, IsThinned, KeepsHeld, KeepsLevels, LeavesRest, NoBodyDead, Thins}
use Rattle.purger.specs.Marks.{AreHere, IsUnmarking, LeavesMarks, MindsMarks}
use Rattle.purger.specs.Purge.{KeepsBodies}
use Rattle.purger.proofs.MarkLaws.{Kept-refl, Marks-same, Marks-trans, unmarked-here, unmarked-purged, unmarked-tight, unmarked-same}
use Rattle.purger.proofs.MindLaws.{minds-kept, minds-refl, minds-trans, purged-came}
use Rattle.purger.proofs.RoomLaws.{all-pinned, bound-entries}
use Rattle.purger.proofs.SoundLaws.{core-at, stored-read, unmarked-sound}
use Rattle.purger.proofs.GivingLaws.{given-here, given-marks, given-purged, given-tight, giving-parts, giving-spare, giving-up}

-- ---- what is left of parts

pub leaves-refl : (p : Parts) → IsParts p → IsTight (core_of p) → AreHere (core_of p) → LeavesRest p p
leaves-refl p parts tight here = record {
  parts = parts;
  tight = tight;
  here = here;
  bound = refl;
  same_outside = λ t. refl;
  purged = λ a b d named. Purged-refl a b d (core_of p);
  marks = Marks-same (core_of p) (core_of p) (Kept-refl (core_of p));
  size = refl;
  words = omega arith;
  entries = omega arith;
}

named-later : (a b d : ℕ) (x y : Core) → IsPurged a b d x y → AreNamed a b d x → AreNamed a b d y
named-later a b d x y purged named s p among at = go (place_of (x.entries s).state) refl
  where
    go : (o : Option ℕ) → place_of (x.entries s).state ≡ o → 1 ≤ outside y s
    go None e = let both : None ≡ Some p = sym (purged.leaves s e) ∙ at in absurd (cc)
    go (Some r) e = let some = named s r among e in let same = purged.same_outside s in omega arith

pub leaves-trans : (p q r : Parts) → LeavesRest p q → LeavesRest q r → LeavesRest p r
leaves-trans p q r x y = record {
  parts = y.parts;
  tight = y.tight;
  here = y.here;
  bound = y.bound ∙ x.bound;
  same_outside = λ t. y.same_outside t ∙ x.same_outside t;
  purged = λ a b d named. let first = x.purged a b d named in Purged-trans a b d (core_of p) (core_of q) (core_of r) first (y.purged a b d (named-later a b d (core_of p) (core_of q) first named));
  marks = Marks-trans (core_of p) (core_of q) (core_of r) x.marks y.marks;
  size = y.size ∙ x.size;
  words = let a = x.words in let b = y.words in omega arith;
  entries = let a = x.entries in let b = y.entries in omega arith;
}

-- entries are given up, and changes differ
pub giving-leaves : (p q : Parts) → IsParts p → IsTight (core_of p) → AreHere (core_of p) → q.segment ≡ p.segment → IsGiving p.names q.names → LeavesRest p q
giving-leaves p q parts tight here same g =
    let now = giving-parts p q parts same g in
    let up = giving-up p q parts same g in
    record {
      parts = now;
      tight = given-tight (core_of p) (core_of q) up tight;
      here = given-here (core_of p) (core_of q) up here;
      bound = up.bound;
      same_outside = up.same_outside;
      purged = λ a b d named. given-purged a b d (core_of p) (core_of q) now.core up;
      marks = Marks-same (core_of p) (core_of q) (given-marks (core_of p) (core_of q) parts.core now.core up here);
      size = ap size_of same;
      words = let e = ap free_of same in omega arith;
      entries = giving-spare p q g;
    }

pub giving-bodies : (p q : Parts) → IsParts p → q.segment ≡ p.segment → IsGiving p.names q.names → KeepsBodies (core_of p) (core_of q)
giving-bodies p q parts same g = all-pinned (core_of p) (core_of q) (λ a b d. given-purged a b d (core_of p) (core_of q) (giving-parts p q parts same g).core (giving-up p q parts same g))

pub giving-minds : (p q : Parts) → IsParts p → AreHere (core_of p) → q.segment ≡ p.segment → IsGiving p.names q.names → MindsMarks (core_of p) (core_of q)
giving-minds p q parts here same g =
    let now = giving-parts p q parts same g in
    let up = giving-up p q parts same g in
    minds-kept (core_of p) (core_of q) (purged-came (core_of p) (core_of q) (λ a b k. given-purged a b k (core_of p) (core_of q) now.core up)) (given-marks (core_of p) (core_of q) parts.core now.core up here)

pub unmarked-leaves : (p q : Parts) → IsParts q → IsTight (core_of p) → AreHere (core_of p) → IsUnmarking (core_of p) (core_of q) → ((t : ℕ) → outside (core_of q) t ≡ outside (core_of p) t) → LeavesMarks (core_of p) (core_of q)
    → q.segment ≡ p.segment → spare_of q ≡ spare_of p → LeavesRest p q
unmarked-leaves p q parts tight here step out marks same spare = record {
  parts = parts;
  tight = unmarked-tight (core_of p) (core_of q) step tight;
  here = unmarked-here (core_of p) (core_of q) step here;
  bound = step.bound;
  same_outside = out;
  purged = λ a b d named. unmarked-purged a b d (core_of p) (core_of q) step out;
  marks = marks;
  size = ap size_of same;
  words = let e = ap free_of same in omega arith;
  entries = omega arith;
}

pub unmarked-bodies : (c d : Core) → IsUnmarking c d → ((t : ℕ) → outside d t ≡ outside c t) → KeepsBodies c d
unmarked-bodies c d step out = all-pinned c d (λ a b k. unmarked-purged a b k c d step out)

-- ---- bodies of what is held

pub thinner-has : (h s : Heap) (n : ℕ) → IsThinner h s → Has s n → Has h n
thinner-has h s n x has = go (s.at n) refl
  where
    go : (o : Option Object) → s.at n ≡ o → Has h n
    go None e = let both : true ≡ false = sym has ∙ ap is_some e in absurd (cc)
    go (Some o) e = ap is_some (x.same n o e)

held-then : (a b c : Core) (h s : Heap) → IsThinner h s → KeepsHeld a b h → KeepsHeld b c s → KeepsHeld a c s
held-then a b c h s x f g r p at has =
    let first = f r p at (thinner-has h s (a.entries r).name x has) in
    body-then a b c r p first (g r first.at first.place (subst (λ (n : ℕ). Has s n) (sym first.name) has))

-- ---- thinner heaps, one after another

pub thinned-first : {H : Type 0} (host : Ghosts H) (p : Parts) (now : H) (rest : DiskRest) → Thins host p now rest p now rest
thinned-first host p now rest t at x = record { levels = t; at = at; sound = x; thinner = IsThinner-refl (heap_of t); bodies = λ s a there has. body-stays (core_of p) s a there; minds = minds-refl (core_of p) }

pub thinned-then : {H : Type 0} (host : Ghosts H) (a b c : Parts) (y z : H) (l m : DiskRest) (t : Levels) (r : IsThinned host a b y l t) → IsThinned host b c z m r.levels → IsThinned host a c z m t
thinned-then host a b c y z l m t r w = record {
  levels = w.levels;
  at = w.at;
  sound = w.sound;
  thinner = IsThinner-trans (heap_of t) (heap_of r.levels) (heap_of w.levels) r.thinner w.thinner r.sound.heap.closed;
  bodies = held-then (core_of a) (core_of b) (core_of c) (heap_of r.levels) (heap_of w.levels) w.thinner r.bodies w.bodies;
  minds = minds-trans (core_of a) (core_of b) (core_of c) r.minds w.minds;
}

pub thinned-trans : {H : Type 0} (host : Ghosts H) (a b c : Parts) (x y z : H) (k l m : DiskRest) → Thins host a x k b y l → Thins host b y l c z m → Thins host a x k c z m
thinned-trans host a b c x y z k l m f g t at s = let r = f t at s in thinned-then host a b c y z l m t r (g r.levels r.at r.sound)

-- and then a thinner one
pub same-then : {H : Type 0} (host : Ghosts H) (a b c : Parts) (y z : H) (l m : DiskRest) (t : Levels) → KeepsBodies (core_of a) (core_of b) → MindsMarks (core_of a) (core_of c) → (r : IsReached host (chunk_at b.segment) b.names y l t []) → IsThinned host b c z m r.levels → IsThinned host a c z m t
same-then host a b c y z l m t bodies minds r w = record {
  levels = w.levels;
  at = w.at;
  sound = w.sound;
  thinner = subst (λ h. IsThinner h (heap_of w.levels)) r.heap w.thinner;
  bodies = held-then (core_of a) (core_of b) (core_of c) (heap_of r.levels) (heap_of w.levels) w.thinner (λ s p there has. bodies s p there) w.bodies;
  minds = minds;
}

-- where a heap is thinner it has no more objects
least-there : (a b : Option Object) → ((o : Object) → a ≡ Some o → b ≡ Some o) → one_if_there a ≤ one_if_there b
least-there None b f = omega arith
least-there (Some o) b f = let e = ap one_if_there (f o refl) in omega arith

sum-least : (n : ℕ) (f g : ℕ → ℕ) → ((k : ℕ) → f k ≤ g k) → sum_below n f ≤ sum_below n g
sum-least zero f g less = omega arith
sum-least (suc n) f g less = let rest = sum-least n f g less in let last = less n in omega arith

thinner-count : (h s : Heap) → IsThinner h s → object_count s ≤ object_count h
thinner-count h s x =
    let a = object_count-sum h in
    let b = object_count-sum s ∙ ap (λ m. sum_below m (λ k. one_if_there (s.at k))) x.next in
    let c = sum-least h.next (λ k. one_if_there (s.at k)) (λ k. one_if_there (h.at k)) (λ k. least-there (s.at k) (h.at k) (x.same k)) in
    omega arith

pub thinned-number : {H : Type 0} (host : Ghosts H) (p q : Parts) (was now : H) (before rest : DiskRest) → HasSound host p was before → IsTrue (host.tells Work) → Thins host p was before q now rest
    → disk_held rest + fresh_of (core_of q) ≤ disk_held before + fresh_of (core_of p)
thinned-number host p q was now before rest has told f =
    let x = has told in
    let r = f x.0 x.1 x.2 in
    let a = held-on_disk rest (work_of host now) r.levels [] r.at.disk r.sound ∙ ap (λ (n : ℕ). disk_held rest + n) (sym (ap fresh_of (core-at host q now rest r.levels r.at))) in
    let b = held-on_disk before (work_of host was) x.0 [] x.1.disk x.2 ∙ ap (λ (n : ℕ). disk_held before + n) (sym (ap fresh_of (core-at host p was before x.0 x.1))) in
    let c = thinner-count (heap_of x.0) (heap_of r.levels) r.thinner in
    omega arith

pub thinned-has : {H : Type 0} (host : Ghosts H) (p q : Parts) (was now : H) (before rest : DiskRest) → HasSound host p was before → (IsTrue (host.tells Work) → Thins host p was before q now rest) → HasSound host q now rest
thinned-has host p q was now before rest has f told =
    let x = has told in
    let r = f told x.0 x.1 x.2 in
    (r.levels, r.at, r.sound)

-- ---- the end of a drain

-- nothing is dead where no name without a body is, and no object with one
none-dead : (t : Levels) → IsCore t.core → NoneBareDead t → NoBodyDead t → NoneDead t
none-dead t core bare bodies q dead = go (t.core.find q) refl
  where
    go : (o : Option ℕ) → t.core.find q ≡ o → ⊥
    go None e = bare q dead (subst (λ o. bare_by t.core o) (sym e) tt)
    go (Some s) e = at (place_of (t.core.entries s).state) refl
      where
        at : (o : Option ℕ) → place_of (t.core.entries s).state ≡ o → ⊥
        at None f = bare q dead (subst (λ o. bare_by t.core o) (sym e) f)
        at (Some a) f = bodies s a f (subst (λ n. IsDead t n) (sym (core.named q s e)) dead)

pub all-drained : {H : Type 0} (host : Ghosts H) (a p q r : Parts) (x was mid now : H) (k before between rest : DiskRest) → Thins host a x k p was before → DrainsBare host p was before q mid between → Thins host q mid between r now rest → KeepsLevels host q mid between r now rest NoBodyDead → DrainsDead host a x k r now rest
unfolding thinned-then
all-drained host a p q r x was mid now k before between rest f g then h t at s =
    let first = f t at s in
    let bare = g first.levels first.at first.sound in
    let last = h bare.thinned.levels bare.thinned.at bare.thinned.sound in
    record {
      thinned = thinned-then host a p r was now before rest t first
          (thinned-then host p q r mid now between rest first.levels bare.thinned
          (record { levels = bare.thinned.levels; at = last.0; sound = bare.thinned.sound; thinner = IsThinner-refl (heap_of bare.thinned.levels); bodies = λ i b there has. last.1 i b there; minds = (then bare.thinned.levels bare.thinned.at bare.thinned.sound).minds }));
      none = none-dead bare.thinned.levels bare.thinned.sound.core bare.none last.2;
    }

-- ---- what is dead stays so where marks go

root-same : (c d : Core) (n : ℕ) → d.find ≡ c.find → ((t : ℕ) → outside d t ≡ outside c t) → outside_by d (d.find n) ≡ outside_by c (c.find n)
root-same c d n find out = ap (λ (f : ℕ → Option ℕ). outside_by d (f n)) find ∙ go (c.find n)
  where
    go : (o : Option ℕ) → outside_by d o ≡ outside_by c o
    go None = refl
    go (Some s) = out s

-- from levels in which it is dead
pub record IsDeadThere {H : Type 0} (host : Ghosts H) (q : Parts) (now : H) (rest : DiskRest) (t : Levels) (s : ℕ) : Type 0 where
  pub reached : IsReached host (chunk_at q.segment) q.names now rest t []
  pub dead : IsDead reached.levels (reached.levels.core.entries s).name

pub unmarked-dead : {H : Type 0} (host : Ghosts H) (p q : Parts) (now : H) (rest : DiskRest) (t : Levels) (s : ℕ) → IsParts q → Stays (core_of p) (core_of q) → IsUnmarking (core_of p) (core_of q) → ((k : ℕ) → outside (core_of q) k ≡ outside (core_of p) k)
    → StandsFor host p now rest t → IsSound t [] → IsDead t (t.core.entries s).name → IsDeadThere host q now rest t s
unmarked-dead host p q now rest t s parts stays step out at x dead = record {
  reached = r;
  dead = subst (λ (n : ℕ). IsDead r.levels n) (sym name) (record {
    held = subst (λ (h : Heap). Has h (t.core.entries s).name) (sym r.heap) dead.held;
    unknown = dead.unknown;
    uncounted = ap (λ (h : Heap). count_of h (t.core.entries s).name) r.heap ∙ dead.uncounted;
    free = ap (λ (c : Core). outside_by c (c.find (t.core.entries s).name)) (sym new) ∙ root-same (core_of p) (core_of q) (t.core.entries s).name step.find out
        ∙ ap (λ (c : Core). outside_by c (c.find (t.core.entries s).name)) old ∙ dead.free;
  });
}
  where
    r : IsReached host (chunk_at q.segment) q.names now rest t []
    r = unmarked-sound host p q now rest parts stays step t at x

    old : core_of p ≡ t.core
    old = core-at host p now rest t at

    new : core_of q ≡ r.levels.core
    new = core-at host q now rest r.levels r.at

    name : (r.levels.core.entries s).name ≡ (t.core.entries s).name
    name = ap (λ (c : Core). (c.entries s).name) (sym new) ∙ unmarked-same (core_of p) (core_of q) s (λ e. e.name) step (λ e. refl) ∙ ap (λ (c : Core). (c.entries s).name) old

-- ---- a call that only read

pub levels-read : {H : Type 0} (host : Ghosts H) (p : Parts) (was now : H) (before rest : DiskRest) → rest ≡ before → IsWorkRead host was now → (t : Levels) → StandsFor host p was before t → StandsFor host p now rest t
levels-read host p was now before rest rests read t at = record {
  core = at.core;
  disk = stored-read host was now before rest t.stored t.pending rests read at.disk;
}

pub read-thinned : {H : Type 0} (host : Ghosts H) (p : Parts) (was now : H) (before rest : DiskRest) → rest ≡ before → IsWorkRead host was now → Thins host p was before p now rest
read-thinned host p was now before rest rests read t at x = record {
  levels = t;
  at = levels-read host p was now before rest rests read t at;
  sound = x;
  thinner = IsThinner-refl (heap_of t);
  bodies = λ s a there has. body-stays (core_of p) s a there;
  minds = minds-refl (core_of p);
}

-- ---- by answers

pub leaves-bound : (p q : Parts) → LeavesRest p q → entries_of q.names.table ≡ entries_of p.names.table
leaves-bound p q x = bound-entries p q x.bound
