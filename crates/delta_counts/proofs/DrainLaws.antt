-- One dead name is freed, or none is dead without a body.
use Rattle.std.proofs.Common.{◌≡◌, inl, ℕ, Bool, true, false, None, [], Result, Ok, Err, IfOk, sym, ◌∙◌, ap, subst, arith}
use Rattle.long_names.specs.Heap.{Has, without, count_of}
use Rattle.loom_host.specs.declared.outside.Host.{Ghosts}
use Rattle.object_table.specs.Table.{entries_of}
use Rattle.disk_objects.specs.declared.rest.DiskRest.{DiskRest}
use Rattle.core_segment.specs.Chunks.{Chunk}
use Rattle.core_view.specs.Core.{Core}
use Rattle.core_view.specs.Kept.{IsCore}
use Rattle.resident_table.specs.Resident.{held_of, room_of}
use Rattle.resident_table.specs.declared.Parts2.{Parts2}
use Rattle.core_view.specs.Levels.{Levels, heap_of}
use Rattle.core_view.specs.Counted.{IsSound}
use Rattle.core_view.specs.Dead.{NoneIdle, outside_by, roots_of}
use Rattle.long_names.proofs.CountLaws.{thinner-without}
use Rattle.core_view.proofs.DeadLaws.{bounded, none-bare}
use Rattle.long_names.specs.Thin.{IsThinner}
use Rattle.delta_counts.specs.Parts.{IsCounting}
use Rattle.delta_counts.specs.At.{IsAt, Drains, DrainsOne}
use Rattle.delta_counts.specs.Giving.{IsGiving, NoneIdleBelow}
use Rattle.delta_counts.proofs.GiveLaws.{none-idle, given-roots}

pub counting-giving : (p q : Parts2) → IsCounting p q → IsGiving p q
counting-giving p q c = record {
  core = c.core;
  stays = c.stays;
  outside = c.outside;
  entries = λ s. inl (c.entries s);
  bodies = λ s at e. c.entries s;
  sum = let a = ap held_of c.resident in let b = c.free in omega arith;
  more = let b = c.free in omega arith;
  room = ap room_of c.resident;
  bound = c.bound;
}

-- what no word of the heap is leaves a thinner one
pub thinner-one : (t u : Levels) (n : ℕ) → IsSound t [] → count_of (heap_of t) n ≡ 0 → heap_of u ≡ without (heap_of t) n → IsThinner (heap_of t) (heap_of u)
thinner-one t u n x none is = subst (λ h. IsThinner (heap_of t) h) (sym is) (thinner-without (heap_of t) n (bounded (heap_of t) x.heap) none)

pub first-one : {H : Type 0} (host : Ghosts H) (chunks : ℕ → Chunk) (p : Parts2) (now : H) (rest : DiskRest) (t : Levels) (b : Bool) → IsSound t [] → b ≡ true → Drains host chunks p now rest t b → DrainsOne host chunks p now rest t true
first-one host chunks p now rest t false x e d = absurd (let no : false ≡ true = e in cc)
first-one host chunks p now rest t true x e d = record {
  name = d.0;
  levels = d.3.levels;
  at = d.3.at;
  sound = d.3.sound;
  held = d.1.held;
  unknown = d.1.unknown;
  uncounted = d.1.uncounted;
  free = d.1.free;
  heap = d.3.heap;
  thinner = thinner-one t d.3.levels d.0 x d.1.uncounted d.3.heap;
}

-- nothing was pending
pub first-none : {H : Type 0} (host : Ghosts H) (chunks : ℕ → Chunk) (p : Parts2) (now : H) (rest : DiskRest) (t : Levels) (b : Bool) → b ≡ false → Drains host chunks p now rest t b → IsAt host chunks p now rest t
first-none host chunks p now rest t true e d = absurd (let no : true ≡ false = e in cc)
first-none host chunks p now rest t false e d = d.1

pub none-core : {H : Type 0} (host : Ghosts H) (chunks : ℕ → Chunk) (p q : Parts2) (now : H) (rest : DiskRest) (u : Levels) → IsGiving p q → NoneIdleBelow (entries_of p.table) q → IsAt host chunks q now rest u → IsSound u [] → NoneIdle u.core
none-core host chunks p q now rest u g below at x = subst (λ (c : Core). NoneIdle c) at.core
    (none-idle q chunks (subst (λ (c : Core). IsCore c) (sym at.core) x.core) (subst (λ n. NoneIdleBelow n q) (let b = g.bound in let same : entries_of p.table ≡ entries_of q.table = omega arith in same) below))

-- of levels of which entries were given up
given-free : {H : Type 0} (host : Ghosts H) (chunks : ℕ → Chunk) (p q : Parts2) (was now : H) (before rest : DiskRest) (t u : Levels) (n : ℕ) → IsAt host chunks p was before t → IsAt host chunks q now rest u → IsSound t [] → IsGiving p q → u.core.find n ≡ None → roots_of t n ≡ 0
given-free host chunks p q was now before rest t u n at to x g none =
    subst (λ (c : Core). outside_by c (c.find n) ≡ 0) at.core
    (given-roots chunks p q n g (subst (λ (c : Core). IsCore c) (sym at.core) x.core) (ap (λ (c : Core). c.find n) to.core ∙ none))

pub then-one : {H : Type 0} (host : Ghosts H) (chunks : ℕ → Chunk) (m q p : Parts2) (was mid now : H) (before between rest : DiskRest) (t u : Levels) (b : Bool) → IsAt host chunks m was before t → IsAt host chunks q mid between u → IsGiving m q → IsSound t [] → heap_of u ≡ heap_of t → IsSound u [] → NoneIdle u.core
    → Drains host chunks p now rest u b → DrainsOne host chunks p now rest t b
then-one host chunks m q p was mid now before between rest t u true at to g y same x none d = record {
  name = d.0;
  levels = d.3.levels;
  at = d.3.at;
  sound = d.3.sound;
  held = subst (λ h. Has h d.0) same d.1.held;
  unknown = d.1.unknown;
  uncounted = uncounted;
  free = given-free host chunks m q was mid before between t u d.0 at to y g d.2;
  heap = heap;
  thinner = thinner-one t d.3.levels d.0 y uncounted heap;
}
  where
    uncounted : count_of (heap_of t) d.0 ≡ 0
    uncounted = subst (λ h. count_of h d.0 ≡ 0) same d.1.uncounted

    heap : heap_of d.3.levels ≡ without (heap_of t) d.0
    heap = d.3.heap ∙ ap (λ h. without h d.0) same
then-one host chunks m q p was mid now before between rest t u false at to g y same x none d = (record { levels = u; at = d.1; sound = x; heap = same }, none-bare u x d.0 none)

pub if-map : {A E : Type 0} (r : Result A E) {P Q : A → Type 0} → ((a : A) → P a → Q a) → IfOk r P → IfOk r Q
if-map (Ok a) f x = f a x
if-map (Err e) f x = x
