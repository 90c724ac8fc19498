-- A dead name that goes, on disk and in what parts and disk stand for.
use Rattle.std.proofs.Common.{◌≡◌, ℕ, ◌≤◌, Bool, true, false, List, [], ◌∷◌, Option, Some, None, refl, sym, ◌∙◌, ap, subst, arith}
use Rattle.std.specs.Prelude.{IsSome}
use Rattle.std.specs.FinMap as map
use Rattle.long_names.specs.declared.object.Object.{Object}
use Rattle.loom_host.specs.declared.outside.Host.{Ghosts}
use Rattle.object_record.specs.Buffer.{raw_of}
use Rattle.object_record.specs.Objects.{object_in}
use Rattle.object_table.specs.Entries.{put}
use Rattle.loom_host.specs.Work.{work_of, IsWorkRead}
use Rattle.disk_objects.specs.declared.rest.DiskRest.{DiskRest}
use Rattle.disk_objects.specs.Disk.{DiskObject, IsDisk}
use Rattle.disk_objects.specs.Calls.{IsGot, HasObject, IsIdle, TookFirst}
use Rattle.core_segment.specs.Chunks.{Chunk}
use Rattle.resident_table.specs.declared.Parts2.{Parts2}
use Rattle.core_view.specs.Levels.{Stored, Levels, is_waiting}
use Rattle.core_view.specs.Counted.{words_of, one_if, IsSound}
use Rattle.work_space.specs.Blocks.{times}
use Rattle.core_view.specs.Dead.{IsLoose}
use Rattle.core_view.specs.LevelSteps.{removed}
use Rattle.core_view.proofs.DeadLaws.{waiting-loose}
use Rattle.core_view.proofs.FreeLaws.{removed-heap, removed-sound}
use Rattle.core_view.proofs.QueueLaws.{times-here, times-other}
use Rattle.delta_counts.specs.At.{stored_of, IsAt, IsReached, IsFreedAt, MayGo}
use Rattle.core_view.specs.LevelSteps.{with_pending}
use Rattle.delta_counts.proofs.StoredLaws.{object-at, remove-same}
use Rattle.loom_host.proofs.WorkLaws.{work-same}

-- a read changes nothing
pub at-read : {H : Type 0} (host : Ghosts H) (chunks : ℕ → Chunk) (p : Parts2) (was now : H) (before rest : DiskRest) (t : Levels) → IsWorkRead host was now → rest ≡ before → IsAt host chunks p was before t → IsAt host chunks p now rest t
at-read host chunks p was now before rest t read same at = record {
  core = at.core;
  disk = record {
    objects = at.disk.objects;
    disk = subst (λ (r : DiskRest). IsDisk r (work_of host now) at.disk.objects t.pending) (sym same) (subst (λ w. IsDisk before w at.disk.objects t.pending) (sym (work-same host was now read)) at.disk.disk);
    same = at.disk.same;
  };
}

-- the object of a name that may go
pub may-object : {H : Type 0} (host : Ghosts H) (chunks : ℕ → Chunk) (p : Parts2) (now : H) (rest : DiskRest) (n : ℕ) (l : Levels) → (at : IsAt host chunks p now rest l) → (may : MayGo n l) → (o : DiskObject) × (map.get at.disk.objects n ≡ Some o) × (stored_of o ≡ may.stored)
may-object host chunks p now rest n l at may = object-at at.disk.objects l.stored n may.stored at.disk.same (ap (λ (x : Levels). x.stored n) may.is ∙ may.can.loose.there)

got-object : (bytes : List ℕ) (x : Option DiskObject) (o : DiskObject) → x ≡ Some o → IsGot bytes x true → HasObject bytes o
got-object bytes None o e g = absurd g
got-object bytes (Some y) o e g = let same : y ≡ o = cc in subst (λ z. HasObject bytes z) same g

-- what was read is the object
pub got-is : (bytes : List ℕ) (x : Option DiskObject) (o : DiskObject) (r : Stored) → x ≡ Some o → stored_of o ≡ r → IsGot bytes x true → object_in (raw_of bytes) ≡ r.object
got-is bytes x o r e f h = let has = got-object bytes x o e h in ap object_in has.raw_is ∙ ap (λ (s : Stored). s.object) f

pub may-idle : {H : Type 0} (host : Ghosts H) (chunks : ℕ → Chunk) (p : Parts2) (now : H) (rest : DiskRest) (n : ℕ) (l : Levels) → (at : IsAt host chunks p now rest l) → MayGo n l → IsIdle n at.disk.objects l.pending
may-idle host chunks p now rest n l at may = let o = may-object host chunks p now rest n l at may in (subst (λ x. IsSome x) (sym o.1) refl, may.can.gone)

-- it is removed
pub removed-at : {H : Type 0} (host : Ghosts H) (chunks : ℕ → Chunk) (p : Parts2) (was now : H) (before rest : DiskRest) (n : ℕ) (l : Levels) → (at : IsAt host chunks p was before l) → (may : MayGo n l) → IsDisk rest (work_of host now) (map.remove at.disk.objects n) l.pending
    → IsAt host chunks p now rest (removed may.levels n l.pending)
removed-at host chunks p was now before rest n l at may disk = record {
  core = at.core ∙ ap (λ (x : Levels). x.core) may.is;
  disk = record {
    objects = map.remove at.disk.objects n;
    disk = disk;
    same = λ q. remove-same at.disk.objects l.stored n at.disk.same q ∙ ap (λ (x : Levels). put x.stored n None q) may.is;
  };
}

pub removed-owes : (n : ℕ) (l : Levels) (o : Object) → (may : MayGo n l) → o ≡ may.stored.object → IsSound (removed may.levels n l.pending) (words_of o)
removed-owes n l o may e = subst (λ (x : Object). IsSound (removed may.levels n l.pending) (words_of x)) (sym e) (removed-sound may.levels n may.stored l.pending may.sound may.can)

pub freed-at : {H : Type 0} (host : Ghosts H) (chunks : ℕ → Chunk) (p : Parts2) (now : H) (rest : DiskRest) (n : ℕ) (l : Levels) → (may : MayGo n l) → IsReached host chunks p now rest (removed may.levels n l.pending) [] → IsFreedAt host chunks p now rest may.levels n
freed-at host chunks p now rest n l may x = record { levels = x.levels; at = x.at; sound = x.sound; heap = x.heap ∙ removed-heap may.levels n may.stored l.pending may.sound may.can }

-- ---- the first that is pending

one-true : (b : Bool) → 1 ≤ one_if b → b ≡ true
one-true true e = refl
one-true false e = absurd (omega arith)

one-most : (b : Bool) → one_if b ≤ 1
one-most true = omega arith
one-most false = omega arith

pub first-loose : (t : Levels) (n : ℕ) (others : List ℕ) → IsSound t [] → t.pending ≡ n ∷ others → (r : Stored) × IsLoose t n r
first-loose t n others x e = waiting-loose t n x (one-true (is_waiting t n) (let a = x.counted.waiting n in let b = ap (λ xs. times n xs) e in let c = times-here n others in omega arith))

pub first-may : (t : Levels) (n : ℕ) (others : List ℕ) → IsSound t [] → t.pending ≡ n ∷ others → MayGo n (with_pending t others)
first-may t n others x e =
    let loose = first-loose t n others x e in
    record {
      levels = t;
      stored = loose.0;
      sound = x;
      can = record {
        loose = loose.1;
        gone = let a = x.counted.waiting n in let b = ap (λ xs. times n xs) e in let c = times-here n others in let d = one-most (is_waiting t n) in omega arith;
        others = λ q away. sym (ap (λ xs. times q xs) e ∙ times-other q n others away);
      };
      is = refl;
    }

-- the first is taken
pub took-at : {H : Type 0} (host : Ghosts H) (chunks : ℕ → Chunk) (p : Parts2) (was now : H) (before rest : DiskRest) (t : Levels) (n : ℕ) (others : List ℕ) → (at : IsAt host chunks p was before t) → IsDisk rest (work_of host now) at.disk.objects others → IsAt host chunks p now rest (with_pending t others)
took-at host chunks p was now before rest t n others at disk = record { core = at.core; disk = record { objects = at.disk.objects; disk = disk; same = at.disk.same } }

pub none-at : {H : Type 0} (host : Ghosts H) (chunks : ℕ → Chunk) (p : Parts2) (was now : H) (before rest : DiskRest) (t : Levels) → (at : IsAt host chunks p was before t) → t.pending ≡ [] → IsDisk rest (work_of host now) at.disk.objects [] → IsAt host chunks p now rest t
none-at host chunks p was now before rest t at e disk = record { core = at.core; disk = record { objects = at.disk.objects; disk = subst (λ xs. IsDisk rest (work_of host now) at.disk.objects xs) (sym e) disk; same = at.disk.same } }

pub took-some : (pending : List ℕ) (P : List ℕ → Type 0) (x : Option ℕ) (n : ℕ) → x ≡ Some n → TookFirst pending P x → (others : List ℕ) × (pending ≡ n ∷ others) × P others
took-some pending P x n e took = subst (λ y. TookFirst pending P y) e took

pub took-none : (pending : List ℕ) (P : List ℕ → Type 0) (x : Option ℕ) → x ≡ None → TookFirst pending P x → (pending ≡ []) × P []
took-none pending P x e took = subst (λ y. TookFirst pending P y) e took

pub first-levels : (t : Levels) (n : ℕ) (others : List ℕ) (x : IsSound t []) (e : t.pending ≡ n ∷ others) → (first-may t n others x e).levels ≡ t
unfolding first-may
first-levels t n others x e = refl
