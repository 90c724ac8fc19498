-- One object that is written and goes.
use Rattle.std.proofs.Common.{◌≡◌, ℕ, Bool, true, false, List, refl, ◌∙◌, ap, Option, Some, None, is_some, cond, IsTrue, inl, Result, Ok, Err}
use Rattle.std.specs.Result.{IfErr}
use Rattle.std.specs.FinMap as map
use Rattle.long_names.specs.declared.object.Object.{Object}
use Rattle.loom_host.specs.declared.outside.DiskFault.{DiskFault}
use Rattle.loom_host.specs.declared.outside.DiskFault.TheVariants as fault
use Rattle.loom_host.specs.declared.outside.Host.{Ghosts}
use Rattle.loom_host.specs.declared.outside.Role.TheVariants.{Work}
use Rattle.loom_host.specs.Outside.{RoleState}
use Rattle.loom_host.specs.Work.{IsWorkRead, work_of}
use Rattle.object_record.specs.Raw.{RawRecord}
use Rattle.object_record.specs.Buffer.{raw_of}
use Rattle.object_record.specs.Objects.{object_in}
use Rattle.disk_objects.specs.declared.rest.DiskRest.{DiskRest}
use Rattle.disk_objects.specs.Disk.{Objects, IsDisk}
use Rattle.disk_objects.specs.Calls.{HoldsObjects, IsFault, IsPutFault}
use Rattle.disk_objects.specs.Function.{IsFetched, KeepsObjects, disk_of, objects_at, object_held}
use Rattle.disk_objects.specs.Places.{IsReadPlace}
use Rattle.purger.specs.Purge.{IsReadFault, IsReadDamage, IsEvictFault}

-- ---- what was read

pub read-same : {H : Type 0} (host : Ghosts H) (old new : H) (rest now : DiskRest) → now ≡ rest → IsWorkRead host old new → disk_of host new now ≡ disk_of host old rest
read-same {H} host old new rest now same read = ap (λ (w : List ℕ). objects_at now w) (ap (λ (r : RoleState). r.contents) (read.roles Work)) ∙ ap (λ (k : DiskRest). objects_at k (work_of host old)) same

pub read-stands : {H : Type 0} (host : Ghosts H) (old new : H) (rest now : DiskRest) → (IsTrue (host.tells Work) → KeepsObjects host old new rest now) → HoldsObjects host new now
read-stands {H} host old new rest now keeps = λ told. (keeps told).stands told

pub not-fetched : (bytes : List ℕ) (x : Option Object) (b : Bool) → b ≡ false → IsFetched bytes x b → x ≡ None
not-fetched bytes None b e got = refl
not-fetched bytes (Some o) true e got = absurd (cc)
not-fetched bytes (Some o) false e got = absurd got

pub was-fetched : (bytes : List ℕ) (x : Option Object) (b : Bool) → b ≡ true → IsFetched bytes x b → x ≡ Some (object_in (raw_of bytes))
was-fetched bytes (Some o) true e got = ap Some got
was-fetched bytes (Some o) false e got = absurd got
was-fetched bytes None true e got = absurd got
was-fetched bytes None false e got = absurd (cc)

-- a fault of a read
get-fault : (tells : Bool) (before now : ℕ) (P : ℕ → Type 0) (name : ℕ) (f : DiskFault) → IsFault tells before now P name f → IsReadFault tells before now f
get-fault tells before now P name (fault.Work count) cause = cause
get-fault tells before now P name (fault.Full held room) cause = cause
get-fault tells before now P name (fault.Damaged place about) cause = cause.0

pub get-fault-if : {T : Type 0} (tells : Bool) (before now : ℕ) (P : ℕ → Type 0) (name : ℕ) (r : Result T DiskFault) → IfErr r (IsFault tells before now P name) → IfErr r (IsReadFault tells before now)
get-fault-if {T} tells before now P name (Ok x) cause = tt
get-fault-if {T} tells before now P name (Err f) cause = get-fault tells before now P name f cause

-- and where it points
get-damage : (tells : Bool) (before now : ℕ) (rest : DiskRest) (name : ℕ) (f : DiskFault) → IsFault tells before now (IsReadPlace rest) name f → IsReadDamage rest name f
get-damage tells before now rest name (fault.Work count) cause = tt
get-damage tells before now rest name (fault.Full held room) cause = tt
get-damage tells before now rest name (fault.Damaged place about) cause = (inl cause.1, cause.2)

pub get-damage-if : {T : Type 0} (tells : Bool) (before now : ℕ) (rest : DiskRest) (name : ℕ) (r : Result T DiskFault) → IfErr r (IsFault tells before now (IsReadPlace rest) name) → IfErr r (IsReadDamage rest name)
get-damage-if {T} tells before now rest name (Ok x) cause = tt
get-damage-if {T} tells before now rest name (Err f) cause = get-damage tells before now rest name f cause

-- ---- what was written

put-fault : {H : Type 0} (host : Ghosts H) (old new : H) (rest after : DiskRest) (raw : RawRecord) (f : DiskFault) → HoldsObjects host old rest → ((objects : Objects) (queue : List ℕ) → IsDisk rest (work_of host old) objects queue → disk_of host old rest raw.name ≡ object_held (map.get objects raw.name)) → IsPutFault host old new rest after raw f
    → IsEvictFault host old new rest (cond (is_some (disk_of host old rest raw.name)) false true) f
put-fault {H} host old new rest after raw (fault.Work count) stands law cause = cause
put-fault {H} host old new rest after raw (fault.Full held room) stands law cause = (
  cause.all,
  λ told. let s = stands told in ap (λ (x : Option Object). cond (is_some x) false true) (law s.0 s.1 s.2 ∙ ap object_held (cause.absent told s.0 s.1 s.2)),
)
put-fault {H} host old new rest after raw (fault.Damaged place about) stands law cause = cause.0

pub put-fault-if : {T H : Type 0} (host : Ghosts H) (old new : H) (rest after : DiskRest) (raw : RawRecord) (r : Result T DiskFault) → HoldsObjects host old rest → ((objects : Objects) (queue : List ℕ) → IsDisk rest (work_of host old) objects queue → disk_of host old rest raw.name ≡ object_held (map.get objects raw.name)) → IfErr r (IsPutFault host old new rest after raw)
    → IfErr r (IsEvictFault host old new rest (cond (is_some (disk_of host old rest raw.name)) false true))
put-fault-if {T} {H} host old new rest after raw (Ok x) stands law cause = tt
put-fault-if {T} {H} host old new rest after raw (Err f) stands law cause = put-fault host old new rest after raw f stands law cause
