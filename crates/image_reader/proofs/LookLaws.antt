-- What the disk tells of a name that it holds.
use Rattle.std.proofs.Common.{◌≡◌, ℕ, Bool, true, false, List, Option, Some, None, refl, sym, ◌∙◌, arith}
use Rattle.std.specs.Prelude.{IsSome}
use Rattle.long_names.specs.declared.object.Object.{Object}
use Rattle.loom_host.specs.declared.outside.DiskFault.{DiskFault}
use Rattle.loom_host.specs.declared.outside.DiskFault.TheVariants as disk
use Rattle.loom_host.specs.declared.outside.Host.{Ghosts}
use Rattle.loom_host.specs.declared.outside.Role.TheVariants.{Work}
use Rattle.loom_host.specs.Work.{IsWorkRead}
use Rattle.object_record.specs.Buffer.{raw_of}
use Rattle.object_record.specs.Objects.{object_in}
use Rattle.disk_objects.specs.Calls.{IsFault}
use Rattle.disk_objects.specs.Function.{IsFetched}
use Rattle.image_reader.specs.Frames.{IsDiskFault}

pub fetched : (bytes : List ℕ) (d : Option Object) (held : Bool) (o : Object) → IsFetched bytes d held → d ≡ Some o → held ≡ true → o ≡ object_in (raw_of bytes)
fetched bytes None held o is e so = let clash : ◌≡◌ {A = Option Object} None (Some o) = e in absurd (cc)
fetched bytes (Some p) true o is e so = let same : p ≡ o = cc in sym same ∙ is
fetched bytes (Some p) false o is e so = absurd is

-- a name that is held is found
pub never_lost : (bytes : List ℕ) (d : Option Object) (held : Bool) → IsFetched bytes d held → IsSome d → held ≡ false → ⊥
never_lost bytes None held is there none = let clash : ◌≡◌ {A = Bool} false true = there in cc
never_lost bytes (Some p) true is there none = let clash : ◌≡◌ {A = Bool} true false = none in cc
never_lost bytes (Some p) false is there none = is

pub look_fault : {H : Type 0} (host : Ghosts H) (old new : H) (P : ℕ → Type 0) (name : ℕ) (d : DiskFault) → IsFault (host.tells Work) (host.faults old Work) (host.faults new Work) P name d → IsDiskFault host old new d
look_fault host old new P name (disk.Work count) f = f
look_fault host old new P name (disk.Full held room) f = absurd f
look_fault host old new P name (disk.Damaged place about) f = f.0

pub read_none : {H : Type 0} (host : Ghosts H) (now : H) → IsWorkRead host now now
read_none host now = record { roles = λ r. refl; other_faults = λ r other. refl; later = omega arith; writes = refl }

pub read_then : {H : Type 0} (host : Ghosts H) (old mid new : H) → IsWorkRead host old mid → IsWorkRead host mid new → IsWorkRead host old new
read_then host old mid new p q = record {
  roles = λ r. q.roles r ∙ p.roles r;
  other_faults = λ r other. q.other_faults r other ∙ p.other_faults r other;
  later = omega (arith, p.later, q.later);
  writes = q.writes ∙ p.writes;
}
