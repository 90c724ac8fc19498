-- What making room puts together.
use Rattle.std.proofs.Common.{◌≡◌, ℕ, ◌+◌, ◌≤◌, IsTrue, Result, Ok, Err, Bool, true, false, refl, sym, ◌∙◌, arith, Option, Some, None, is_some}
use Rattle.std.proofs.lemmas.Grind.{common_steps}
use Rattle.std.specs.Result.{IfErr}
use Rattle.loom_host.specs.declared.outside.DiskFault.{DiskFault}
use Rattle.loom_host.specs.declared.outside.DiskFault.TheVariants as fault
use Rattle.loom_host.specs.declared.outside.Host.{Ghosts}
use Rattle.loom_host.specs.declared.outside.Role.TheVariants.{Work}
use Rattle.loom_host.specs.Work.{IsWorkOnly}
use Rattle.object_table.specs.Entries.{is_used, place_of}
use Rattle.object_table.specs.Table.{entries_of}
use Rattle.disk_objects.specs.declared.rest.DiskRest.{DiskRest}
use Rattle.disk_objects.specs.Disk.{disk_held, disk_room}
use Rattle.core_view.specs.Core.{Core}
use Rattle.core_view.specs.Kept.{IsCore}
use Rattle.core_view.specs.Purge.{IsPurged, fresh_of}
use Rattle.core_view.specs.Room.{is_among}
use Rattle.core_view.proofs.Core.{placed-used}
use Rattle.core_view.proofs.Purge.{fresh-least}
use Rattle.leaf_lambda.specs.declared.parts.Parts.{Parts}
use Rattle.leaf_lambda.specs.Parts.{core_of}
use Rattle.purger.specs.Purge.{IsEvictFault, IsPurgeFault, KeepsBodies, OnDisk, Undisturbed}
use Rattle.purger.specs.declared.room.RoomFault.{RoomFault}
use Rattle.purger.specs.declared.room.RoomFault.TheVariants.{Short, Disk}
use Rattle.purger.proofs.GivingLaws.{purge-later}

pub purge-fault : {H : Type 0} (host : Ghosts H) (old new : H) (rest : DiskRest) (c : Core) (s p : ℕ) (f : DiskFault) → IsCore c → place_of (c.entries s).state ≡ Some p → (IsTrue (host.tells Work) → disk_held rest + fresh_of c ≤ disk_room rest)
    → IsEvictFault host old new rest (c.entries s).flags.fresh f → IsPurgeFault host old new f
purge-fault {H} host old new rest c s p (fault.Work count) core at counted cause = cause
purge-fault {H} host old new rest c s p (fault.Full held room) core at counted cause = λ told.
    let some = fresh-least c s p core at (cause.1 told) in
    let most = counted told in
    let full = cause.0 in
    absurd (omega arith)
purge-fault {H} host old new rest c s p (fault.Damaged place about) core at counted cause = cause

-- ---- tests

pub none-of : (o : Option ℕ) (b : Bool) → b ≡ is_some o → b ≡ false → o ≡ None
none-of None b is no_ = refl
none-of (Some p) b is no_ = let both : true ≡ false = sym is ∙ no_ in absurd (cc)

pub some-of : (o : Option ℕ) (b : Bool) → b ≡ is_some o → b ≡ true → (p : ℕ) × (o ≡ Some p)
some-of None b is yes_ = let both : true ≡ false = sym yes_ ∙ is in absurd (cc)
some-of (Some p) b is yes_ = (p, refl)

-- ---- the table and the host

pub bound-entries : (p q : Parts) → (core_of q).bound ≡ (core_of p).bound → entries_of q.names.table ≡ entries_of p.names.table
unfolding core_of
bound-entries p q same = omega arith

pub work-refl : {H : Type 0} (host : Ghosts H) (now : H) → IsWorkOnly host now now
work-refl {H} host now = record { others = λ role away. refl; work = λ told. refl; other_faults = λ role away. refl; later = omega arith; writes = omega arith }

-- ---- where no body goes

-- what stays whichever three are pinned keeps all bodies
pub all-pinned : (c d : Core) → ((a b k : ℕ) → IsPurged a b k c d) → KeepsBodies c d
all-pinned c d purged s p at = (purged s s s).pinned s p (self s) at
  where
    self : (s : ℕ) → is_among s s s s ≡ true
    self s = grind (arith, common_steps)

-- ---- entry by entry

pub gone-purged : (a b k : ℕ) (c d : Core) (s p : ℕ) → IsPurged a b k c d → place_of (c.entries s).state ≡ None → place_of (d.entries s).state ≡ Some p → ⊥
gone-purged a b k c d s p purged gone at = let both : None ≡ Some p = sym (purged.leaves s gone) ∙ at in cc

-- what has a body still had one before
pub pinned-later : (a b k : ℕ) (c d : Core) → IsPurged a b k c d → ((s p : ℕ) → place_of (c.entries s).state ≡ Some p → is_among a b k s ≡ true) → (s p : ℕ) → place_of (d.entries s).state ≡ Some p → is_among a b k s ≡ true
pinned-later a b k c d purged all s p at = go (place_of (c.entries s).state) refl
  where
    go : (o : Option ℕ) → place_of (c.entries s).state ≡ o → is_among a b k s ≡ true
    go None e = absurd (gone-purged a b k c d s p purged e at)
    go (Some q) e = all s q e

-- ---- by the answer of a call that makes room

pub undisturbed-map : {T : Type 0} (r : Result T RoomFault) {A B : Type 0} → (A → B) → Undisturbed r A → Undisturbed r B
undisturbed-map {T} (Ok v) f x = f x
undisturbed-map {T} (Err Short) f x = f x
undisturbed-map {T} (Err (Disk e)) f x = tt

disk-once : {H : Type 0} (host : Ghosts H) (old mid new : H) (f : RoomFault) → host.faults old Work ≤ host.faults mid Work → OnDisk f (IsPurgeFault host mid new) → OnDisk f (IsPurgeFault host old new)
disk-once {H} host old mid new Short low x = tt
disk-once {H} host old mid new (Disk f) low x = purge-later host old mid new f low x

pub disk-later : {T H : Type 0} (host : Ghosts H) (old mid new : H) (r : Result T RoomFault) → host.faults old Work ≤ host.faults mid Work → IfErr r (λ f. OnDisk f (IsPurgeFault host mid new)) → IfErr r (λ f. OnDisk f (IsPurgeFault host old new))
disk-later {T} {H} host old mid new (Ok v) low x = tt
disk-later {T} {H} host old mid new (Err f) low x = disk-once host old mid new f low x

-- what has a body after a purge was in use before it
pub placed-before : (a b k : ℕ) (c d : Core) (s p : ℕ) → IsPurged a b k c d → place_of (d.entries s).state ≡ Some p → is_used (c.entries s).state ≡ true
placed-before a b k c d s p purged at = go (place_of (c.entries s).state) refl
  where
    go : (o : Option ℕ) → place_of (c.entries s).state ≡ o → is_used (c.entries s).state ≡ true
    go None e = let both : None ≡ Some p = sym (purged.leaves s e) ∙ at in absurd (cc)
    go (Some q) e = placed-used (c.entries s).state q e
