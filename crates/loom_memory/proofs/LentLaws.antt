-- Roles of the host that its memory leaves to others: what is told stays where they are written.
use Rattle.std.proofs.Common.{◌≡◌, ◌≢◌, ℕ, Bool, refl, sym, ◌∙◌, ap, subst, Some}
use Rattle.loom_host.specs.Outside.{RoleState, SameBut, CanWrite}
use Rattle.loom_host.specs.declared.outside.Host.{Ghosts}
use Rattle.loom_host.specs.declared.outside.Role.{Role}
use Rattle.loom_host.specs.declared.outside.Role.TheVariants.{Image, Events, Work, Saved, Display, Transcript, Notes}
use Rattle.disk_objects.specs.declared.rest.DiskRest.{DiskRest}
use Rattle.disk_objects.specs.Disk.{disk_room}
use Rattle.core_view.specs.Held.{Disk, held}
use Rattle.leaf_lambda.specs.Parts.{core_of}
use Rattle.loom_memory.specs.declared.memory.LoomMemory.{LoomMemory}
use Rattle.loom_memory.specs.Memory.{heap_if, told_of, loom_told, loom_outside, others_of}
use Rattle.loom_memory.specs.Lent.{IsLent, faults_of}
use Rattle.loom_memory.proofs.SayLaws.{same-disk}

pub lent-write : (r : Role) → IsLent r → CanWrite r
lent-write Saved lent = tt
lent-write Notes lent = tt
lent-write Image lent = absurd lent
lent-write Events lent = absurd lent
lent-write Work lent = absurd lent
lent-write Display lent = absurd lent
lent-write Transcript lent = absurd lent

work-away : (r : Role) → IsLent r → ◌≢◌ {A = Role} Work r
work-away r lent = λ e. subst IsLent (sym e) lent

transcript-away : (r : Role) → IsLent r → ◌≢◌ {A = Role} Transcript r
transcript-away r lent = λ e. subst IsLent (sym e) lent

-- all of a lent role is outside
pub lent-others : (told : Bool) (r : Role) (s : RoleState) (n : ℕ) → IsLent r → others_of told r s n ≡ record { role = s; faults = n }
lent-others told Saved s n lent = refl
lent-others told Notes s n lent = refl
lent-others told Image s n lent = absurd lent
lent-others told Events s n lent = absurd lent
lent-others told Work s n lent = absurd lent
lent-others told Display s n lent = absurd lent
lent-others told Transcript s n lent = absurd lent

pub lent-told : {H : Type 0} (host : Ghosts H) (m : LoomMemory H host) (new : H) (now : DiskRest) (r : Role) → IsLent r → now ≡ m.pager.levels.disk.rest → SameBut r (host.roles m.pager.levels.disk.host.now) (host.roles new) → SameBut r (host.faults m.pager.levels.disk.host.now) (host.faults new)
    → told_of host new now (core_of m.pager.levels.parts) m.regs m.pager.pinned m.ledger ≡ told_of host m.pager.levels.disk.host.now m.pager.levels.disk.rest (core_of m.pager.levels.parts) m.regs m.pager.pinned m.ledger
lent-told {H} host m new now r lent same roles faults =
    let disk = same-disk host m.pager.levels.disk.host.now new m.pager.levels.disk.rest now same (roles Work (work-away r lent)) in
    let heap_ = ap (λ (d : Disk). heap_if (host.tells Work) (held (core_of m.pager.levels.parts) d) m.ledger.next) disk in
    let put_ : (host.roles new Transcript).put ≡ (host.roles m.pager.levels.disk.host.now Transcript).put = ap (λ (s : RoleState). s.put) (roles Transcript (transcript-away r lent)) in
    let room_ = ap disk_room same in
    let work = faults Work (work-away r lent) in
    let said = faults Transcript (transcript-away r lent) in
    λ i. record (told_of host new now (core_of m.pager.levels.parts) m.regs m.pager.pinned m.ledger) {
      heap = heap_ i;
      transcript = put_ i;
      bounds = Some (record { core = m.ledger.core; entries = m.ledger.entries; room = room_ i; base = m.ledger.base; made = m.ledger.made; work_faults = work i; said_faults = said i });
    }

pub others-lent : {H : Type 0} (host : Ghosts H) (old new : H) (r : Role) → SameBut r (host.roles old) (host.roles new) → SameBut r (host.faults old) (host.faults new) → SameBut r (λ k. others_of (host.tells Work) k (host.roles old k) (host.faults old k)) (λ k. others_of (host.tells Work) k (host.roles new k) (host.faults new k))
others-lent {H} host old new r roles faults = λ k away. ap (λ (s : RoleState). others_of (host.tells Work) k s (host.faults new k)) (roles k away) ∙ ap (λ (n : ℕ). others_of (host.tells Work) k (host.roles old k) n) (faults k away)

-- the count of a role is told, or outside
pub faults-are : {H : Type 0} (host : Ghosts H) (m : LoomMemory H host) (r : Role) → host.faults m.pager.levels.disk.host.now r ≡ faults_of host m r
unfolding loom_told loom_outside
faults-are {H} host m Work = refl
faults-are {H} host m Transcript = refl
faults-are {H} host m Image = refl
faults-are {H} host m Events = refl
faults-are {H} host m Saved = refl
faults-are {H} host m Display = refl
faults-are {H} host m Notes = refl
