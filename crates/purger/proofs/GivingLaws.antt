-- Entries of idle leaves that are given up: what that leaves of a core, and faults of the calls that do it.
use Rattle.std.proofs.Common.{zero, suc, ◌≡◌, ℕ, ◌<◌, ◌≤◌, Bool, true, false, refl, sym, ◌∙◌, ap, subst, arith, Option, Some, None, IsTrue, Result, Ok, Err, ⊎_elim}
use Rattle.std.specs.Result.{IfErr}
use Rattle.long_names.specs.Counting.{Rose}
use Rattle.loom_host.specs.declared.outside.DiskFault.{DiskFault}
use Rattle.loom_host.specs.declared.outside.DiskFault.TheVariants as fault
use Rattle.loom_host.specs.declared.outside.Host.{Ghosts}
use Rattle.loom_host.specs.declared.outside.Role.TheVariants.{Work}
use Rattle.object_table.specs.declared.entry.Entry.{Entry}
use Rattle.object_table.specs.declared.entry.EntryState.{EntryState}
use Rattle.object_table.specs.Entries.{is_used, place_of}
use Rattle.object_table.specs.Table.{entry_at, entries_of}
use Rattle.disk_objects.specs.declared.rest.DiskRest.{DiskRest}
use Rattle.disk_objects.specs.Calls.{IsFault, IsSlotsFault}
use Rattle.disk_objects.specs.Disk.{disk_held, disk_room}
use Rattle.core_segment.specs.Chunks.{Chunk}
use Rattle.core_segment.specs.Segment.{chunk_at}
use Rattle.core_view.specs.Core.{Core}
use Rattle.core_view.specs.Counts.{outside, marked_by, marked_of}
use Rattle.core_view.specs.Kept.{IsCore, IsTight, Stays}
use Rattle.core_view.specs.Purge.{IsPurged, HasNoIdle}
use Rattle.core_view.specs.Room.{is_among}
use Rattle.core_view.proofs.Core.{placed-used}
use Rattle.core_view.proofs.Purge.{Purged-trans, about-purged}
use Rattle.core_view.proofs.Steps.{outside-used}
use Rattle.leaf_lambda.specs.declared.parts.Parts.{Parts}
use Rattle.leaf_lambda.specs.Parts.{core_of, spare_of, IsParts, IsWithin}
use Rattle.core_view.specs.Dead.{NoneIdle}
use Rattle.core_view.specs.LevelSteps.{with_change}
use Rattle.delta_counts.specs.Parts.{core_with}
use Rattle.delta_counts.specs.Giving.{IsGiving, NoneIdleBelow}
use Rattle.delta_counts.proofs.GiveLaws.{none-idle}
use Rattle.purger.specs.Counts.{IsGivingUp}
use Rattle.purger.specs.Marks.{AreHere, IsUnmarking, KeepsMarks}
use Rattle.purger.specs.Purge.{IsReadFault, IsEvictFault, IsPurgeFault}
use Rattle.purger.proofs.MarkLaws.{state-same, unmarked-purged}
use Rattle.purger.proofs.SoundLaws.{core-is, core-over}

no-both : {A : Type 0} (b : Bool) → b ≡ true → b ≡ false → A
no-both {A} b on off = let both : true ≡ false = sym on ∙ off in absurd (cc)

-- ---- the parts

pub giving-parts : (p q : Parts) → IsParts p → q.segment ≡ p.segment → IsGiving p.names q.names → IsParts q
giving-parts p q parts same g = record {
  core = subst (λ (c : Core). IsCore c) (core-over p q same) (g.core (chunk_at p.segment) (subst (λ (c : Core). IsCore c) (sym (core-is p)) parts.core));
  room = let a = g.sum in let b = g.room in let c = parts.room in omega arith;
}

pub giving-stays : (p q : Parts) → IsParts p → q.segment ≡ p.segment → IsGiving p.names q.names → Stays (core_of p) (core_of q)
giving-stays p q parts same g = subst (λ (c : Core). Stays c (core_of q)) (core-is p)
    (subst (λ (c : Core). Stays (core_with (chunk_at p.segment) p.names) c) (core-over p q same) (g.stays (chunk_at p.segment) (subst (λ (c : Core). IsCore c) (sym (core-is p)) parts.core)))

giving-outside : (p q : Parts) → IsParts p → q.segment ≡ p.segment → IsGiving p.names q.names → (t : ℕ) → outside (core_of q) t ≡ outside (core_of p) t
giving-outside p q parts same g t = ap (λ (c : Core). outside c t) (sym (core-over p q same)) ∙ g.outside (chunk_at p.segment) (subst (λ (c : Core). IsCore c) (sym (core-is p)) parts.core) t ∙ ap (λ (c : Core). outside c t) (core-is p)

pub giving-up : (p q : Parts) → IsParts p → q.segment ≡ p.segment → IsGiving p.names q.names → IsGivingUp (core_of p) (core_of q)
unfolding core_of
giving-up p q parts same g = record {
  bound = g.bound;
  chunks = ap chunk_at same;
  entries = g.entries;
  bodies = g.bodies;
  same_outside = giving-outside p q parts same g;
}

pub giving-spare : (p q : Parts) → IsGiving p.names q.names → spare_of p ≤ spare_of q
giving-spare p q g = g.more

pub used-entry : (p : Parts) (s : ℕ) → is_used ((core_of p).entries s).state ≡ true → is_used (entry_at p.names.table s).state ≡ true
unfolding core_of
used-entry p s used = used

-- ---- the core

unused-place : (e : EntryState) → is_used e ≡ false → place_of e ≡ None
unused-place e off = go (place_of e) refl
  where
    go : (o : Option ℕ) → place_of e ≡ o → place_of e ≡ None
    go None f = f
    go (Some p) f = no-both (is_used e) (placed-used e p f) off

pub given-purged : (a b k : ℕ) (c d : Core) → IsCore d → IsGivingUp c d → IsPurged a b k c d
given-purged a b k c d core g = record {
  bound = g.bound;
  same_outside = g.same_outside;
  live = λ t some. ⊎_elim (λ same. ap (λ (e : Entry). e.name) same) (λ off. no-both (is_used (d.entries t).state) (outside-used d t core (let same = g.same_outside t in omega arith)) off) (g.entries t);
  leaves = λ t e. ⊎_elim (λ same. ap (λ (x : Entry). place_of x.state) same ∙ e) (λ off. unused-place (d.entries t).state off) (g.entries t);
  pinned = λ t p among at.
      let same = g.bodies t p at in
      record {
        at = p;
        place = ap (λ (e : Entry). place_of e.state) same ∙ at;
        kind = ap (λ (e : Entry). e.kind) same;
        len = ap (λ (e : Entry). e.len) same;
        name = ap (λ (e : Entry). e.name) same;
        words = ap (λ (f : ℕ → Chunk). (f p).words) g.chunks;
      };
}

pub given-gone : (c d : Core) (s : ℕ) → IsGivingUp c d → place_of (c.entries s).state ≡ None → place_of (d.entries s).state ≡ None
given-gone c d s g gone = ⊎_elim (λ same. ap (λ (x : Entry). place_of x.state) same ∙ gone) (λ off. unused-place (d.entries s).state off) (g.entries s)

pub given-tight : (c d : Core) → IsGivingUp c d → IsTight c → IsTight d
given-tight c d g tight = record {
  bodies = λ p some.
      let same : d.chunks p ≡ c.chunks p = ap (λ (f : ℕ → Chunk). f p) g.chunks in
      let was = tight.bodies p (subst (λ (x : Chunk). 0 < x.owner) same some) in
      ap (λ (x : Chunk). place_of (d.entries x.owner).state) same ∙ ap (λ (e : Entry). place_of e.state) (g.bodies (c.chunks p).owner p was) ∙ was;
}

pub given-here : (c d : Core) → IsGivingUp c d → AreHere c → AreHere d
given-here c d g here s on marked = ⊎_elim
    (λ (same : d.entries s ≡ with_change (c.entries s) (d.entries s).change).
    let body = here s (ap (λ (e : Entry). is_used e.state) (sym same) ∙ on) (ap (λ (e : Entry). e.flags.marked) (sym same) ∙ marked) in
    (body.0, ap (λ (e : Entry). place_of e.state) same ∙ body.1))
    (λ off. no-both (is_used (d.entries s).state) on off) (g.entries s)

-- what is marked keeps its entry
abbrev StaysMarked : Core → Core → Type 0
StaysMarked c d = (s : ℕ) → is_used (c.entries s).state ≡ true → (c.entries s).flags.marked ≡ true → d.entries s ≡ with_change (c.entries s) (d.entries s).change

given-found : (c d : Core) → IsCore c → IsCore d → StaysMarked c d → (n : ℕ) → marked_of c n ≡ true → d.find n ≡ c.find n
given-found c d core now stays n on = go (c.find n) refl
  where
    go : (o : Option ℕ) → c.find n ≡ o → d.find n ≡ c.find n
    go None e = no-both (marked_of c n) on (ap (marked_by c.entries) e)
    go (Some s) e =
        let used = core.used n s e in
        let same = stays s used (sym (ap (marked_by c.entries) e) ∙ on) in
        ap d.find (sym (ap (λ (x : Entry). x.name) same ∙ core.named n s e)) ∙ now.found s (ap (λ (x : Entry). is_used x.state) same ∙ used) ∙ sym e

marks-stay : (c d : Core) → IsCore c → IsCore d → IsGivingUp c d → StaysMarked c d → KeepsMarks c d
marks-stay c d core now g stays = record { marks = λ n. at n (d.find n) refl; found = given-found c d core now stays }
  where
    none : (n : ℕ) (b : Bool) → marked_of c n ≡ b → d.find n ≡ None → false ≡ marked_of c n
    none n false f e = sym f
    none n true f e = no-both (marked_of c n) f (ap (marked_by c.entries) (sym (given-found c d core now stays n f) ∙ e))

    at : (n : ℕ) (o : Option ℕ) → d.find n ≡ o → marked_by d.entries o ≡ marked_of c n
    at n None e = none n (marked_of c n) refl e
    at n (Some r) e =
        let used = now.used n r e in
        ⊎_elim (λ (same : d.entries r ≡ with_change (c.entries r) (d.entries r).change).
        let on : is_used (c.entries r).state ≡ true = ap (λ (x : Entry). is_used x.state) (sym same) ∙ used in
        let name : (c.entries r).name ≡ n = ap (λ (x : Entry). x.name) (sym same) ∙ now.named n r e in
        let there : c.find n ≡ Some r = ap c.find (sym name) ∙ core.found r on in
        ap (λ (x : Entry). x.flags.marked) same ∙ sym (ap (marked_by c.entries) there))
        (λ off. no-both (is_used (d.entries r).state) used off) (g.entries r)

-- where each marked object is in the core
pub given-marks : (c d : Core) → IsCore c → IsCore d → IsGivingUp c d → AreHere c → KeepsMarks c d
given-marks c d core now g here = marks-stay c d core now g (λ s used marked. let body = here s used marked in g.bodies s body.0 body.1)

-- no leaf is idle then
pub given-idle : (p q : Parts) → IsParts q → IsGiving p.names q.names → NoneIdleBelow (entries_of p.names.table) q.names → HasNoIdle (core_of q)
given-idle p q parts g below s on leaf = go ((core_of q).entries s).refs refl
  where
    none : NoneIdle (core_of q)
    none = subst (λ (c : Core). NoneIdle c) (core-is q)
        (none-idle q.names (chunk_at q.segment) (subst (λ (c : Core). IsCore c) (sym (core-is q)) parts.core)
        (subst (λ (n : ℕ). NoneIdleBelow n q.names) (let b = g.bound in let same : entries_of p.names.table ≡ entries_of q.names.table = omega arith in same) below))

    go : (k : ℕ) → ((core_of q).entries s).refs ≡ k → 1 ≤ ((core_of q).entries s).refs
    go zero e = absurd (none s on leaf e)
    go (suc k) e = omega arith

-- an object loses its mark, and then its body
pub left-purged : (a b k s p : ℕ) (x u d : Core) → IsCore u → IsUnmarking x u → ((t : ℕ) → outside u t ≡ outside x t) → IsWithin s u d → place_of (x.entries s).state ≡ Some p → is_among a b k s ≡ false → IsPurged a b k x d
left-purged a b k s p x u d core step out within at away = Purged-trans a b k x u d (unmarked-purged a b k x u step out)
    (about-purged a b k s p u d core within.about within.same_outside (λ t on. (within.live t on).1) (ap place_of (state-same x u s step) ∙ at) away)

-- ---- faults

rose-earlier : (a b c : ℕ) → a ≤ b → Rose b c → Rose a c
rose-earlier a b c low x = omega arith

-- of a call on one name
pub slot-read : (tells : Bool) (before now : ℕ) (P : ℕ → Type 0) (name : ℕ) (f : DiskFault) → IsFault tells before now P name f → IsReadFault tells before now f
slot-read tells before now P name (fault.Work count) x = x
slot-read tells before now P name (fault.Full held room) x = x
slot-read tells before now P name (fault.Damaged at about) x = x.0

pub slot-read-if : {T : Type 0} (tells : Bool) (before now : ℕ) (P : ℕ → Type 0) (name : ℕ) (r : Result T DiskFault) → IfErr r (IsFault tells before now P name) → IfErr r (IsReadFault tells before now)
slot-read-if {T} tells before now P name (Ok v) x = tt
slot-read-if {T} tells before now P name (Err f) x = slot-read tells before now P name f x

slots-purge : {H : Type 0} (host : Ghosts H) (old mid new : H) (rest : DiskRest) (f : DiskFault) → host.faults old Work ≤ host.faults mid Work → IsSlotsFault (host.tells Work) (host.faults mid Work) (host.faults new Work) rest f → IsPurgeFault host old new f
slots-purge {H} host old mid new rest (fault.Work count) low x = (x.0, rose-earlier (host.faults old Work) (host.faults mid Work) (host.faults new Work) low x.1)
slots-purge {H} host old mid new rest (fault.Full held room) low x = absurd x
slots-purge {H} host old mid new rest (fault.Damaged at about) low x = x.0

pub slots-purge-if : {T H : Type 0} (host : Ghosts H) (old mid new : H) (rest : DiskRest) (r : Result T DiskFault) → host.faults old Work ≤ host.faults mid Work
    → IfErr r (IsSlotsFault (host.tells Work) (host.faults mid Work) (host.faults new Work) rest) → IfErr r (IsPurgeFault host old new)
slots-purge-if {T} {H} host old mid new rest (Ok v) low x = tt
slots-purge-if {T} {H} host old mid new rest (Err f) low x = slots-purge host old mid new rest f low x

pub purge-later : {H : Type 0} (host : Ghosts H) (old mid new : H) (f : DiskFault) → host.faults old Work ≤ host.faults mid Work → IsPurgeFault host mid new f → IsPurgeFault host old new f
purge-later {H} host old mid new (fault.Work count) low x = (x.0, rose-earlier (host.faults old Work) (host.faults mid Work) (host.faults new Work) low x.1)
purge-later {H} host old mid new (fault.Full held room) low x = x
purge-later {H} host old mid new (fault.Damaged at about) low x = x

pub read-evict : {H : Type 0} (host : Ghosts H) (old mid new : H) (rest : DiskRest) (fresh : Bool) (f : DiskFault) → host.faults old Work ≤ host.faults mid Work
    → IsReadFault (host.tells Work) (host.faults mid Work) (host.faults new Work) f → IsEvictFault host old new rest fresh f
read-evict {H} host old mid new rest fresh (fault.Work count) low x = (x.0, rose-earlier (host.faults old Work) (host.faults mid Work) (host.faults new Work) low x.1)
read-evict {H} host old mid new rest fresh (fault.Full held room) low x = absurd x
read-evict {H} host old mid new rest fresh (fault.Damaged at about) low x = x

pub evict-later : {H : Type 0} (host : Ghosts H) (old mid new : H) (rest after : DiskRest) (was fresh : Bool) (f : DiskFault) → host.faults old Work ≤ host.faults mid Work → after ≡ rest → (IsTrue (host.tells Work) → was ≡ true → fresh ≡ true)
    → IsEvictFault host mid new after was f → IsEvictFault host old new rest fresh f
evict-later {H} host old mid new rest after was fresh (fault.Work count) low same more x = (x.0, rose-earlier (host.faults old Work) (host.faults mid Work) (host.faults new Work) low x.1)
evict-later {H} host old mid new rest after was fresh (fault.Full held room) low same more x = (subst (λ (k : DiskRest). disk_held k ≡ disk_room k) same x.0, λ told. more told (x.1 told))
evict-later {H} host old mid new rest after was fresh (fault.Damaged at about) low same more x = x

-- a later fault of a write
pub evict-later-if : {T H : Type 0} (host : Ghosts H) (old mid new : H) (rest after : DiskRest) (was fresh : Bool) (r : Result T DiskFault) → host.faults old Work ≤ host.faults mid Work → after ≡ rest → (IsTrue (host.tells Work) → was ≡ true → fresh ≡ true)
    → IfErr r (IsEvictFault host mid new after was) → IfErr r (IsEvictFault host old new rest fresh)
evict-later-if {T} {H} host old mid new rest after was fresh (Ok v) low same more x = tt
evict-later-if {T} {H} host old mid new rest after was fresh (Err f) low same more x = evict-later host old mid new rest after was fresh f low same more x
