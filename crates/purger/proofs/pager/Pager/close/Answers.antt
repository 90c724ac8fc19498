use Rattle.std.proofs.Common.{◌+◌, ◌∙◌, subst, arith}
use Rattle.loom_host.proofs.WorkLaws.{exits}
use Rattle.disk_objects.proofs.StayLaws.{stays-trans}
use Rattle.purger.specs.Pager.{core_in, Preserves}
use Rattle.purger.specs.Purge.{IsPurgeFault, IsShort}
use Rattle.purger.specs.declared.room.Pinned.{Pinned}
use Rattle.purger.proofs.CloseLaws.{kept-left, no-entries, read-purge, when-short}
use Rattle.purger.proofs.FreeingLaws.{ready-behind, ready-pinned}
use Rattle.purger.proofs.PagerLaws.{same-entries, sound-of}
use Rattle.purger.proofs.pager.Pager.close.Goals as goal

pub make_room-requires : goal.make_room-requires
make_room-requires g c = record { ready = ready-pinned c.drain.new.self _ (ready-behind c.args.self.now c.drain.new.self c.requires.ready c.drain.ensures.frees.leaves c.in_ok-drain.ensures.frees.keeps) }

pub returns-in_err-drain-clause-disk : goal.returns-in_err-drain-clause-disk
returns-in_err-drain-clause-disk g c = c.drain.ensures.frees.leaves.disk

pub returns-in_err-drain-clause-fault : goal.returns-in_err-drain-clause-fault
returns-in_err-drain-clause-fault g c =
    let a = c.args.self.now.levels.disk.host.now in
    let b = c.drain.new.self.levels.disk.host.now in
    exits c.from_residual.result c.in_err-drain.field-0.0 (IsPurgeFault g.H.Host a b) c.from_residual.ensures.1 (read-purge g.H.Host a b c.in_err-drain.field-0.0 c.in_err-drain.ensures.frees.fault)

pub unreachable-requires : goal.unreachable-requires
unreachable-requires g c =
    let room = c.in-Ok.ensures.makes.room.1 in
    let all = c.entries-all.ensures.entries in
    let counted = c.entries_are_counted.ensures in
    let same = same-entries _ c.make_room.new.self c.make_room.ensures.clears.leaves in
    omega arith

pub returns-in-Err-Short-clause-empty : goal.returns-in-Err-Short-clause-empty
returns-in-Err-Short-clause-empty g c =
    let n = c.make_room.new.self in
    let l = c.make_room.ensures.clears.leaves in
    no-entries (core_in n) n.levels.whole.parts.core
    (subst (λ (q : Pinned). IsShort n.levels.parts q.a q.b q.d 0 (c.entries-all.result + 1)) l.pinned (when-short c.in-Err-Short.field-0 (IsShort n.levels.parts n.pinned.a n.pinned.b n.pinned.d 0 (c.entries-all.result + 1)) c.in-Err-Short.field-0-is c.in-Err-Short.ensures.makes.short)).bare
    (λ s. l.purged.same_outside s ∙ c.drain.ensures.frees.leaves.rest.same_outside s ∙ c.requires.loose s)

pub returns-in-Err-Short-clause-kept : goal.returns-in-Err-Short-clause-kept
returns-in-Err-Short-clause-kept g c = λ told t at x.
    let a = c.args.self.now.levels in
    let b = c.drain.new.self.levels in
    let n = c.make_room.new.self in
    let l = c.make_room.ensures.clears.leaves in
    let d = c.in_ok-drain.ensures.drained told t at x in
    kept-left g.H.Host a.parts b.parts n.levels.parts b.disk.host.now n.levels.disk.host.now b.disk.rest n.levels.disk.rest t x d
    (sound-of b n.levels (when-short c.in-Err-Short.field-0 (Preserves (record c.drain.new.self { pinned = record { a = 0; b = 0; d = 0 } }) n) c.in-Err-Short.field-0-is c.in-Err-Short.ensures.clears.keeps).keeps told d.thinned.levels d.thinned.at d.thinned.sound)
    (λ s. c.drain.ensures.frees.leaves.rest.same_outside s ∙ c.requires.loose s)
    (no-entries (core_in n) n.levels.whole.parts.core
    (subst (λ (q : Pinned). IsShort n.levels.parts q.a q.b q.d 0 (c.entries-all.result + 1)) l.pinned (when-short c.in-Err-Short.field-0 (IsShort n.levels.parts n.pinned.a n.pinned.b n.pinned.d 0 (c.entries-all.result + 1)) c.in-Err-Short.field-0-is c.in-Err-Short.ensures.makes.short)).bare
    (λ s. l.purged.same_outside s ∙ c.drain.ensures.frees.leaves.rest.same_outside s ∙ c.requires.loose s))

pub returns-in-Err-Short-clause-disk : goal.returns-in-Err-Short-clause-disk
returns-in-Err-Short-clause-disk g c = stays-trans g.H.Host c.args.self.now.levels.disk c.drain.new.self.levels.disk c.make_room.new.self.levels.disk c.drain.ensures.frees.leaves.disk c.make_room.ensures.clears.leaves.disk
