use Rattle.std.proofs.Common.{◌∙◌, refl, subst}
use Rattle.purger.specs.declared.room.RoomFault.{RoomFault}
use Rattle.purger.specs.Pager.{Preserves}
use Rattle.purger.specs.Purge.{IsPurgeFault, IsShort, OnDisk, OnShort}
use Rattle.loom_memory.specs.Memory.{loom_told}
use Rattle.loom_memory.specs.Residents.{fetched}
use Rattle.loom_memory.proofs.EffectLaws.{faulted-by, lost-all, moves-rest, pager-pages}
use Rattle.loom_memory.proofs.OverLaws.{over_pager}
use Rattle.loom_memory.proofs.PagerLaws.{pager-outside, pager-ready, pager-sound}
use Rattle.loom_memory.proofs.memory.LoomMemory.page.Goals as goal

pub make_room-requires : goal.make_room-requires
make_room-requires g c = record { ready = pager-ready g.H.Host c.args.self.now c.requires.fit.sound }

pub returns-in-Ok-clause-pages : goal.returns-in-Ok-clause-pages
returns-in-Ok-clause-pages g c = pager-pages g.H.Host c.args.self.now c.make_room.new.self c.requires.fit.sound c.make_room.ensures.clears.leaves c.in-Ok.ensures.clears.keeps

pub returns-in-Ok-clause-rests : goal.returns-in-Ok-clause-rests
returns-in-Ok-clause-rests g c = λ room. moves-rest g.H.Host c.args.self.now c.make_room.new.self c.requires.fit.sound (c.make_room.ensures.needless room).1

pub returns-in-Ok-clause-leaves : goal.returns-in-Ok-clause-leaves
unfolding fetched
returns-in-Ok-clause-leaves g c = record {
  sound = pager-sound g.H.Host c.args.self.now c.make_room.new.self c.requires.fit.sound c.make_room.ensures.clears.leaves c.in-Ok.ensures.clears.keeps;
  fetches = refl;
  lender = c.make_room.ensures.clears.leaves.disk.lender;
  outside = pager-outside g.H.Host c.args.self.now c.make_room.new.self c.make_room.ensures.clears.leaves;
}

pub returns-in-Short-clause-pages : goal.returns-in-Short-clause-pages
returns-in-Short-clause-pages g c = let m = c.args.self.now in
    pager-pages g.H.Host m c.make_room.new.self c.requires.fit.sound c.make_room.ensures.clears.leaves (subst (λ (z : RoomFault). OnShort z (Preserves m.pager c.make_room.new.self)) c.in-Short.is c.in-Err.ensures.clears.keeps)

pub returns-in-Short-clause-short : goal.returns-in-Short-clause-short
returns-in-Short-clause-short g c = λ none. let n = c.make_room.new.self in
    subst (λ (z : RoomFault). OnShort z (IsShort n.levels.parts n.pinned.a n.pinned.b n.pinned.d c.args.words c.args.entries)) c.in-Short.is c.in-Err.ensures.makes.short

pub returns-in-Short-clause-rests : goal.returns-in-Short-clause-rests
returns-in-Short-clause-rests g c = λ room. absurd (let is = (c.in-Err.ensures.needless room).0 in cc)

pub returns-in-Short-clause-enough : goal.returns-in-Short-clause-enough
returns-in-Short-clause-enough g c = λ room. absurd (let is = (c.in-Err.ensures.needless room).0 in cc)

pub returns-in-Short-clause-leaves : goal.returns-in-Short-clause-leaves
unfolding fetched
returns-in-Short-clause-leaves g c = let m = c.args.self.now in record {
  sound = pager-sound g.H.Host m c.make_room.new.self c.requires.fit.sound c.make_room.ensures.clears.leaves (subst (λ (z : RoomFault). OnShort z (Preserves m.pager c.make_room.new.self)) c.in-Short.is c.in-Err.ensures.clears.keeps);
  fetches = refl;
  lender = c.make_room.ensures.clears.leaves.disk.lender;
  outside = pager-outside g.H.Host m c.make_room.new.self c.make_room.ensures.clears.leaves;
}

pub returns-in-Disk-clause-sure : goal.returns-in-Disk-clause-sure
returns-in-Disk-clause-sure g c = λ room. absurd (let is = (c.in-Err.ensures.needless room).0 in cc)

pub returns-in-Disk-clause-faulted : goal.returns-in-Disk-clause-faulted
returns-in-Disk-clause-faulted g c =
    let m = c.args.self.now in
    let n = over_pager m c.make_room.new.self in
    let disk = c.make_room.ensures.clears.leaves.disk in
    faulted-by g.H.Host m n (loom_told g.H.Host c.refuse.new.self) c.in-Disk.f c.refusal_of-f.result c.refuse.result refl disk.work disk.limit
    (subst (λ (z : RoomFault). OnDisk z (IsPurgeFault g.H.Host m.pager.levels.disk.host.now n.pager.levels.disk.host.now)) c.in-Disk.is c.in-Err.ensures.clears.fault)
    c.refusal_of-f.ensures c.refuse.ensures.told c.refuse.ensures.result c.refuse.ensures.later

pub returns-in-Disk-clause-leaves : goal.returns-in-Disk-clause-leaves
unfolding fetched
returns-in-Disk-clause-leaves g c = let m = c.args.self.now in record {
  sound = lost-all c.refuse.result _ (returns-in-Disk-clause-faulted g c).lost;
  fetches = c.refuse.ensures.brings;
  lender = c.refuse.ensures.lender ∙ c.make_room.ensures.clears.leaves.disk.lender;
  outside = c.refuse.ensures.outside ∙ pager-outside g.H.Host m c.make_room.new.self c.make_room.ensures.clears.leaves;
}
