use Rattle.std.proofs.Common.{refl, sym, subst, arith}
use Rattle.loom_memory.specs.Memory.{loom_told}
use Rattle.loom_memory.proofs.AddLaws.{crowded-making, room-most}
use Rattle.object_memory.specs.declared.fault.MemFault.{MemFault}
use Rattle.loom_memory.specs.Makings.{OnCoreFull}
use Rattle.loom_memory.proofs.memory.LoomMemory.crowded.Goals as goal

pub overflow_add-base : goal.overflow_add-base
overflow_add-base g c = let low = c.requires.fit.sound.over.based.low c.in-Some.base c.in-Some.is in let most = room-most c.args.self.now.pager.levels.disk.rest in let early = c.requires.early in omega (arith, low, most, early)

pub overflow_add-base-in-Some : goal.overflow_add-base-in-Some
overflow_add-base-in-Some g c = let low = c.requires.fit.sound.over.based.low c.in-Some.base c.in-Some.is in let most = room-most c.args.self.now.pager.levels.disk.rest in let early = c.requires.early in omega (arith, low, most, early)

pub returns-clause-err : goal.returns-clause-err
returns-clause-err g c =
    let m = c.args.self.now in
    crowded-making g.H.Host m (loom_told g.H.Host c.refuse.new.self) c.in-Some.base _ c.room-room.result c.refuse.result c.requires.fit.ready c.in-Some.is refl c.room-room.ensures
    (let held = c.requires.fit.sound.over.based.most c.in-Some.base c.in-Some.is in let all = c.requires.all in let room = c.room-room.ensures in omega (arith, held, all, room))
    c.refuse.ensures.told c.refuse.ensures.result c.refuse.ensures.later

pub returns-clause-full : goal.returns-clause-full
returns-clause-full g c = subst (λ (f : MemFault). OnCoreFull f ⊥) (sym c.refuse.ensures.result) tt

pub returns-clause-spared : goal.returns-clause-spared
returns-clause-spared g c = c.refuse.ensures.spared
