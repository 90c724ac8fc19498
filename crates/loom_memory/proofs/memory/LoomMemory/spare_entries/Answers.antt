use Rattle.std.proofs.Common.{inl, arith}
use Rattle.loom_memory.proofs.EffectLaws.{pages-refl, spare-bare}
use Rattle.loom_memory.proofs.memory.LoomMemory.spare_entries.Goals as goal

pub returns-then-has_room-clause-pages : goal.returns-then-has_room-clause-pages
returns-then-has_room-clause-pages g c = pages-refl g.H.Host c.args.self.now c.requires.fit.sound

pub returns-then-has_room-clause-spare : goal.returns-then-has_room-clause-spare
returns-then-has_room-clause-spare g c = inl (c.has_room.ensures.has c.if-has_room.true).1

pub returns-in-Ok-clause-spare : goal.returns-in-Ok-clause-spare
returns-in-Ok-clause-spare g c = let n = c.page.new.self in spare-bare c.in-Ok._enough n.pager.levels.parts n.pager.pinned 0 128 c.in-Ok.ensures.room c.in-Ok.ensures.short

pub returns-in-Ok-clause-stays : goal.returns-in-Ok-clause-stays
returns-in-Ok-clause-stays g c = λ enough. absurd (c.has_room.ensures.lacks c.if-has_room.false (omega arith, enough))

pub returns-in-Err-clause-sure : goal.returns-in-Err-clause-sure
returns-in-Err-clause-sure g c = λ enough. absurd (c.has_room.ensures.lacks c.if-has_room.false (omega arith, enough))
