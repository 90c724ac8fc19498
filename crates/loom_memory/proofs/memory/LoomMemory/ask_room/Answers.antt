use Rattle.std.proofs.Common.{◌≤◌}
use Rattle.loom_memory.specs.Freed.{IsAlive}
use Rattle.loom_memory.proofs.TimeLaws.{each-ok}
use Rattle.std.proofs.Common.{◌<◌, refl, arith, ⊎_elim}
use Rattle.disk_objects.specs.Disk.{disk_room}
use Rattle.loom_memory.specs.Memory.{loom_told}
use Rattle.loom_memory.proofs.SettleLaws.{bodies-same}
use Rattle.loom_memory.proofs.SparedLaws.{err-each, spared-never}
use Rattle.loom_memory.proofs.MindLaws.{minds-refl}
use Rattle.loom_memory.proofs.BringLaws.{quiet-same}
use Rattle.loom_memory.proofs.MakingLaws.{quiet-thinned}
use Rattle.loom_memory.proofs.memory.LoomMemory.ask_room.Goals as goal

pub returns-then-self-room-clause-asks : goal.returns-then-self-room-clause-asks
returns-then-self-room-clause-asks g c = record {
  thinned = quiet-thinned (loom_told g.H.Host c.args.self.now) (loom_told g.H.Host c.args.self.now) (quiet-same g.H.Host c.args.self.now) c.requires.fit.ready;
  held = let less = c.if-self-room.true in let is = c.room.ensures in omega (arith, less, is);
  next = refl;
  minds = λ told. minds-refl g.H.Host c.args.self.now (λ k. ⊥) c.requires.fit.sound;
  bodies = λ told. bodies-same c.args.self.now.pager.levels.parts c.args.self.now.pager.levels.parts (loom_told g.H.Host c.args.self.now).heap refl;
  room = λ words has. has;
}

pub returns-then-self-lt-MAKINGS_BEFORE_FREEING-clause-spared : goal.returns-then-self-lt-MAKINGS_BEFORE_FREEING-clause-spared
returns-then-self-lt-MAKINGS_BEFORE_FREEING-clause-spared g c = λ undrained. c.crowded.ensures.spared

pub returns-clause-spared : goal.returns-clause-spared
returns-clause-spared g c = spared-never _ c.free_one.result (λ undrained. ⊎_elim (λ (h : c.args.self.now.ledger.held < disk_room c.args.self.now.pager.levels.disk.rest). let no = c.if-self-room.false in omega (arith, h, no)) (λ (h : c.args.self.now.ledger.made < 8). let no = c.if-self-lt-MAKINGS_BEFORE_FREEING.false in omega (arith, h, no)) undrained)

pub returns-then-self-lt-MAKINGS_BEFORE_FREEING-clause-sure : goal.returns-then-self-lt-MAKINGS_BEFORE_FREEING-clause-sure
returns-then-self-lt-MAKINGS_BEFORE_FREEING-clause-sure g c = λ low. let no = c.if-self-room.false in omega (arith, low, no)

pub returns-clause-sure : goal.returns-clause-sure
returns-clause-sure g c = err-each c.free_one.result (λ low. let no = c.if-self-room.false in omega (arith, low, no))

pub returns-then-self-room-clause-alive : goal.returns-then-self-room-clause-alive
returns-then-self-room-clause-alive g c = λ full. let low = c.if-self-room.true in absurd (omega (arith, low, full))

pub returns-clause-alive : goal.returns-clause-alive
returns-clause-alive g c = each-ok (disk_room c.args.self.now.pager.levels.disk.rest ≤ c.args.self.now.ledger.held) (IsAlive (loom_told g.H.Host c.free_one.new.self)) c.free_one.result c.free_one.ensures.alive
