use Rattle.std.proofs.Common.{refl}
use Rattle.bounded_memory.proofs.MemoryLaws.{sound-still, ready-still}
use Rattle.bounded_memory.proofs.bounded.BoundedMemoryObjectMemory.compact.Goals as goal

pub returns-clause-fit : goal.returns-clause-fit
returns-clause-fit c = record {
  sound = sound-still c.args.self.now c.compact.new.self _ c.compact.ensures.kept refl refl c.requires.fit.sound;
  ready = ready-still c.args.self.now c.compact.new.self _ c.compact.ensures.kept refl (λ _. c.compact.ensures.fit.ready) c.requires.fit.ready;
  lender = refl;
  outside = refl;
}
