use Rattle.std.proofs.Common.{refl, sym, subst}
use Rattle.object_memory.specs.Told.{Told, IsReady}
use Rattle.bounded_memory.proofs.MemoryLaws.{ready-still, sound-still}
use Rattle.bounded_memory.proofs.bounded.BoundedMemoryObjectMemory.settle.Goals as goal

pub returns-clause-fit : goal.returns-clause-fit
returns-clause-fit c = record {
  sound = record { pinned = (sound-still c.args.self.now c.settle.new.self _ c.settle.ensures.kept refl refl c.requires.fit.sound).pinned };
  ready = (let now = ready-still c.args.self.now c.settle.new.self _ c.settle.ensures.kept refl (subst (λ (t : Told). IsReady t) (sym c.settle.ensures.kept)) c.requires.fit.ready in
      record { whole = now.whole; marked = now.marked; cached = now.cached });
  lender = refl;
  outside = refl;
}
