use Rattle.std.proofs.Common.{refl, sym, subst}
use Rattle.object_memory.specs.Told.{Told, IsReady}
use Rattle.object_memory.proofs.PlainLaws.{keeps}
use Rattle.bounded_memory.proofs.MemoryLaws.{sound-still, ready-still, if_answered}
use Rattle.bounded_memory.proofs.bounded.BoundedMemoryObjectMemory.purge_all.Goals as goal

pub returns-clause-fit : goal.returns-clause-fit
returns-clause-fit c = record {
  sound = keeps c.purge_all.result _ (sound-still c.args.self.now c.purge_all.new.self _ c.purge_all.ensures.kept refl refl c.requires.fit.sound);
  ready = if_answered c.purge_all.result (ready-still c.args.self.now c.purge_all.new.self _ c.purge_all.ensures.kept refl (subst (λ (t : Told). IsReady t) (sym c.purge_all.ensures.kept)) c.requires.fit.ready);
  lender = refl;
  outside = refl;
}
