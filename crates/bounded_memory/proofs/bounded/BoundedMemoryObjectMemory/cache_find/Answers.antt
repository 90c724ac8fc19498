use Rattle.std.proofs.Common.{refl}
use Rattle.bounded_memory.specs.Bounded.{bounded_told}
use Rattle.bounded_memory.proofs.RowLaws.{found-there}
use Rattle.bounded_memory.proofs.MemoryLaws.{ready-still, sound-still}
use Rattle.bounded_memory.proofs.bounded.BoundedMemoryObjectMemory.cache_find.Goals as goal

pub returns-clause-fit : goal.returns-clause-fit
returns-clause-fit c = record {
  sound = sound-still c.args.self.now c.put_name.new.self _ c.put_name.ensures.told refl refl c.requires;
  ready = (λ ready.
      let m = c.args.self.now in
      let t = bounded_told m in
      ready-still m c.put_name.new.self _ c.put_name.ensures.told refl
      (λ below. c.put_name.ensures.ready below (found-there t (t.regs c.args.class) (t.regs c.args.selector) c.in-Some.method ready refl c.in-Some.ensures.found)) ready);
  lender = refl;
  outside = refl;
}
