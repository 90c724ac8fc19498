use Rattle.std.proofs.Common.{refl}
use Rattle.object_memory.specs.Plain.{plain_told}
use Rattle.object_memory.proofs.PlainLaws.{ready-set}
use Rattle.object_memory.proofs.plain.PlainMemoryObjectMemory.int.Goals as goal

pub returns-clause-fit : goal.returns-clause-fit
returns-clause-fit c = record {
  sound = tt;
  ready = (ready-set (plain_told c.args.self.now) _ c.args.to _ c.set.ensures (λ k e told. (cc)));
  lender = refl;
  outside = refl;
}
