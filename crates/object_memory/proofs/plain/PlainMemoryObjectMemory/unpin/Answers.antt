use Rattle.std.proofs.Common.{refl}
use Rattle.object_memory.specs.Plain.{plain_told}
use Rattle.object_memory.proofs.PlainLaws.{ready-unpin}
use Rattle.object_memory.proofs.plain.PlainMemoryObjectMemory.unpin.Goals as goal

pub returns-clause-fit : goal.returns-clause-fit
returns-clause-fit c = record {
  sound = tt;
  ready = (ready-unpin (plain_told c.args.self.now) _ c.args.slot c.set.ensures);
  lender = refl;
  outside = refl;
}
