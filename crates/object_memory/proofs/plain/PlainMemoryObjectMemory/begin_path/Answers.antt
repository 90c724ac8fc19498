use Rattle.std.proofs.Common.{refl}
use Rattle.object_memory.specs.Plain.{plain_told}
use Rattle.object_memory.proofs.PlainLaws.{ready-path}
use Rattle.object_memory.proofs.plain.PlainMemoryObjectMemory.begin_path.Goals as goal

pub returns-clause-fit : goal.returns-clause-fit
returns-clause-fit c = record {
  sound = tt;
  ready = (ready-path (plain_told c.args.self.now) _ c.begin_path.ensures);
  lender = refl;
  outside = refl;
}
