use Rattle.object_memory.specs.Plain.{plain_told}
use Rattle.object_memory.proofs.PlainLaws.{ready-set}
use Rattle.object_memory.proofs.plain.PlainMemory.put_name.Goals as goal

pub returns-clause-ready : goal.returns-clause-ready
returns-clause-ready c = λ ready there. ready-set (plain_told c.args.self.now) _ c.args.to _ c.set.ensures (λ k e told. (cc)) ready
