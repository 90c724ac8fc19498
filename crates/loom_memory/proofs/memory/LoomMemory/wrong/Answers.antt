use Rattle.loom_memory.specs.Memory.{loom_told}
use Rattle.loom_memory.proofs.LambdaLaws.{damaged-after}
use Rattle.loom_memory.proofs.memory.LoomMemory.wrong.Goals as goal

pub returns-clause-err : goal.returns-clause-err
returns-clause-err g c = λ t a quiet ready silent none untold.
    damaged-after t (loom_told g.H.Host c.args.self.now) (loom_told g.H.Host c.refuse.new.self) a _ _ c.refuse.result quiet c.refuse.ensures.told c.refuse.ensures.result ready silent none c.refuse.ensures.later untold
