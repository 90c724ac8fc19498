use Rattle.loom_memory.specs.Memory.{loom_told}
use Rattle.loom_memory.proofs.AddLaws.{nameless-now}
use Rattle.loom_memory.proofs.memory.LoomMemory.nameless.Goals as goal

pub returns-clause-err : goal.returns-clause-err
returns-clause-err g c = nameless-now g.H.Host c.args.self.now (loom_told g.H.Host c.refuse.new.self) c.args.f c.refuse.result c.requires.fit.ready c.requires.cause c.refuse.ensures.told c.refuse.ensures.result c.refuse.ensures.later

pub returns-clause-same : goal.returns-clause-same
returns-clause-same g c = c.refuse.ensures.result

pub returns-clause-spared : goal.returns-clause-spared
returns-clause-spared g c = c.refuse.ensures.spared
