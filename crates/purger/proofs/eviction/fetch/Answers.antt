use Rattle.loom_host.specs.declared.outside.Role.TheVariants.{Work}
use Rattle.disk_objects.specs.Places.{IsReadPlace}
use Rattle.purger.proofs.EvictLaws.{read-same, read-stands, get-fault-if, get-damage-if}
use Rattle.purger.proofs.eviction.fetch.Goals as goal

pub returns-clause-stands : goal.returns-clause-stands
returns-clause-stands g c = read-stands g.H.Host c.args.disk.now.host.now c.get.new.self.host.now c.args.disk.now.rest c.get.new.self.rest c.get.ensures.keeps

pub returns-clause-same : goal.returns-clause-same
returns-clause-same g c = read-same g.H.Host c.args.disk.now.host.now c.get.new.self.host.now c.args.disk.now.rest c.get.new.self.rest c.get.ensures.rest c.get.ensures.read

pub returns-clause-fault : goal.returns-clause-fault
returns-clause-fault g c = get-fault-if (g.H.Host.tells Work) (g.H.Host.faults c.args.disk.now.host.now Work) (g.H.Host.faults c.get.new.self.host.now Work) (IsReadPlace c.args.disk.now.rest) c.args.name c.get.result c.get.ensures.fault

pub returns-clause-damage : goal.returns-clause-damage
returns-clause-damage g c = get-damage-if (g.H.Host.tells Work) (g.H.Host.faults c.args.disk.now.host.now Work) (g.H.Host.faults c.get.new.self.host.now Work) c.args.disk.now.rest c.args.name c.get.result c.get.ensures.fault
