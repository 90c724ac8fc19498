use Rattle.contexts.proofs.RegisterLaws.{unpin_serves, without_pins}
use Rattle.contexts.proofs.registers.unpin_all.Goals as goal

pub returns-clause-serves : goal.returns-clause-serves
returns-clause-serves g c = λ cpu. unpin_serves (c.unpin-3.ensures.fit.ready (c.unpin-2.ensures.fit.ready (c.unpin.ensures.fit.ready c.requires.fit.ready))) (without_pins _ _ _ _ c.unpin.ensures.told c.unpin-2.ensures.told c.unpin-3.ensures.told)
