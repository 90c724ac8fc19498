use Rattle.devices.proofs.InputLaws.{put_there, put_none}
use Rattle.devices.proofs.input.put_semaphore.Goals as goal

pub returns-then-there-clause-serves : goal.returns-then-there-clause-serves
returns-then-there-clause-serves g c = λ cpu. put_there c.args.to c.args.from c.args.there c.requires.machine c.if-there.true c.requires.fit.ready (c.copy.ensures.fit.ready c.requires.fit.ready) c.copy.ensures.told

pub returns-else-there-clause-serves : goal.returns-else-there-clause-serves
returns-else-there-clause-serves g c = λ cpu. put_none c.args.to c.args.from c.args.there c.requires.machine c.if-there.false (c.int.ensures.fit.ready c.requires.fit.ready) c.int.ensures.told
