use Rattle.object_memory.proofs.Callers.{may_class}
use Rattle.contexts.proofs.ReadLaws.{exits_with}
use Rattle.contexts.proofs.ClassLaws.{class_serves, class_refused}
use Rattle.contexts.proofs.parts.class_of.Goals as goal

pub class-requires-clause-may : goal.class-requires-clause-may
class-requires-clause-may g c = may_class _ c.args.to c.args.of c.requires.fit.ready

pub returns-in_err-class-clause-serves : goal.returns-in_err-class-clause-serves
returns-in_err-class-clause-serves g c = λ cpu. exits_with _ _ c.from_residual.ensures.1 (class_refused c.args.to c.args.of c.requires.fit.ready c.in_err-class.ensures.access.called)

pub returns-clause-serves : goal.returns-clause-serves
returns-clause-serves g c = λ cpu. class_serves c.args.to c.args.of c.requires.scratch c.requires.fit.ready c.in_ok-class.ensures.fit.ready c.in_ok-class.ensures.access.called
