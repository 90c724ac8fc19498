use Rattle.contexts.proofs.ReadLaws.{known_serves, known_refused, exits_with}
use Rattle.contexts.proofs.parts.known.Goals as goal

pub returns-in_err-known-clause-serves : goal.returns-in_err-known-clause-serves
returns-in_err-known-clause-serves g c = λ cpu. exits_with _ _ c.from_residual.ensures.1 (known_refused c.args.to c.args.name c.requires.name c.requires.fit.ready c.in_err-known.ensures.access.called)

pub returns-clause-serves : goal.returns-clause-serves
returns-clause-serves g c = λ cpu. known_serves c.args.to c.args.name c.requires.scratch c.requires.name c.requires.fit.ready c.in_ok-known.ensures.fit.ready c.in_ok-known.ensures.name c.in_ok-known.ensures.access.called
