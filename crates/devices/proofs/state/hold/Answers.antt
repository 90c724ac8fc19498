use Rattle.contexts.proofs.ServesLaws.{exits}
use Rattle.devices.proofs.StateLaws.{named_may, named_serves, named_refused, unnamed_serves, kept_after, named_word, unnamed_word}
use Rattle.devices.proofs.state.hold.Goals as goal

pub known-requires-clause-may : goal.known-requires-clause-may
known-requires-clause-may g c = named_may _ c.args.to c.args.name c.in-Some.name c.in-Some.is c.requires.fit.ready c.requires.name

pub returns-in_err-known-clause-serves : goal.returns-in_err-known-clause-serves
returns-in_err-known-clause-serves g c = λ cpu.
    exits _ c.from_residual.ensures.1 (named_refused c.args.to c.args.name c.in-Some.name c.in-Some.is c.get-word.ensures.name.above c.requires.fit.ready c.requires.name c.in_err-known.ensures.access.called)

pub returns-in_ok-known-clause-serves : goal.returns-in_ok-known-clause-serves
returns-in_ok-known-clause-serves g c = λ cpu.
    named_serves c.args.to c.args.name c.in-Some.name c.in-Some.is c.get-word.ensures.name.above c.requires.machine c.requires.fit.ready c.in_ok-known.ensures.fit.ready c.requires.name c.in_ok-known.ensures.name c.in_ok-known.ensures.access.called

pub returns-in_ok-known-clause-kept : goal.returns-in_ok-known-clause-kept
returns-in_ok-known-clause-kept g c = λ told. kept_after _ _ c.args.to c.in-Some.name c.requires.fit.ready c.in_ok-known.ensures.fit.ready c.in_ok-known.ensures.access.called told

pub returns-in_default-clause-serves : goal.returns-in_default-clause-serves
returns-in_default-clause-serves g c = λ cpu. unnamed_serves c.args.to c.args.name c.in_default.is c.requires.fit.ready

pub returns-in_err-known-clause-named : goal.returns-in_err-known-clause-named
returns-in_err-known-clause-named g c = named_word c.args.name c.in-Some.name c.in-Some.is c.get-word.ensures.name.above

pub returns-in_ok-known-clause-named : goal.returns-in_ok-known-clause-named
returns-in_ok-known-clause-named g c = named_word c.args.name c.in-Some.name c.in-Some.is c.get-word.ensures.name.above

pub returns-in_default-clause-named : goal.returns-in_default-clause-named
returns-in_default-clause-named g c = unnamed_word c.args.name c.in_default.is
