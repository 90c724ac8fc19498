use Rattle.std.proofs.Common.{◌≤◌, [], Some, None, refl, arith}
use Rattle.blue_model.specs.Parts.{size}
use Rattle.contexts.proofs.ServesLaws.{exits}
use Rattle.contexts.proofs.PartLaws.{size_is, size_few, size_none}
use Rattle.contexts.proofs.PeekLaws.{peek_serves, first_refused}
use Rattle.contexts.proofs.peeks.peek_size.Goals as goal

pub returns-in_err-len-clause-serves : goal.returns-in_err-len-clause-serves
returns-in_err-len-clause-serves g c = λ cpu. exits _ c.from_residual.ensures.1 (first_refused (size c.args.least) c.args.of c.requires.fit.ready c.in_err-len.ensures.refused)

pub returns-in_default-clause-serves : goal.returns-in_default-clause-serves
returns-in_default-clause-serves g c = λ cpu.
    let found = c.in_ok-len.ensures in
    peek_serves [] (size c.args.least) c.args.of None refl c.requires.fit.ready found.fit.ready found.looks (size_none c.args.least found.fields.before c.in_default.is)

pub returns-then-len-least-clause-serves : goal.returns-then-len-least-clause-serves
returns-then-len-least-clause-serves g c = λ cpu.
    let found = c.in_ok-len.ensures in
    peek_serves [] (size c.args.least) c.args.of None refl c.requires.fit.ready found.fit.ready found.looks (size_few c.args.least c.in-Some.len found.fields.before c.in-Some.is c.if-len-least.true)

pub returns-clause-serves : goal.returns-clause-serves
returns-clause-serves g c = λ cpu.
    let found = c.in_ok-len.ensures in
    let low : c.args.least ≤ c.in-Some.len = omega (arith, c.if-len-least.false) in
    peek_serves [] (size c.args.least) c.args.of (Some c.in-Some.len) refl c.requires.fit.ready found.fit.ready found.looks (size_is c.args.least c.in-Some.len found.fields.before c.in-Some.is low)
