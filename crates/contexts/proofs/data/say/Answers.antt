use Rattle.std.proofs.Common.{[], refl}
use Rattle.object_memory.proofs.LooksLaws.{Looks-read}
use Rattle.object_memory.proofs.ShapeLaws.{has_passed}
use Rattle.object_memory.proofs.Callers.{may_say}
use Rattle.contexts.proofs.ServesLaws.{speaks_quiet, exits}
use Rattle.contexts.proofs.Steps.{stuck_last}
use Rattle.contexts.proofs.ReadLaws.{quiet}
use Rattle.contexts.proofs.PartLaws.{text_none}
use Rattle.contexts.proofs.SpeaksLaws.{say_serves, say_refused, say_unread, say_stuck, say_later}
use Rattle.contexts.proofs.data.say.Goals as goal

pub returns-in_err-is_text-clause-speaks : goal.returns-in_err-is_text-clause-speaks
returns-in_err-is_text-clause-speaks g c = λ cpu. exits _ c.from_residual.ensures.1 (say_unread c.args.of c.requires.fit.ready c.in_err-is_text.ensures.read)

pub returns-then-not-branch-clause-speaks : goal.returns-then-not-branch-clause-speaks
returns-then-not-branch-clause-speaks g c = λ cpu.
    let test = c.in_ok-is_text.ensures in
    speaks_quiet (stuck_last (say_stuck c.args.of c.requires.fit.ready (text_none test.text.before c.if-not-branch.true)) (quiet [] _ _ refl c.requires.fit.ready test.fit.ready (Looks-read _ _ c.args.of test.read)))

pub returns-in_err-say-clause-speaks : goal.returns-in_err-say-clause-speaks
returns-in_err-say-clause-speaks g c = λ cpu.
    let test = c.in_ok-is_text.ensures in
    exits _ c.from_residual-in_err-say.ensures.1
    (say_later c.args.of c.requires.fit.ready test.fit.ready (Looks-read _ _ c.args.of test.read)
    (say_refused c.args.of test.fit.ready (may_say _ c.args.of (has_passed test.text.after c.if-not-branch.false)) c.in_err-say.ensures.access.called))

pub returns-clause-speaks : goal.returns-clause-speaks
returns-clause-speaks g c = λ cpu.
    let test = c.in_ok-is_text.ensures in
    let said = c.in_ok-say.ensures in
    say_later c.args.of c.requires.fit.ready test.fit.ready (Looks-read _ _ c.args.of test.read)
    (say_serves c.args.of test.fit.ready said.fit.ready (may_say _ c.args.of (has_passed test.text.after c.if-not-branch.false)) said.access.called)
