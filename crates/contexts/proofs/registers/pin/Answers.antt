use Rattle.std.proofs.Common.{◌≡◌, Bool, true, false, sym, ◌∙◌}
use Rattle.object_memory.proofs.Callers.{may_pin}
use Rattle.contexts.proofs.ServesLaws.{exits}
use Rattle.contexts.proofs.RegisterLaws.{pin_serves, pin_refused, pin_stuck}
use Rattle.contexts.proofs.registers.pin.Goals as goal

pub returns-then-not-is_name-clause-serves : goal.returns-then-not-is_name-clause-serves
returns-then-not-is_name-clause-serves g c = λ cpu. pin_stuck c.args.slot c.args.of (λ ref. (let yes = c.is_name.ensures.1 ref in let no : ◌≡◌ {A = Bool} true false = sym yes ∙ c.if-not-is_name.true in absurd (cc)))

pub pin-requires-clause-may : goal.pin-requires-clause-may
pin-requires-clause-may g c = may_pin _ c.args.slot c.args.of c.requires.fit.ready (c.is_name.ensures.0 c.if-not-is_name.false)

pub returns-in_err-pin-clause-serves : goal.returns-in_err-pin-clause-serves
returns-in_err-pin-clause-serves g c = λ cpu. exits _ c.from_residual.ensures.1 (pin_refused c.args.slot c.args.of c.requires.fit.ready (c.is_name.ensures.0 c.if-not-is_name.false) c.in_err-pin.ensures.access.called)

pub returns-clause-serves : goal.returns-clause-serves
returns-clause-serves g c = λ cpu. pin_serves c.args.slot c.args.of c.requires.fit.ready c.in_ok-pin.ensures.fit.ready (c.is_name.ensures.0 c.if-not-is_name.false) c.in_ok-pin.ensures.access.called
