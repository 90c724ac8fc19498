use Rattle.std.proofs.Common.{refl}
use Rattle.blue_model.specs.Devices.{say_string}
use Rattle.contexts.proofs.ServesLaws.{serves_then, serves_exit}
use Rattle.contexts.proofs.Steps.{done_serves}
use Rattle.contexts.proofs.TrialLaws.{found_then, none_found, finding_exit}
use Rattle.contexts.proofs.SpeaksLaws.{speaks_then, speaks_exit, goes_done}
use Rattle.contexts.proofs.PeekLaws.{found_one, found_none}
use Rattle.devices.proofs.transcript.say_string.Goals as goal

pub returns-in_err-stack-clause-speaks : goal.returns-in_err-stack-clause-speaks
unfolding say_string
returns-in_err-stack-clause-speaks g c = serves_exit _ _ c.in_err-stack.ensures.serves c.from_residual.ensures.1

pub returns-in_err-is_string-clause-speaks : goal.returns-in_err-is_string-clause-speaks
unfolding say_string
returns-in_err-is_string-clause-speaks g c =
    serves_then _ c.in_ok-stack.ensures.serves
    (finding_exit _ _ (c.in_err-is_string.ensures.serves _) c.from_residual-in_err-is_string.ensures.1)

pub returns-then-not-branch-clause-speaks : goal.returns-then-not-branch-clause-speaks
unfolding say_string
returns-then-not-branch-clause-speaks g c =
    serves_then _ c.in_ok-stack.ensures.serves
    (none_found _ refl (found_none _ _ c.if-not-branch.true (c.in_ok-is_string.ensures.serves _)))

pub returns-in_err-pop-clause-speaks : goal.returns-in_err-pop-clause-speaks
unfolding say_string
returns-in_err-pop-clause-speaks g c =
    serves_then _ c.in_ok-stack.ensures.serves
    (found_then _ refl (found_one _ _ c.if-not-branch.false (c.in_ok-is_string.ensures.serves _))
    (serves_exit _ _ (c.in_err-pop.ensures.serves _ c.in_ok-is_string.ensures.fit.ready) c.from_residual-in_err-pop.ensures.1))

pub returns-in_err-say-clause-speaks : goal.returns-in_err-say-clause-speaks
unfolding say_string
returns-in_err-say-clause-speaks g c =
    let string = c.in_ok-is_string.ensures.looks.regs 10 refl in
    serves_then _ c.in_ok-stack.ensures.serves
    (found_then _ refl (found_one _ _ c.if-not-branch.false (c.in_ok-is_string.ensures.serves _))
    (serves_then _ (c.in_ok-pop.ensures.serves _ c.in_ok-is_string.ensures.fit.ready)
    (speaks_exit _ _ (rw string at c.in_err-say.ensures.speaks c.pop.new.cpu) goes_done c.from_residual-in_err-say.ensures.1)))

pub returns-clause-speaks : goal.returns-clause-speaks
unfolding say_string
returns-clause-speaks g c =
    let string = c.in_ok-is_string.ensures.looks.regs 10 refl in
    serves_then _ c.in_ok-stack.ensures.serves
    (found_then _ refl (found_one _ _ c.if-not-branch.false (c.in_ok-is_string.ensures.serves _))
    (serves_then _ (c.in_ok-pop.ensures.serves _ c.in_ok-is_string.ensures.fit.ready)
    (speaks_then _ (rw string at c.in_ok-say.ensures.speaks c.pop.new.cpu) (done_serves c.in_ok-say.ensures.fit.ready) (λ e. refl))))
