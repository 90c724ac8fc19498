use Rattle.std.proofs.Common.{refl, sym, ◌∙◌}
use Rattle.blue_model.specs.Storage.{become}
use Rattle.contexts.proofs.ServesLaws.{serves_then, serves_exit}
use Rattle.contexts.proofs.Steps.{register_then, done_serves}
use Rattle.contexts.proofs.SwapLaws.{first_says, second_says, both_say}
use Rattle.contexts.proofs.TrialLaws.{true_then, false_fails}
use Rattle.prims_object.proofs.becomes.change_places.Goals as goal
use Rattle.prims_object.proofs.becomes.change_places.Goals.{then-not-is_another-via-then-not-is_another, then-not-is_another-via-else-not-is_another+then-not-is_another-2}

pub returns-in_err-stack-clause-serves : goal.returns-in_err-stack-clause-serves
unfolding become
returns-in_err-stack-clause-serves g c = serves_exit _ _ c.in_err-stack.ensures.serves c.from_residual.ensures.1

pub returns-in_err-stack-2-clause-serves : goal.returns-in_err-stack-2-clause-serves
unfolding become
returns-in_err-stack-2-clause-serves g c = serves_then _ c.in_ok-stack.ensures.serves (serves_exit _ _ c.in_err-stack-2.ensures.serves c.from_residual-in_err-stack-2.ensures.1)

pub returns-then-not-is_another-clause-serves : goal.returns-then-not-is_another-clause-serves
unfolding become
returns-then-not-is_another-clause-serves g c =
    let receiver = c.in_ok-stack-2.ensures.looks.regs 10 refl in
    serves_then _ c.in_ok-stack.ensures.serves (serves_then _ c.in_ok-stack-2.ensures.serves
    (register_then 0 _ refl (register_then 1 _ refl (register_then 2 _ refl
    (false_fails _ _ c.in_ok-stack-2.ensures.fit.ready (λ told. elim c.then-not-is_another.branch [
      | then-not-is_another-via-then-not-is_another w ↦ first_says _ _ (sym (rw receiver at c.is_another.ensures) ∙ w.if-not-is_another.true)
      | then-not-is_another-via-else-not-is_another+then-not-is_another-2 w ↦ second_says _ _ (sym w.is_another-else-not-is_another.ensures ∙ w.if-not-is_another-2.true)
    ]))))))

pub returns-in_err-swap-clause-serves : goal.returns-in_err-swap-clause-serves
unfolding become
returns-in_err-swap-clause-serves g c =
    let receiver = c.in_ok-stack-2.ensures.looks.regs 10 refl in
    serves_then _ c.in_ok-stack.ensures.serves (serves_then _ c.in_ok-stack-2.ensures.serves
    (register_then 0 _ refl (register_then 1 _ refl (register_then 2 _ refl
    (true_then _ _ (λ told. both_say _ _ (sym (rw receiver at c.is_another.ensures) ∙ c.if-not-is_another.false) (sym c.is_another-else-not-is_another.ensures ∙ c.if-not-is_another-2.false))
    (serves_exit _ _ (rw receiver at (c.in_err-swap.ensures.serves c.args.cpu.now)) c.from_residual-in_err-swap.ensures.1))))))

pub returns-in_err-pop-clause-serves : goal.returns-in_err-pop-clause-serves
unfolding become
returns-in_err-pop-clause-serves g c =
    let receiver = c.in_ok-stack-2.ensures.looks.regs 10 refl in
    serves_then _ c.in_ok-stack.ensures.serves (serves_then _ c.in_ok-stack-2.ensures.serves
    (register_then 0 _ refl (register_then 1 _ refl (register_then 2 _ refl
    (true_then _ _ (λ told. both_say _ _ (sym (rw receiver at c.is_another.ensures) ∙ c.if-not-is_another.false) (sym c.is_another-else-not-is_another.ensures ∙ c.if-not-is_another-2.false))
    (serves_then _ (rw receiver at (c.in_ok-swap.ensures.serves c.args.cpu.now)) (serves_exit _ _ (c.in_err-pop.ensures.serves _ c.in_ok-swap.ensures.fit.ready) c.from_residual-in_err-pop.ensures.1)))))))

pub returns-clause-serves : goal.returns-clause-serves
unfolding become
returns-clause-serves g c =
    let receiver = c.in_ok-stack-2.ensures.looks.regs 10 refl in
    serves_then _ c.in_ok-stack.ensures.serves (serves_then _ c.in_ok-stack-2.ensures.serves
    (register_then 0 _ refl (register_then 1 _ refl (register_then 2 _ refl
    (true_then _ _ (λ told. both_say _ _ (sym (rw receiver at c.is_another.ensures) ∙ c.if-not-is_another.false) (sym c.is_another-else-not-is_another.ensures ∙ c.if-not-is_another-2.false))
    (serves_then _ (rw receiver at (c.in_ok-swap.ensures.serves c.args.cpu.now)) (serves_then _ (c.in_ok-pop.ensures.serves _ c.in_ok-swap.ensures.fit.ready) (done_serves c.in_ok-swap.ensures.fit.ready))))))))
