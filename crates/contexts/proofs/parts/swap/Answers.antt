use Rattle.std.proofs.Common.{sym, ◌∙◌}
use Rattle.contexts.proofs.ServesLaws.{exits}
use Rattle.contexts.proofs.SwapLaws.{first_says, second_says, may_swap_unpinned, swap_serves, swap_refused, swap_stuck}
use Rattle.contexts.proofs.parts.swap.Goals as goal
use Rattle.contexts.proofs.parts.swap.Goals.{then-not-is_unpinned-via-then-not-is_unpinned, then-not-is_unpinned-via-else-not-is_unpinned+then-not-is_unpinned-2}

pub returns-then-not-is_unpinned-clause-serves : goal.returns-then-not-is_unpinned-clause-serves
returns-then-not-is_unpinned-clause-serves g c = λ cpu.
    swap_stuck c.args.a c.args.b c.requires.fit.ready (elim c.then-not-is_unpinned.branch [
      | then-not-is_unpinned-via-then-not-is_unpinned w ↦ first_says _ _ (sym c.is_unpinned.ensures ∙ w.if-not-is_unpinned.true)
      | then-not-is_unpinned-via-else-not-is_unpinned+then-not-is_unpinned-2 w ↦ second_says _ _ (sym w.is_unpinned-else-not-is_unpinned.ensures ∙ w.if-not-is_unpinned-2.true)
    ])

pub swap-requires-clause-may : goal.swap-requires-clause-may
swap-requires-clause-may g c = may_swap_unpinned _ c.args.a c.args.b c.requires.fit.ready (sym c.is_unpinned.ensures ∙ c.if-not-is_unpinned.false) (sym c.is_unpinned-else-not-is_unpinned.ensures ∙ c.if-not-is_unpinned-2.false)

pub returns-in_err-swap-clause-serves : goal.returns-in_err-swap-clause-serves
returns-in_err-swap-clause-serves g c = λ cpu.
    exits _ c.from_residual.ensures.1 (swap_refused c.args.a c.args.b c.requires.fit.ready (sym c.is_unpinned.ensures ∙ c.if-not-is_unpinned.false) (sym c.is_unpinned-else-not-is_unpinned.ensures ∙ c.if-not-is_unpinned-2.false)
    c.in_err-swap.ensures.access.called)

pub returns-clause-serves : goal.returns-clause-serves
returns-clause-serves g c = λ cpu.
    swap_serves c.args.a c.args.b c.requires.fit.ready c.in_ok-swap.ensures.fit.ready (sym c.is_unpinned.ensures ∙ c.if-not-is_unpinned.false) (sym c.is_unpinned-else-not-is_unpinned.ensures ∙ c.if-not-is_unpinned-2.false) c.in_ok-swap.ensures.access.called
