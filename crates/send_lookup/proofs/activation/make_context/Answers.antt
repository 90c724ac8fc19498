use Rattle.contexts.proofs.Steps.{done_same}
use Rattle.std.proofs.Common.{◌∙◌, ap, refl, arith}
use Rattle.object_memory.proofs.ShapeLaws.{small_number}
use Rattle.blue_model.specs.Messages.{context_size, make_context}
use Rattle.contexts.proofs.ServesLaws.{serves_then, serves_stop}
use Rattle.contexts.proofs.ReadLaws.{exits_with}
use Rattle.send_lookup.proofs.activation.make_context.Goals as goal

pub returns-in_err-known-clause-serves : goal.returns-in_err-known-clause-serves
unfolding make_context
returns-in_err-known-clause-serves g c = exits_with _ _ c.from_residual.ensures.1 (serves_stop _ (c.in_err-known.ensures.serves _))

pub returns-in_err-make_pointers-clause-serves : goal.returns-in_err-make_pointers-clause-serves
unfolding make_context
returns-in_err-make_pointers-clause-serves g c =
    let size = c.context_size-len.ensures.size ∙ ap (λ z. context_size z) (small_number _ c.requires.header) in
    exits_with _ _ c.from_residual-in_err-make_pointers.ensures.1 (serves_then _ (c.in_ok-known.ensures.serves _)
    (serves_stop _ (rw size at c.in_err-make_pointers.ensures.serves _)))

pub returns-in_err-fill_context-clause-serves : goal.returns-in_err-fill_context-clause-serves
unfolding make_context
returns-in_err-fill_context-clause-serves g c =
    let size = c.context_size-len.ensures.size ∙ ap (λ z. context_size z) (small_number _ c.requires.header) in
    let method = c.in_ok-make_pointers.ensures.regs 5 (λ e. absurd (omega arith)) ∙ c.in_ok-known.ensures.looks.regs 5 refl in
    exits_with _ _ c.from_residual-in_err-fill_context.ensures.1 (serves_then _ (c.in_ok-known.ensures.serves _)
    (serves_then _ (rw size at c.in_ok-make_pointers.ensures.serves _)
    (serves_stop _ (rw (method, small_number _ c.requires.header) at c.in_err-fill_context.ensures.serves _))))

pub returns-in_err-pass_all-clause-serves : goal.returns-in_err-pass_all-clause-serves
unfolding make_context
returns-in_err-pass_all-clause-serves g c =
    let size = c.context_size-len.ensures.size ∙ ap (λ z. context_size z) (small_number _ c.requires.header) in
    let method = c.in_ok-make_pointers.ensures.regs 5 (λ e. absurd (omega arith)) ∙ c.in_ok-known.ensures.looks.regs 5 refl in
    let context = c.in_ok-fill_context.ensures.regs 16 (λ e. absurd (omega arith)) in
    exits_with _ _ c.from_residual-in_err-pass_all.ensures.1 (serves_then _ (c.in_ok-known.ensures.serves _)
    (serves_then _ (rw size at c.in_ok-make_pointers.ensures.serves _)
    (serves_then _ (rw (method, small_number _ c.requires.header) at c.in_ok-fill_context.ensures.serves _)
    (serves_stop _ (rw (context, size) at c.in_err-pass_all.ensures.serves)))))

pub returns-clause-serves : goal.returns-clause-serves
unfolding make_context
returns-clause-serves g c =
    let size = c.context_size-len.ensures.size ∙ ap (λ z. context_size z) (small_number _ c.requires.header) in
    let method = c.in_ok-make_pointers.ensures.regs 5 (λ e. absurd (omega arith)) ∙ c.in_ok-known.ensures.looks.regs 5 refl in
    let context = c.in_ok-fill_context.ensures.regs 16 (λ e. absurd (omega arith)) in
    serves_then _ (c.in_ok-known.ensures.serves _)
    (serves_then _ (rw size at c.in_ok-make_pointers.ensures.serves _)
    (serves_then _ (rw (method, small_number _ c.requires.header) at c.in_ok-fill_context.ensures.serves _)
    (serves_then _ (rw (context, size) at c.in_ok-pass_all.ensures.serves)
    (done_same (c.in_ok-pass_all.ensures.regs 16 (λ e. absurd (omega arith)) ∙ context) c.in_ok-pass_all.ensures.fit.ready))))
