use Rattle.std.proofs.Common.{[], refl}
use Rattle.object_memory.proofs.LooksLaws.{regs_looked}
use Rattle.blue_model.specs.Contexts.{nil_context}
use Rattle.contexts.proofs.ExitLaws.{store_unsized}
use Rattle.contexts.proofs.ReadLaws.{quiet}
use Rattle.contexts.proofs.ServesLaws.{serves_then, serves_exit, exits}
use Rattle.contexts.proofs.Steps.{register_then, read_first}
use Rattle.contexts.proofs.context.nil_context.Goals as goal

pub returns-in_err-known-clause-serves : goal.returns-in_err-known-clause-serves
unfolding nil_context
returns-in_err-known-clause-serves g c = λ cpu. register_then _ _ refl (serves_exit _ _ (c.in_err-known.ensures.serves cpu) c.from_residual.ensures.1)

pub returns-in_err-len-clause-serves : goal.returns-in_err-len-clause-serves
unfolding nil_context
returns-in_err-len-clause-serves g c = λ cpu.
    let active = c.in_ok-known.ensures.looks.regs 0 refl in
    register_then _ _ refl (serves_then _ (c.in_ok-known.ensures.serves cpu)
    (serves_exit _ _ (store_unsized _ _ _ (rw active at c.in_err-len.ensures.serves cpu)) c.from_residual-in_err-len.ensures.1))

pub store_below-requires-clause-counted : goal.store_below-requires-clause-counted
store_below-requires-clause-counted g c = c.in_ok-len.ensures.there

pub returns-in_err-store_below-clause-serves : goal.returns-in_err-store_below-clause-serves
unfolding nil_context
returns-in_err-store_below-clause-serves g c = λ cpu.
    let active = c.in_ok-known.ensures.looks.regs 0 refl in
    let ready = c.in_ok-known.ensures.fit.ready in
    let sized = c.in_ok-len.ensures in
    register_then _ _ refl (serves_then _ (c.in_ok-known.ensures.serves cpu)
    (read_first ready (quiet [] _ _ refl ready sized.fit.ready sized.looks)
    (serves_exit _ _ (rw (regs_looked _ _ sized.looks, active) at c.in_err-store_below.ensures.serves cpu) c.from_residual-in_err-store_below.ensures.1)))

pub store_below-requires-2-clause-counted : goal.store_below-requires-2-clause-counted
store_below-requires-2-clause-counted g c = c.in_ok-store_below.ensures.counted

pub returns-in_err-store_below-2-clause-serves : goal.returns-in_err-store_below-2-clause-serves
unfolding nil_context
returns-in_err-store_below-2-clause-serves g c = λ cpu.
    let active = c.in_ok-known.ensures.looks.regs 0 refl in
    let ready = c.in_ok-known.ensures.fit.ready in
    let sized = c.in_ok-len.ensures in
    let same = regs_looked _ _ sized.looks in
    register_then _ _ refl (serves_then _ (c.in_ok-known.ensures.serves cpu)
    (read_first ready (quiet [] _ _ refl ready sized.fit.ready sized.looks)
    (serves_then _ (rw (same, active) at c.in_ok-store_below.ensures.serves cpu)
    (exits _ c.from_residual-in_err-store_below-2.ensures.1 (rw (c.in_ok-store_below.ensures.regs, same, active) at c.in_err-store_below-2.ensures.serves cpu)))))

pub returns-clause-serves : goal.returns-clause-serves
unfolding nil_context
returns-clause-serves g c = λ cpu.
    let active = c.in_ok-known.ensures.looks.regs 0 refl in
    let ready = c.in_ok-known.ensures.fit.ready in
    let sized = c.in_ok-len.ensures in
    let same = regs_looked _ _ sized.looks in
    register_then _ _ refl (serves_then _ (c.in_ok-known.ensures.serves cpu)
    (read_first ready (quiet [] _ _ refl ready sized.fit.ready sized.looks)
    (serves_then _ (rw (same, active) at c.in_ok-store_below.ensures.serves cpu)
    (rw (c.in_ok-store_below.ensures.regs, same, active) at c.in_ok-store_below-2.ensures.serves cpu))))
