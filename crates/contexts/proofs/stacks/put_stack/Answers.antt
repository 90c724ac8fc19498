use Rattle.std.proofs.Common.{refl, sym}
use Rattle.object_memory.proofs.LooksLaws.{regs_looked}
use Rattle.blue_model.specs.Messages.{put_stack}
use Rattle.contexts.proofs.ServesLaws.{serves_then, serves_exit, exits}
use Rattle.contexts.proofs.Steps.{register_then, numbers_then, given_then, given_stuck}
use Rattle.contexts.proofs.PartLaws.{sized_within}
use Rattle.contexts.proofs.stacks.put_stack.Goals as goal

pub returns-in_err-len-clause-serves : goal.returns-in_err-len-clause-serves
unfolding put_stack
returns-in_err-len-clause-serves g c = numbers_then _ (register_then _ _ refl (serves_exit _ _ (c.in_err-len.ensures.serves _) c.from_residual.ensures.1))

pub returns-in_default-clause-serves : goal.returns-in_default-clause-serves
unfolding put_stack
returns-in_default-clause-serves g c = numbers_then _ (register_then _ _ refl (serves_then _ (c.in_ok-len.ensures.serves _) (given_stuck _ _ (λ told. sym c.in_default.ensures.place))))

pub store_within-requires-clause-within : goal.store_within-requires-clause-within
store_within-requires-clause-within g c = sized_within c.in_ok-len.len c.in-Some.place c.in-Some.ensures.within c.in_ok-len.ensures.there

pub returns-in_err-store_within-clause-serves : goal.returns-in_err-store_within-clause-serves
unfolding put_stack
returns-in_err-store_within-clause-serves g c =
    let same = regs_looked _ _ c.in_ok-len.ensures.looks in
    numbers_then _ (register_then _ _ refl (serves_then _ (c.in_ok-len.ensures.serves _) (given_then _ _ _ _ (λ told. sym c.in-Some.ensures.place)
    (exits _ c.from_residual-in_err-store_within.ensures.1 (rw same at c.in_err-store_within.ensures.serves _)))))

pub returns-clause-serves : goal.returns-clause-serves
unfolding put_stack
returns-clause-serves g c =
    let same = regs_looked _ _ c.in_ok-len.ensures.looks in
    numbers_then _ (register_then _ _ refl (serves_then _ (c.in_ok-len.ensures.serves _) (given_then _ _ _ _ (λ told. sym c.in-Some.ensures.place)
    (rw same at c.in_ok-store_within.ensures.serves _))))
