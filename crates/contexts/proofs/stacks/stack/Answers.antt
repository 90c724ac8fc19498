use Rattle.std.proofs.Common.{refl, sym, [], ◌∷◌, arith}
use Rattle.object_memory.proofs.LooksLaws.{regs_looked, Looks-trans}
use Rattle.blue_model.specs.Contexts.{stack}
use Rattle.contexts.proofs.ServesLaws.{serves_then, serves_stop}
use Rattle.contexts.proofs.ReadLaws.{exits_with}
use Rattle.contexts.proofs.Steps.{register_then, numbers_then, given_then, given_stuck}
use Rattle.contexts.proofs.PartLaws.{sized_both}
use Rattle.contexts.proofs.stacks.stack.Goals as goal

pub returns-in_err-len-clause-serves : goal.returns-in_err-len-clause-serves
unfolding stack
returns-in_err-len-clause-serves g c = exits_with _ _ c.from_residual.ensures.1 (numbers_then _ (register_then _ _ refl (serves_stop _ (c.in_err-len.ensures.serves _))))

pub returns-in_default-clause-serves : goal.returns-in_default-clause-serves
unfolding stack
returns-in_default-clause-serves g c = numbers_then _ (register_then _ _ refl (serves_then _ (c.in_ok-len.ensures.serves _) (given_stuck _ _ (λ told. sym c.in_default.ensures.place))))

pub field_within-requires-clause-within : goal.field_within-requires-clause-within
field_within-requires-clause-within g c = sized_both 0 c.in-Some.place (omega arith) c.in-Some.ensures.within c.in_ok-len.ensures.there

pub returns-in_err-field_within-clause-serves : goal.returns-in_err-field_within-clause-serves
unfolding stack
returns-in_err-field_within-clause-serves g c =
    let same = regs_looked _ _ c.in_ok-len.ensures.looks in
    exits_with _ _ c.from_residual-in_err-field_within.ensures.1 (numbers_then _ (register_then _ _ refl (serves_then _ (c.in_ok-len.ensures.serves _) (given_then _ _ _ _ (λ told. sym c.in-Some.ensures.place) (rw same at c.in_err-field_within.ensures.serves _)))))

pub returns-clause-serves : goal.returns-clause-serves
unfolding stack
returns-clause-serves g c =
    let same = regs_looked _ _ c.in_ok-len.ensures.looks in
    numbers_then _ (register_then _ _ refl (serves_then _ (c.in_ok-len.ensures.serves _) (given_then _ _ _ _ (λ told. sym c.in-Some.ensures.place) (rw same at c.in_ok-field_within.ensures.serves _))))

pub returns-clause-looks : goal.returns-clause-looks
returns-clause-looks g c = Looks-trans [] (c.args.to ∷ []) _ _ _ c.in_ok-len.ensures.fit.ready c.in_ok-len.ensures.looks c.in_ok-field_within.ensures.looks
