use Rattle.std.proofs.Common.{sym, ◌∙◌}
use Rattle.blue_model.specs.Elements.{byte_of_character}
use Rattle.contexts.proofs.Frames.{below}
use Rattle.contexts.proofs.ReadLaws.{looks_again}
use Rattle.contexts.proofs.ServesLaws.{serves_then, serves_stop, exits}
use Rattle.contexts.proofs.Steps.{pick_true, pick_false, done_serves}
use Rattle.prims_object.proofs.TextLaws.{by_number, by_number_stopped}
use Rattle.prims_object.proofs.characters.byte_of_character.Goals as goal

pub returns-in_err-class_of-clause-serves : goal.returns-in_err-class_of-clause-serves
unfolding byte_of_character
returns-in_err-class_of-clause-serves g c = λ cpu. exits _ c.from_residual.ensures.1 (serves_stop _ (c.in_err-class_of.ensures.serves cpu))

pub returns-then-not-is-clause-serves : goal.returns-then-not-is-clause-serves
unfolding byte_of_character
returns-then-not-is-clause-serves g c = λ cpu. serves_then _ (c.in_ok-class_of.ensures.serves cpu) (pick_false _ _ _ (sym c.is.ensures ∙ c.if-not-is.true) (done_serves c.in_ok-class_of.ensures.fit.ready))

pub returns-in_err-number-clause-serves : goal.returns-in_err-number-clause-serves
unfolding byte_of_character
returns-in_err-number-clause-serves g c = λ cpu.
    let same = c.in_ok-class_of.ensures.looks.regs c.args.of (below 19 c.args.of c.requires.low) in
    exits _ c.from_residual-in_err-number.ensures.1 (serves_then _ (c.in_ok-class_of.ensures.serves cpu) (pick_true _ _ _ (sym c.is.ensures ∙ c.if-not-is.false) (by_number_stopped _ (rw same at c.in_err-number.ensures.serves cpu))))

pub returns-clause-serves : goal.returns-clause-serves
unfolding byte_of_character
returns-clause-serves g c = λ cpu.
    let same = c.in_ok-class_of.ensures.looks.regs c.args.of (below 19 c.args.of c.requires.low) in
    serves_then _ (c.in_ok-class_of.ensures.serves cpu) (pick_true _ _ _ (sym c.is.ensures ∙ c.if-not-is.false) (by_number _ _ _ c.byte_by.ensures c.in_ok-number.ensures.fit.ready (rw same at c.in_ok-number.ensures.serves cpu)))

pub returns-clause-looks : goal.returns-clause-looks
returns-clause-looks g c = looks_again 19 _ _ _ c.in_ok-class_of.ensures.fit.ready c.in_ok-class_of.ensures.looks c.in_ok-number.ensures.looks
