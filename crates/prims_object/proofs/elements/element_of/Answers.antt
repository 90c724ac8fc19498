use Rattle.std.proofs.Common.{[], ◌∷◌, sym, ◌∙◌, ap}
use Rattle.object_memory.proofs.LooksLaws.{Looks-trans}
use Rattle.blue_model.specs.Elements.{element_of}
use Rattle.contexts.proofs.CodeLaws.{kept}
use Rattle.contexts.proofs.Frames.{below}
use Rattle.contexts.proofs.ServesLaws.{serves_then, serves_exit}
use Rattle.contexts.proofs.Steps.{pick_true, pick_false, done_serves}
use Rattle.prims_object.specs.Numbers.{positive}
use Rattle.prims_object.proofs.NumberLaws.{not_positive, is_one, element_there, spot_there}
use Rattle.prims_object.proofs.TestLaws.{on_ok}
use Rattle.prims_object.proofs.elements.element_of.Goals as goal

pub returns-in_default-clause-serves : goal.returns-in_default-clause-serves
unfolding element_of
returns-in_default-clause-serves g c = λ cpu.
    let z = ap positive (kept c.args.i c.ranges.i.sfits) in
    pick_false _ _ _ (not_positive c.args.i (sym z ∙ sym c.positive.ensures.number ∙ c.in_default.is)) (done_serves c.requires.fit.ready)

pub returns-in_err-fixed-clause-serves : goal.returns-in_err-fixed-clause-serves
unfolding element_of
returns-in_err-fixed-clause-serves g c = λ cpu.
    let z = ap positive (kept c.args.i c.ranges.i.sfits) in
    let number = sym z ∙ sym c.positive.ensures.number ∙ c.in-Some.is in
    pick_true _ _ _ (is_one c.args.i _ number) (serves_exit _ _ (c.in_err-fixed.ensures.serves cpu) c.from_residual.ensures.1)

pub returns-in_default-2-clause-serves : goal.returns-in_default-2-clause-serves
unfolding element_of
returns-in_default-2-clause-serves g c = λ cpu.
    let z = ap positive (kept c.args.i c.ranges.i.sfits) in
    let number = sym z ∙ sym c.positive.ensures.number ∙ c.in-Some.is in
    pick_true _ _ _ (is_one c.args.i _ number) (serves_then _ (rw c.in_default-2.is at (c.in_ok-fixed.ensures.serves cpu)) (done_serves c.in_ok-fixed.ensures.fit.ready))

pub returns-clause-serves : goal.returns-clause-serves
unfolding element_of
returns-clause-serves g c = λ cpu.
    let z = ap positive (kept c.args.i c.ranges.i.sfits) in
    let number = sym z ∙ sym c.positive.ensures.number ∙ c.in-Some.is in
    let same = c.in_ok-fixed.ensures.looks.regs c.args.array (below 19 c.args.array c.requires.low) in
    pick_true _ _ _ (is_one c.args.i _ number) (serves_then _ (rw c.in-Some-2.is at (c.in_ok-fixed.ensures.serves cpu)) (spot_there _ _ _ (element_there c.args.i _ _ number) (rw same at c.spot_of.ensures.serves cpu)))

pub returns-clause-looks : goal.returns-clause-looks
returns-clause-looks g c =
    let fixed = c.in_ok-fixed.ensures in
    on_ok c.spot_of.result (λ last. Looks-trans (19 ∷ []) [] _ _ _ fixed.fit.ready fixed.looks last) c.spot_of.ensures.looks
