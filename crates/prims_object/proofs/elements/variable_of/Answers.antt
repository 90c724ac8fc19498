use Rattle.std.proofs.Common.{sym, ◌∙◌, ap}
use Rattle.blue_model.specs.Elements.{variable_of}
use Rattle.contexts.proofs.CodeLaws.{kept}
use Rattle.prims_object.specs.Numbers.{positive}
use Rattle.prims_object.proofs.NumberLaws.{element_unfixed, spot_there, spot_nowhere}
use Rattle.prims_object.proofs.elements.variable_of.Goals as goal

pub returns-in_default-clause-serves : goal.returns-in_default-clause-serves
unfolding variable_of
returns-in_default-clause-serves g c = λ cpu.
    let z = ap positive (kept c.args.i c.ranges.i.sfits) in
    spot_nowhere _ _ (element_unfixed c.args.i ∙ sym z ∙ sym c.positive.ensures.number ∙ c.in_default.is) c.requires.fit.ready

pub returns-clause-serves : goal.returns-clause-serves
unfolding variable_of
returns-clause-serves g c = λ cpu.
    let z = ap positive (kept c.args.i c.ranges.i.sfits) in
    spot_there _ _ _ (element_unfixed c.args.i ∙ sym z ∙ sym c.positive.ensures.number ∙ c.in-Some.is) (c.spot_of.ensures.serves cpu)
