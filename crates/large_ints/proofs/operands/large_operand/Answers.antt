use Rattle.std.proofs.Common.{sym, ◌∙◌}
use Rattle.long_names.specs.Words.{IsSmallInteger}
use Rattle.object_memory.proofs.ShapeLaws.{small_number}
use Rattle.contexts.proofs.PeekPairs.{of_some}
use Rattle.large_ints.proofs.OperandLaws.{operand_number, operand_object, object_named, wide}
use Rattle.large_ints.proofs.operands.large_operand.Goals as goal

pub returns-in-Some-clause-serves : goal.returns-in-Some-clause-serves
returns-in-Some-clause-serves g c = λ cpu.
    let small = of_some IsSmallInteger _ _ c.in-Some.is c.as_int.ensures.range in
    operand_number _ c.in-Some.number _ (sym c.as_int.ensures.number ∙ c.in-Some.is) (wide _ _ (c.from.ensures ∙ small_number _ small) small) c.requires.fit.ready

pub large_value-requires-clause-named : goal.large_value-requires-clause-named
large_value-requires-clause-named g c = object_named _ (sym c.as_int.ensures.number ∙ c.in_default.is)

pub returns-clause-serves : goal.returns-clause-serves
returns-clause-serves g c = λ cpu. operand_object _ (sym c.as_int.ensures.number ∙ c.in_default.is) (c.large_value.ensures.serves cpu)
