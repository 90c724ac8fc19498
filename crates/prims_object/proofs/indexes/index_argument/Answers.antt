use Rattle.std.proofs.Common.{sym, ◌∙◌}
use Rattle.long_names.specs.Words.{IsSmallInteger}
use Rattle.object_memory.proofs.ShapeLaws.{small_number}
use Rattle.prims_object.proofs.NumberLaws.{small_index, index_as, index_number, index_object}
use Rattle.prims_object.proofs.TestLaws.{of_some}
use Rattle.prims_object.proofs.indexes.index_argument.Goals as goal

pub returns-in-Some-clause-serves : goal.returns-in-Some-clause-serves
returns-in-Some-clause-serves g c = λ cpu.
    let small = of_some IsSmallInteger _ c.in-Some.is c.as_int.ensures.range in
    index_number _ _ c.in-Some.number (sym c.as_int.ensures.number ∙ c.in-Some.is) (index_as _ _ (c.from.ensures ∙ small_number _ small) (small_index _ small)) c.requires.fit.ready

pub returns-clause-serves : goal.returns-clause-serves
returns-clause-serves g c = λ cpu. index_object _ (sym c.as_int.ensures.number ∙ c.in_default.is) (c.large_number.ensures.serves cpu)
