use Rattle.std.proofs.Common.{refl, ap}
use Rattle.std.proofs.Math.Seq.{map-set_same}
use Rattle.std.proofs.lemmas.List.{length-set}
use Rattle.st80_program.specs.declared.program.Class.{Class}
use Rattle.st80_program.proofs.ProgramLaws.{program_with_fields}
use Rattle.st80_program.proofs.program.Program.give_fields.Goals as goal

pub returns-clause-keeps : goal.returns-clause-keeps
returns-clause-keeps c = λ texts is.
    let classes = c.args.self.now.classes.items in
    let read = c.index_mut.ensures.value in
    program_with_fields texts c.args.self.now _ is
    (map-set_same (λ (class : Class). class.superclass) classes c.args.class _ c.index_mut.result.now (ap (λ (class : Class). class.superclass) read))
    (map-set_same (λ (class : Class). class.name.items) classes c.args.class _ c.index_mut.result.now (ap (λ (class : Class). class.name.items) read))
    (length-set classes c.args.class _)
    refl
    refl
