use Rattle.std.proofs.Common.{refl}
use Rattle.st80_program.proofs.ProgramLaws.{program_with_class}
use Rattle.st80_program.proofs.program.Program.add_class.Goals as goal

pub returns-clause-keeps : goal.returns-clause-keeps
returns-clause-keeps c = λ texts is. program_with_class texts c.args.self.now _ c.args.class is c.in_ok-push.ensures.items refl refl c.requires.apart c.requires.above
