use Rattle.std.proofs.Common.{length, refl}
use Rattle.st80_program.proofs.ProgramLaws.{no_program}
use Rattle.st80_program.proofs.reading.take_texts.Goals as goal

pub each-init : goal.each-init
each-init c = no_program (length c.args.texts.now) _ c.new.ensures.items c.new-2.ensures.items refl
