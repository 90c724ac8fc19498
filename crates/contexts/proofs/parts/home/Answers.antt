use Rattle.std.proofs.Common.{[], ◌∷◌, refl}
use Rattle.object_memory.proofs.LooksLaws.{regs_looked, Looks-trans}
use Rattle.blue_model.specs.declared.indexes.TheConstants.{TEMP_FRAME_START}
use Rattle.blue_model.specs.Parts.{size, home_of}
use Rattle.contexts.proofs.ExitLaws.{part_exit, home_unsized}
use Rattle.contexts.proofs.PartLaws.{sized_least}
use Rattle.contexts.proofs.ReadLaws.{quiet, exits_with}
use Rattle.contexts.proofs.Steps.{read_first}
use Rattle.contexts.proofs.parts.home.Goals as goal

pub returns-in_err-size-clause-serves : goal.returns-in_err-size-clause-serves
returns-in_err-size-clause-serves g c = λ cpu. exits_with _ _ c.from_residual.ensures.1 (part_exit (size TEMP_FRAME_START) (home_of _) _ (home_unsized _) (c.in_err-size.ensures.serves cpu))

pub home_within-requires-clause-within : goal.home_within-requires-clause-within
home_within-requires-clause-within g c = sized_least TEMP_FRAME_START c.in_ok-size.ensures.least c.in_ok-size.ensures.there

pub returns-in_err-home_within-clause-serves : goal.returns-in_err-home_within-clause-serves
returns-in_err-home_within-clause-serves g c = λ cpu.
    let sized = c.in_ok-size.ensures in
    exits_with _ _ c.from_residual-in_err-home_within.ensures.1
    (read_first c.requires.fit.ready (quiet [] _ _ refl c.requires.fit.ready sized.fit.ready sized.looks) (rw (regs_looked _ _ sized.looks) at c.in_err-home_within.ensures.serves cpu))

pub returns-clause-serves : goal.returns-clause-serves
returns-clause-serves g c = λ cpu.
    let sized = c.in_ok-size.ensures in
    read_first c.requires.fit.ready (quiet [] _ _ refl c.requires.fit.ready sized.fit.ready sized.looks) (rw (regs_looked _ _ sized.looks) at c.in_ok-home_within.ensures.serves cpu)

pub returns-clause-looks : goal.returns-clause-looks
returns-clause-looks g c = Looks-trans [] (c.args.to ∷ []) _ _ _ c.in_ok-size.ensures.fit.ready c.in_ok-size.ensures.looks c.in_ok-home_within.ensures.looks
