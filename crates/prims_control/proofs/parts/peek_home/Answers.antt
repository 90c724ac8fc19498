use Rattle.std.proofs.Common.{[], ◌∷◌, refl}
use Rattle.object_memory.proofs.LooksLaws.{Looks-trans}
use Rattle.blue_model.specs.Parts.{size, home_of}
use Rattle.contexts.proofs.Steps.{read_first}
use Rattle.contexts.proofs.ReadLaws.{quiet}
use Rattle.contexts.proofs.PeekLaws.{exits_found}
use Rattle.prims_control.proofs.FoundLaws.{wanted_found, wanted_stopped, wanted_unread, wanted_lacking, home_there, home_lacking}
use Rattle.prims_control.proofs.parts.peek_home.Goals as goal

pub returns-in_err-peek_size-clause-serves : goal.returns-in_err-peek_size-clause-serves
returns-in_err-peek_size-clause-serves g c = λ cpu. exits_found _ _ c.from_residual.ensures.1 (wanted_unread (home_of _) (size 6) _ (c.in_err-peek_size.ensures.serves cpu))

pub returns-in_default-clause-serves : goal.returns-in_default-clause-serves
returns-in_default-clause-serves g c = λ cpu. wanted_lacking (home_of _) (size 6) _ (home_lacking _) (rw c.in_default.is at (c.in_ok-peek_size.ensures.serves cpu))

pub returns-in_err-home-clause-serves : goal.returns-in_err-home-clause-serves
returns-in_err-home-clause-serves g c = λ cpu.
    let same = c.in_ok-peek_size.ensures.looks.regs 10 refl in
    exits_found _ _ c.from_residual-in_err-home.ensures.1 (wanted_stopped (home_of _) (size 6) _ _ (home_there _ _) (rw c.in-Some.is at (c.in_ok-peek_size.ensures.serves cpu))
    (read_first c.requires.fit.ready (quiet [] _ _ refl c.requires.fit.ready c.in_ok-peek_size.ensures.fit.ready c.in_ok-peek_size.ensures.looks) (rw same at (c.in_err-home.ensures.serves cpu))))

pub returns-clause-serves : goal.returns-clause-serves
returns-clause-serves g c = λ cpu.
    let same = c.in_ok-peek_size.ensures.looks.regs 10 refl in
    wanted_found (home_of _) _ _ (read_first c.requires.fit.ready (quiet [] _ _ refl c.requires.fit.ready c.in_ok-peek_size.ensures.fit.ready c.in_ok-peek_size.ensures.looks) (rw same at (c.in_ok-home.ensures.serves cpu)))

pub returns-clause-looks : goal.returns-clause-looks
returns-clause-looks g c = Looks-trans [] (12 ∷ []) _ _ _ c.in_ok-peek_size.ensures.fit.ready c.in_ok-peek_size.ensures.looks c.in_ok-home.ensures.looks
