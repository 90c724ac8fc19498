use Rattle.std.proofs.Common.{[], ◌∷◌}
use Rattle.blue_model.specs.declared.cause.Cause.TheVariants.{Shape}
use Rattle.blue_model.specs.Parts.{field}
use Rattle.send_lookup.proofs.PathLaws.{Passes-trans, passes_looked, passes_kept, looks_keep, on_path_later, walks_exit_with, look_before, look_stops, walks_marked}
use Rattle.send_lookup.proofs.path.load_dictionary.Goals as goal

pub returns-in_err-mark-clause-walks : goal.returns-in_err-mark-clause-walks
returns-in_err-mark-clause-walks g c = λ cpu. walks_exit_with _ _ c.from_residual.ensures.1 (look_stops Shape (field 3 1) _ (c.in_err-mark.ensures.serves cpu))

pub returns-in_err-field-clause-walks : goal.returns-in_err-field-clause-walks
returns-in_err-field-clause-walks g c = λ cpu.
    let first = c.in_ok-mark.ensures in
    walks_exit_with _ _ c.from_residual-in_err-field.ensures.1 (look_before _ (first.serves cpu) (rw (first.regs 20) at c.in_err-field.ensures.serves cpu))

pub returns-clause-walks : goal.returns-clause-walks
returns-clause-walks g c = λ cpu.
    let first = c.in_ok-mark.ensures in
    let load = c.in_ok-field.ensures in
    walks_marked Shape (field 3 1) _ (first.serves cpu) first.keeps first.marked (rw (first.regs 20) at load.serves cpu) (looks_keep _ _ _ load.looks)

pub returns-clause-passes : goal.returns-clause-passes
returns-clause-passes g c =
    let first = c.in_ok-mark.ensures in
    Passes-trans _ _ _ _ (passes_kept (21 ∷ []) _ _ first.regs first.keeps) (passes_looked (21 ∷ []) _ _ c.in_ok-field.ensures.looks)

pub returns-clause-class : goal.returns-clause-class
returns-clause-class g c =
    let first = c.in_ok-mark.ensures in
    on_path_later _ _ _ (looks_keep _ _ _ c.in_ok-field.ensures.looks) (λ whole. first.marked)
