use Rattle.std.proofs.Common.{[], ◌∷◌, refl, ◌∙◌, ap}
use Rattle.object_memory.proofs.ShapeLaws.{small_number}
use Rattle.object_memory.proofs.LooksLaws.{Looks-trans}
use Rattle.blue_model.specs.Messages.{arguments_of, flag_of, flag_arguments, extension_arguments}
use Rattle.contexts.proofs.ServesLaws.{serves_then, serves_exit}
use Rattle.contexts.proofs.Steps.{pick_true, pick_false, done_same}
use Rattle.prims_control.proofs.StepLaws.{is_same, is_other}
use Rattle.prims_control.proofs.performs.arguments_of.Goals as goal

pub returns-in_err-header-clause-serves : goal.returns-in_err-header-clause-serves
unfolding arguments_of
returns-in_err-header-clause-serves g c = λ cpu. serves_exit _ _ (c.in_err-header.ensures.serves cpu) c.from_residual.ensures.1

pub returns-in_err-extension-clause-serves : goal.returns-in_err-extension-clause-serves
unfolding arguments_of
returns-in_err-extension-clause-serves g c = λ cpu.
    let z = small_number _ c.in_ok-header.ensures.range in
    let flag = rw z at c.flag.ensures.flag in
    let method = c.in_ok-header.ensures.looks.regs 22 refl in
    serves_then _ (c.in_ok-header.ensures.serves cpu)
    (pick_true _ _ _ (is_same _ _ 7 flag c.if-flag-eq-EXTENSION_FLAG.true)
    (serves_exit _ _ (rw method at (c.in_err-extension.ensures.serves cpu)) c.from_residual-in_err-extension.ensures.1))

pub returns-then-flag-eq-EXTENSION_FLAG-clause-serves : goal.returns-then-flag-eq-EXTENSION_FLAG-clause-serves
unfolding arguments_of
returns-then-flag-eq-EXTENSION_FLAG-clause-serves g c = λ cpu.
    let z = small_number _ c.in_ok-header.ensures.range in
    let flag = rw z at c.flag.ensures.flag in
    let method = c.in_ok-header.ensures.looks.regs 22 refl in
    let x = small_number _ c.in_ok-extension.ensures.range in
    serves_then _ (c.in_ok-header.ensures.serves cpu)
    (pick_true _ _ _ (is_same _ _ 7 flag c.if-flag-eq-EXTENSION_FLAG.true)
    (serves_then _ (rw method at (c.in_ok-extension.ensures.serves cpu)) (done_same (c.extension_arguments.ensures ∙ ap (λ y. extension_arguments y) x) c.in_ok-extension.ensures.fit.ready)))

pub returns-then-flag-eq-EXTENSION_FLAG-clause-looks : goal.returns-then-flag-eq-EXTENSION_FLAG-clause-looks
returns-then-flag-eq-EXTENSION_FLAG-clause-looks g c = Looks-trans [] (19 ∷ []) _ _ _ c.in_ok-header.ensures.fit.ready c.in_ok-header.ensures.looks c.in_ok-extension.ensures.looks

pub returns-clause-serves : goal.returns-clause-serves
unfolding arguments_of
returns-clause-serves g c = λ cpu.
    let z = small_number _ c.in_ok-header.ensures.range in
    let flag = rw z at c.flag.ensures.flag in
    serves_then _ (c.in_ok-header.ensures.serves cpu)
    (pick_false _ _ _ (is_other _ _ 7 flag c.if-flag-eq-EXTENSION_FLAG.false) (done_same (c.flag_arguments.ensures ∙ ap flag_arguments (c.flag-2.ensures.flag ∙ ap (λ y. flag_of y) z)) c.in_ok-header.ensures.fit.ready))
