use Rattle.std.proofs.Common.{[], ◌∷◌, Some, refl, sym, ◌∙◌}
use Rattle.blue_model.specs.declared.cause.Cause.TheVariants.{Shape}
use Rattle.blue_model.specs.Parts.{field, code_of}
use Rattle.contexts.proofs.ServesLaws.{serves_then, serves_stop}
use Rattle.send_lookup.proofs.ClassLaws.{looks_none, looks_first, looks_rest}
use Rattle.send_lookup.proofs.PathLaws.{KeepsPath-trans, Passes-refl, Passes-trans, passes_looked, passes_kept, looks_keep, on_path_later, on_path_at, walks_exit_found, walks_then, walks_only, walks_marked, part_reads, part_reads_then, look_before, look_stops}
use Rattle.send_lookup.proofs.MethodLaws.{method_none, method_some, method_answered, method_stopped}
use Rattle.send_lookup.proofs.methods.method_at.Goals as goal

pub returns-in_default-clause-walks : goal.returns-in_default-clause-walks
returns-in_default-clause-walks g c = λ cpu. method_none _ _ c.in_default.is c.requires.fit.ready

pub returns-in_default-clause-passes : goal.returns-in_default-clause-passes
returns-in_default-clause-passes g c = Passes-refl _ _

pub returns-in_err-field-clause-walks : goal.returns-in_err-field-clause-walks
returns-in_err-field-clause-walks g c = λ cpu. (method_some _ _ _ c.in-Some.is (walks_exit_found _ _ c.from_residual.ensures.1 (serves_stop _ (c.in_err-field.ensures.serves cpu))))

pub returns-in_err-mark-clause-walks : goal.returns-in_err-mark-clause-walks
returns-in_err-mark-clause-walks g c = λ cpu. (method_some _ _ _ c.in-Some.is (walks_exit_found _ _ c.from_residual-in_err-mark.ensures.1
    (serves_then _ (c.in_ok-field.ensures.serves cpu) (serves_stop _ (look_stops Shape (field 0 _) _ (c.in_err-mark.ensures.serves cpu))))))

pub returns-in_err-field-2-clause-walks : goal.returns-in_err-field-2-clause-walks
returns-in_err-field-2-clause-walks g c = λ cpu.
    let array = c.in_ok-mark.ensures in
    (method_some _ _ _ c.in-Some.is (walks_exit_found _ _ c.from_residual-in_err-field-2.ensures.1
    (serves_then _ (c.in_ok-field.ensures.serves cpu) (serves_stop _ (look_before _ (array.serves cpu) (rw (array.regs 21) at c.in_err-field-2.ensures.serves cpu))))))

pub returns-in_err-mark-2-clause-walks : goal.returns-in_err-mark-2-clause-walks
returns-in_err-mark-2-clause-walks g c = λ cpu.
    let array = c.in_ok-mark.ensures in
    (method_some _ _ _ c.in-Some.is (walks_exit_found _ _ c.from_residual-in_err-mark-2.ensures.1
    (serves_then _ (c.in_ok-field.ensures.serves cpu) (serves_then _ (look_before _ (array.serves cpu) (rw (array.regs 21) at c.in_ok-field-2.ensures.serves cpu))
    (serves_stop _ (look_stops Shape code_of _ (c.in_err-mark-2.ensures.serves cpu)))))))

pub returns-in_err-need_method-clause-walks : goal.returns-in_err-need_method-clause-walks
returns-in_err-need_method-clause-walks g c = λ cpu.
    let array = c.in_ok-mark.ensures in
    let method = c.in_ok-mark-2.ensures in
    (method_some _ _ _ c.in-Some.is (walks_exit_found _ _ c.from_residual-in_err-need_method.ensures.1
    (serves_then _ (c.in_ok-field.ensures.serves cpu) (serves_then _ (look_before _ (array.serves cpu) (rw (array.regs 21) at c.in_ok-field-2.ensures.serves cpu))
    (look_before _ (method.serves cpu) (method_stopped _ (rw (method.regs 22) at c.in_err-need_method.ensures.serves cpu)))))))

pub returns-clause-walks : goal.returns-clause-walks
returns-clause-walks g c = λ cpu.
    let first = c.in_ok-field.ensures in
    let array = c.in_ok-mark.ensures in
    let load = c.in_ok-field-2.ensures in
    let method = c.in_ok-mark-2.ensures in
    let last = c.in_ok-need_method.ensures in
    let more = looks_keep _ _ _ last.looks in
    method_some _ _ _ c.in-Some.is (walks_then _ (walks_only _ (part_reads Shape (field 3 1) _) (first.serves cpu) (looks_keep _ _ _ first.looks) (on_path_later _ _ _ (looks_keep _ _ _ first.looks) c.requires.dictionary))
    (walks_then _ (walks_marked Shape (field 0 _) _ (array.serves cpu) array.keeps array.marked (rw (array.regs 21) at load.serves cpu) (looks_keep _ _ _ load.looks))
    (walks_only _ (part_reads_then Shape code_of (Some _) _) (look_before _ (method.serves cpu) (method_answered _ _ (sym (last.looks.regs 22 refl ∙ method.regs 22)) last.fit.ready (rw (method.regs 22) at last.serves cpu)))
    (KeepsPath-trans _ _ _ method.keeps more) (on_path_later _ _ _ more (λ whole. method.marked)))))

pub returns-clause-passes : goal.returns-clause-passes
returns-clause-passes g c =
    let all = 21 ∷ 22 ∷ [] in
    let array = c.in_ok-mark.ensures in
    let method = c.in_ok-mark-2.ensures in
    Passes-trans all _ _ _ (passes_looked all _ _ (looks_first 21 (22 ∷ []) _ _ c.in_ok-field.ensures.looks))
    (Passes-trans all _ _ _ (passes_kept all _ _ array.regs array.keeps)
    (Passes-trans all _ _ _ (passes_looked all _ _ (looks_rest 21 (22 ∷ []) _ _ c.in_ok-field-2.ensures.looks))
    (Passes-trans all _ _ _ (passes_kept all _ _ method.regs method.keeps) (passes_looked all _ _ (looks_none all _ _ c.in_ok-need_method.ensures.looks)))))

pub returns-clause-method : goal.returns-clause-method
returns-clause-method g c = λ found.
    let method = c.in_ok-mark-2.ensures in
    let last = c.in_ok-need_method.ensures in
    on_path_at (g.M.ObjectMemory.told c.need_method.new.m) _ _ (sym (last.looks.regs 22 refl ∙ method.regs 22)) (on_path_later _ _ _ (looks_keep _ _ _ last.looks) (λ whole. method.marked))
