use Rattle.std.proofs.Common.{[], ◌∷◌, refl, sym, ◌∙◌, subst}
use Rattle.long_names.specs.Objects.{pointers_of}
use Rattle.long_names.specs.State.{IsRef}
use Rattle.long_names.specs.Access.{Mark}
use Rattle.object_memory.proofs.MadeLaws.{has_left}
use Rattle.blue_model.specs.declared.cause.Cause.TheVariants.{Shape}
use Rattle.blue_model.specs.Parts.{size}
use Rattle.blue_model.specs.Lookup.{find_in}
use Rattle.contexts.proofs.ServesLaws.{serves_then, serves_stop}
use Rattle.send_lookup.proofs.ClassLaws.{looks_none, looks_rest, on_ok}
use Rattle.send_lookup.proofs.PathLaws.{KeepsPath-trans, Passes-trans, passes_looked, passes_kept, passes_first, looks_keep, on_path_later, on_path_at, walks_exit_found, walks_then, walks_only, walks_marked, walks_look, part_reads, look_before, look_stops, looked_first, look_stopped}
use Rattle.send_lookup.proofs.classes.find_in.Goals as goal

pub returns-in_err-load_dictionary-clause-walks : goal.returns-in_err-load_dictionary-clause-walks
unfolding find_in
returns-in_err-load_dictionary-clause-walks g c = λ cpu. walks_exit_found _ _ c.from_residual.ensures.1 (serves_stop _ (c.in_err-load_dictionary.ensures.walks cpu).serves)

pub returns-in_err-mark-clause-walks : goal.returns-in_err-mark-clause-walks
unfolding find_in
returns-in_err-mark-clause-walks g c = λ cpu.
    walks_exit_found _ _ c.from_residual-in_err-mark.ensures.1
    (serves_then _ (c.in_ok-load_dictionary.ensures.walks cpu).serves (serves_stop _ (look_stops Shape (size 3) _ (c.in_err-mark.ensures.serves cpu))))

pub returns-in_err-fields-clause-walks : goal.returns-in_err-fields-clause-walks
unfolding find_in
returns-in_err-fields-clause-walks g c = λ cpu.
    let mark = c.in_ok-mark.ensures in
    walks_exit_found _ _ c.from_residual-in_err-fields.ensures.1
    (serves_then _ (c.in_ok-load_dictionary.ensures.walks cpu).serves (serves_stop _ (look_before _ (mark.serves cpu) (rw (mark.regs 21) at c.in_err-fields.ensures.serves cpu))))

pub returns-in_err-mark-2-clause-walks : goal.returns-in_err-mark-2-clause-walks
unfolding find_in
returns-in_err-mark-2-clause-walks g c = λ cpu.
    let load = c.in_ok-load_dictionary.ensures in
    let mark = c.in_ok-mark.ensures in
    let size = c.in_ok-fields.ensures in
    let selector = size.looks.regs 23 refl ∙ mark.regs 23 ∙ load.passes.regs 23 refl in
    walks_exit_found _ _ c.from_residual-in_err-mark-2.ensures.1
    (serves_then _ (load.walks cpu).serves (serves_then _ (look_before _ (mark.serves cpu) (rw (mark.regs 21) at size.serves cpu))
    (look_stopped _ _ (rw selector at c.in_err-mark-2.ensures.serves cpu))))

-- the selector, marked, is a name,
pub find_slot-requires-clause-selector : goal.find_slot-requires-clause-selector
find_slot-requires-clause-selector g c = subst IsRef (sym (c.in_ok-mark-2.ensures.regs 23)) c.in_ok-mark-2.ensures.named

-- and the dictionary is as before
pub find_slot-requires-clause-there : goal.find_slot-requires-clause-there
find_slot-requires-clause-there g c =
    let size = c.in_ok-fields.ensures in
    let mark = c.in_ok-mark-2.ensures in
    has_left _ _ (Mark 23) 21 pointers_of _ refl refl size.fit.ready mark.fit.ready mark.called size.there

pub returns-in_err-slot-clause-walks : goal.returns-in_err-slot-clause-walks
unfolding find_in
returns-in_err-slot-clause-walks g c = λ cpu.
    let load = c.in_ok-load_dictionary.ensures in
    let mark = c.in_ok-mark.ensures in
    let size = c.in_ok-fields.ensures in
    let look = c.in_ok-mark-2.ensures in
    let selector = size.looks.regs 23 refl ∙ mark.regs 23 ∙ load.passes.regs 23 refl in
    let dictionary = look.regs 21 ∙ size.looks.regs 21 refl ∙ mark.regs 21 in
    walks_exit_found _ _ c.from_residual-in_err-slot.ensures.1
    (serves_then _ (load.walks cpu).serves (serves_then _ (look_before _ (mark.serves cpu) (rw (mark.regs 21) at size.serves cpu))
    (looked_first _ (rw selector at look.serves cpu) (serves_stop _ (rw (look.regs 23 ∙ selector, dictionary) at c.in_err-slot.ensures.serves cpu)))))

pub method_at-requires-clause-dictionary : goal.method_at-requires-clause-dictionary
method_at-requires-clause-dictionary g c =
    let mark = c.in_ok-mark.ensures in
    let size = c.in_ok-fields.ensures in
    let look = c.in_ok-mark-2.ensures in
    let slot = c.in_ok-slot.ensures in
    let keeps = KeepsPath-trans _ _ _ (looks_keep _ _ _ size.looks) (KeepsPath-trans _ _ _ look.keeps (looks_keep _ _ _ slot.looks)) in
    on_path_at (g.M.ObjectMemory.told c.find_slot.new.m) _ _ (sym (slot.looks.regs 21 refl ∙ look.regs 21 ∙ size.looks.regs 21 refl ∙ mark.regs 21)) (on_path_later _ _ _ keeps (λ whole. mark.marked))

pub returns-clause-walks : goal.returns-clause-walks
unfolding find_in
returns-clause-walks g c = λ cpu.
    let load = c.in_ok-load_dictionary.ensures in
    let mark = c.in_ok-mark.ensures in
    let size = c.in_ok-fields.ensures in
    let look = c.in_ok-mark-2.ensures in
    let slot = c.in_ok-slot.ensures in
    let selector = size.looks.regs 23 refl ∙ mark.regs 23 ∙ load.passes.regs 23 refl in
    let dictionary = look.regs 21 ∙ size.looks.regs 21 refl ∙ mark.regs 21 in
    let keeps = KeepsPath-trans _ _ _ (looks_keep _ _ _ size.looks) (KeepsPath-trans _ _ _ look.keeps (looks_keep _ _ _ slot.looks)) in
    walks_then _ (load.walks cpu) (walks_then _ (walks_marked Shape _ _ (mark.serves cpu) mark.keeps mark.marked (rw (mark.regs 21) at size.serves cpu) (looks_keep _ _ _ size.looks))
    (walks_look _ (rw selector at look.serves cpu) look.keeps (rw selector at look.marked)
    (walks_then _ (walks_only _ (part_reads Shape _ _) (rw (look.regs 23 ∙ selector, dictionary) at slot.serves cpu) (looks_keep _ _ _ slot.looks) (on_path_later _ _ _ keeps (λ whole. mark.marked)))
    (rw (slot.looks.regs 21 refl ∙ dictionary) at c.method_at.ensures.walks cpu))))

pub returns-clause-passes : goal.returns-clause-passes
returns-clause-passes g c =
    let all = 21 ∷ 22 ∷ [] in
    let load = c.in_ok-load_dictionary.ensures in
    let mark = c.in_ok-mark.ensures in
    let size = c.in_ok-fields.ensures in
    let look = c.in_ok-mark-2.ensures in
    let slot = c.in_ok-slot.ensures in
    on_ok c.method_at.result (λ last. Passes-trans all _ _ _ (passes_first 21 (22 ∷ []) _ _ load.passes)
    (Passes-trans all _ _ _ (passes_kept all _ _ mark.regs mark.keeps)
    (Passes-trans all _ _ _ (passes_looked all _ _ (looks_none all _ _ size.looks))
    (Passes-trans all _ _ _ (passes_kept all _ _ look.regs look.keeps)
    (Passes-trans all _ _ _ (passes_looked all _ _ (looks_rest 21 (22 ∷ []) _ _ slot.looks)) last))))) c.method_at.ensures.passes

pub returns-clause-class : goal.returns-clause-class
returns-clause-class g c =
    let load = c.in_ok-load_dictionary.ensures in
    let mark = c.in_ok-mark.ensures in
    let size = c.in_ok-fields.ensures in
    let look = c.in_ok-mark-2.ensures in
    let slot = c.in_ok-slot.ensures in
    let keeps = KeepsPath-trans _ _ _ mark.keeps (KeepsPath-trans _ _ _ (looks_keep _ _ _ size.looks) (KeepsPath-trans _ _ _ look.keeps (looks_keep _ _ _ slot.looks))) in
    on_ok c.method_at.result (λ last. on_path_later _ _ _ (KeepsPath-trans _ _ _ keeps last.keeps) load.class) c.method_at.ensures.passes

pub returns-clause-selector : goal.returns-clause-selector
returns-clause-selector g c =
    let load = c.in_ok-load_dictionary.ensures in
    let mark = c.in_ok-mark.ensures in
    let size = c.in_ok-fields.ensures in
    let look = c.in_ok-mark-2.ensures in
    let slot = c.in_ok-slot.ensures in
    let selector = size.looks.regs 23 refl ∙ mark.regs 23 ∙ load.passes.regs 23 refl in
    on_ok c.method_at.result (λ last. on_path_later _ _ _ (KeepsPath-trans _ _ _ (looks_keep _ _ _ slot.looks) last.keeps) (λ whole. (rw selector at look.marked))) c.method_at.ensures.passes
