use Rattle.std.proofs.Common.{[], ◌∷◌, is_some, refl, sym, ◌∙◌, ap}
use Rattle.object_memory.proofs.LooksLaws.{Looks-trans}
use Rattle.object_memory.proofs.ShapeLaws.{small_number}
use Rattle.blue_model.specs.Processes.{has_list}
use Rattle.contexts.proofs.ServesLaws.{serves_then, serves_exit}
use Rattle.contexts.proofs.Steps.{done_same}
use Rattle.process_sched.proofs.ValueLaws.{list_found}
use Rattle.process_sched.proofs.scheduler.has_list.Goals as goal

pub returns-in_err-process_lists-clause-serves : goal.returns-in_err-process_lists-clause-serves
unfolding has_list
returns-in_err-process_lists-clause-serves g c = λ cpu. serves_exit _ _ (c.in_err-process_lists.ensures.serves cpu) c.from_residual.ensures.1

pub returns-in_err-count-clause-serves : goal.returns-in_err-count-clause-serves
unfolding has_list
returns-in_err-count-clause-serves g c = λ cpu. serves_then _ (c.in_ok-process_lists.ensures.serves cpu)
    (serves_exit _ _ (c.in_err-count.ensures.serves cpu) c.from_residual-in_err-count.ensures.1)

pub returns-clause-serves : goal.returns-clause-serves
unfolding has_list
returns-clause-serves g c = λ cpu. serves_then _ (c.in_ok-process_lists.ensures.serves cpu)
    (serves_then _ (c.in_ok-count.ensures.serves cpu)
    (done_same (c.is_some.ensures ∙ ap is_some (sym (list_found _ _ _ _ _ (small_number _ c.requires.range) c.list_index.ensures.index refl))) c.in_ok-count.ensures.fit.ready))

pub returns-clause-looks : goal.returns-clause-looks
returns-clause-looks g c = Looks-trans (15 ∷ []) [] _ _ _ c.in_ok-process_lists.ensures.fit.ready c.in_ok-process_lists.ensures.looks c.in_ok-count.ensures.looks
