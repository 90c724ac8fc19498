use Rattle.std.proofs.Common.{pos, [], ◌∷◌, refl, ◌∙◌, ap, arith}
use Rattle.object_memory.proofs.LooksLaws.{Looks-put, put_value, not_among, below_among}
use Rattle.process_sched.proofs.ValueLaws.{on_ok}
use Rattle.blue_model.specs.Processes.{switch}
use Rattle.contexts.proofs.ServesLaws.{serves_then, serves_exit}
use Rattle.contexts.proofs.Steps.{register_then, numbers_then, set_numbers_at}
use Rattle.process_sched.proofs.RegisterLaws.{number_put}
use Rattle.process_sched.proofs.switches.switch.Goals as goal

pub returns-in_err-scheduler-clause-serves : goal.returns-in_err-scheduler-clause-serves
unfolding switch
returns-in_err-scheduler-clause-serves g c = serves_exit _ _ (c.in_err-scheduler.ensures.serves _) c.from_residual.ensures.1

pub returns-in_err-field-clause-serves : goal.returns-in_err-field-clause-serves
unfolding switch
returns-in_err-field-clause-serves g c =
    serves_then _ (c.in_ok-scheduler.ensures.serves _) (serves_exit _ _ (c.in_err-field.ensures.serves _) c.from_residual-in_err-field.ensures.1)

pub returns-in_err-store_field-clause-serves : goal.returns-in_err-store_field-clause-serves
unfolding switch
returns-in_err-store_field-clause-serves g c =
    serves_then _ (c.in_ok-scheduler.ensures.serves _) (serves_then _ (c.in_ok-field.ensures.serves _)
    (register_then 0 _ refl (serves_exit _ _ (c.in_err-store_field.ensures.serves _) c.from_residual-in_err-store_field.ensures.1)))

pub returns-in_err-store_field-2-clause-serves : goal.returns-in_err-store_field-2-clause-serves
unfolding switch
returns-in_err-store_field-2-clause-serves g c =
    let scheduler = ap (λ f. f 11) c.in_ok-store_field.ensures.regs ∙ c.in_ok-field.ensures.looks.regs 11 refl in
    serves_then _ (c.in_ok-scheduler.ensures.serves _) (serves_then _ (c.in_ok-field.ensures.serves _)
    (register_then 0 _ refl (serves_then _ (c.in_ok-store_field.ensures.serves _)
    (register_then 6 _ refl (serves_exit _ _ (rw scheduler at c.in_err-store_field-2.ensures.serves _) c.from_residual-in_err-store_field-2.ensures.1)))))

pub returns-in_err-field-2-clause-serves : goal.returns-in_err-field-2-clause-serves
unfolding switch
returns-in_err-field-2-clause-serves g c =
    let scheduler = ap (λ f. f 11) c.in_ok-store_field.ensures.regs ∙ c.in_ok-field.ensures.looks.regs 11 refl in
    serves_then _ (c.in_ok-scheduler.ensures.serves _) (serves_then _ (c.in_ok-field.ensures.serves _)
    (register_then 0 _ refl (serves_then _ (c.in_ok-store_field.ensures.serves _)
    (register_then 6 _ refl (serves_then _ (rw scheduler at c.in_ok-store_field-2.ensures.serves c.args.cpu.now)
    (serves_exit _ _ (rw c.in_ok-store_field-2.ensures.regs at c.in_err-field-2.ensures.serves c.args.cpu.now) c.from_residual-in_err-field-2.ensures.1))))))

pub returns-clause-serves : goal.returns-clause-serves
unfolding switch
returns-clause-serves g c =
    let ready = c.int.ensures.fit.ready c.in_ok-field-2.ensures.fit.ready in
    let context = (Looks-put _ _ 6 _ c.int.ensures.told).regs 12 refl in
    let scheduler = ap (λ f. f 11) c.in_ok-store_field.ensures.regs ∙ c.in_ok-field.ensures.looks.regs 11 refl in
    serves_then _ (c.in_ok-scheduler.ensures.serves _) (serves_then _ (c.in_ok-field.ensures.serves _)
    (register_then 0 _ refl (serves_then _ (c.in_ok-store_field.ensures.serves _)
    (register_then 6 _ refl (serves_then _ (rw scheduler at c.in_ok-store_field-2.ensures.serves c.args.cpu.now)
    (serves_then _ (rw c.in_ok-store_field-2.ensures.regs at c.in_ok-field-2.ensures.serves c.args.cpu.now)
    (serves_then _ (number_put 6 (pos 0) refl ready c.int.ensures.told)
    (numbers_then _ (serves_then _ (set_numbers_at _ refl (λ may. may) ready) (rw context at c.enter.ensures.serves))))))))))

pub returns-clause-others : goal.returns-clause-others
returns-clause-others g c = on_ok c.enter.result (λ kept r above low apart.
    kept r above (omega (arith, low)) ∙ (Looks-put _ _ 6 _ c.int.ensures.told).regs r (not_among 6 r apart) ∙ c.in_ok-field-2.ensures.looks.regs r (below_among 10 (12 ∷ []) r low refl) ∙ ap (λ f. f r) c.in_ok-store_field-2.ensures.regs ∙ ap (λ f. f r) c.in_ok-store_field.ensures.regs ∙ c.in_ok-field.ensures.looks.regs r (below_among 10 (10 ∷ []) r low refl) ∙ c.in_ok-scheduler.ensures.looks.regs r (below_among 10 (11 ∷ []) r low refl)) c.enter.ensures.others

pub returns-clause-none : goal.returns-clause-none
returns-clause-none g c = on_ok c.enter.result (λ kept. kept 6 (omega arith) (omega arith) ∙ put_value _ _ 6 _ c.int.ensures.told) c.enter.ensures.others
