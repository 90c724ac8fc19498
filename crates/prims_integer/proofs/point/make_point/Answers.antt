use Rattle.std.proofs.Common.{refl, ap, ◌∙◌}
use Rattle.object_memory.proofs.LooksLaws.{Looks-put}
use Rattle.object_memory.proofs.ShapeLaws.{small_number}
use Rattle.blue_model.specs.Arithmetic.{make_point}
use Rattle.contexts.proofs.ServesLaws.{serves_then, serves_stop}
use Rattle.contexts.proofs.Steps.{done_same}
use Rattle.contexts.proofs.ReadLaws.{exits_with}
use Rattle.prims_integer.proofs.PointLaws.{number_stored}
use Rattle.prims_integer.proofs.point.make_point.Goals as goal

pub returns-in_err-known-clause-serves : goal.returns-in_err-known-clause-serves
unfolding make_point
returns-in_err-known-clause-serves g c = λ cpu. exits_with _ _ c.from_residual.ensures.1 (serves_stop _ (c.in_err-known.ensures.serves cpu))

pub returns-in_err-make_pointers-clause-serves : goal.returns-in_err-make_pointers-clause-serves
unfolding make_point
returns-in_err-make_pointers-clause-serves g c = λ cpu. exits_with _ _ c.from_residual-in_err-make_pointers.ensures.1 (serves_then _ (c.in_ok-known.ensures.serves cpu) (serves_stop _ (c.in_err-make_pointers.ensures.serves cpu)))

pub returns-in_err-store_field-clause-serves : goal.returns-in_err-store_field-clause-serves
unfolding make_point
returns-in_err-store_field-clause-serves g c = λ cpu.
    let made = c.in_ok-make_pointers.ensures in
    exits_with _ _ c.from_residual-in_err-store_field.ensures.1 (serves_then _ (c.in_ok-known.ensures.serves cpu)
    (serves_then _ (made.serves cpu)
    (serves_stop _ (number_stored 0 _ _ _ refl (small_number _ c.requires.x) made.fit.ready (c.int.ensures.fit.ready made.fit.ready) c.int.ensures.told (c.in_err-store_field.ensures.serves cpu)))))

pub returns-in_err-store_field-2-clause-serves : goal.returns-in_err-store_field-2-clause-serves
unfolding make_point
returns-in_err-store_field-2-clause-serves g c = λ cpu.
    let made = c.in_ok-make_pointers.ensures in
    let first = c.in_ok-store_field.ensures in
    let point = ap (λ f. f 11) first.regs ∙ (Looks-put _ _ 10 _ c.int.ensures.told).regs 11 refl in
    exits_with _ _ c.from_residual-in_err-store_field-2.ensures.1 (serves_then _ (c.in_ok-known.ensures.serves cpu)
    (serves_then _ (made.serves cpu)
    (serves_then _ (number_stored 0 _ _ _ refl (small_number _ c.requires.x) made.fit.ready (c.int.ensures.fit.ready made.fit.ready) c.int.ensures.told (first.serves cpu))
    (serves_stop _ (number_stored 1 _ _ _ point (small_number _ c.requires.y) first.fit.ready (c.int-2.ensures.fit.ready first.fit.ready) c.int-2.ensures.told (c.in_err-store_field-2.ensures.serves cpu))))))

pub returns-clause-serves : goal.returns-clause-serves
unfolding make_point
returns-clause-serves g c = λ cpu.
    let made = c.in_ok-make_pointers.ensures in
    let first = c.in_ok-store_field.ensures in
    let second = c.in_ok-store_field-2.ensures in
    let point = ap (λ f. f 11) first.regs ∙ (Looks-put _ _ 10 _ c.int.ensures.told).regs 11 refl in
    serves_then _ (c.in_ok-known.ensures.serves cpu)
    (serves_then _ (made.serves cpu)
    (serves_then _ (number_stored 0 _ _ _ refl (small_number _ c.requires.x) made.fit.ready (c.int.ensures.fit.ready made.fit.ready) c.int.ensures.told (first.serves cpu))
    (serves_then _ (number_stored 1 _ _ _ point (small_number _ c.requires.y) first.fit.ready (c.int-2.ensures.fit.ready first.fit.ready) c.int-2.ensures.told (second.serves cpu))
    (done_same (ap (λ f. f 11) second.regs ∙ (Looks-put _ _ 10 _ c.int-2.ensures.told).regs 11 refl ∙ point) second.fit.ready))))
