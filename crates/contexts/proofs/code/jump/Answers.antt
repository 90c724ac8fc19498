use Rattle.std.proofs.Common.{◌≡◌, ◌+ℤ◌, Some, refl}
use Rattle.blue_model.specs.Contexts.{jump}
use Rattle.contexts.specs.Places.{code_place}
use Rattle.contexts.proofs.CodeLaws.{kept, place_is}
use Rattle.contexts.proofs.ServesLaws.{serves_then, serves_exit}
use Rattle.contexts.proofs.Steps.{register_then, numbers_then, set_numbers_at}
use Rattle.contexts.proofs.code.jump.Goals as goal

pub returns-in_err-byte_of-clause-serves : goal.returns-in_err-byte_of-clause-serves
unfolding jump
returns-in_err-byte_of-clause-serves g c =
    let place = rw (kept c.args.distance c.ranges.distance.sfits) at c.place_from-place.ensures.place in
    numbers_then _ (register_then _ _ refl (serves_exit _ _ (c.in_err-byte_of.ensures.serves _ _ place) c.from_residual.ensures.1))

pub returns-clause-serves : goal.returns-clause-serves
unfolding jump
returns-clause-serves g c =
    let ready = c.in_ok-byte_of.ensures.fit.ready in
    let place = rw (kept c.args.distance c.ranges.distance.sfits) at c.place_from-place.ensures.place in
    let here : Some c.in-Some.place ≡ code_place (c.args.cpu.now.ip +ℤ c.args.distance) = rw (kept c.args.distance c.ranges.distance.sfits) at c.in-Some.ensures.place in
    numbers_then _ (register_then _ _ refl (serves_then _ (c.in_ok-byte_of.ensures.serves _ _ place) (set_numbers_at _ (rw (place_is (c.args.cpu.now.ip +ℤ c.args.distance) c.in-Some.place here) at c.go_to.ensures) (λ may. may) ready)))
