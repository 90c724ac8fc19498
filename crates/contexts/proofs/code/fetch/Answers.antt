use Rattle.std.proofs.Common.{refl}
use Rattle.blue_model.specs.Contexts.{fetch}
use Rattle.contexts.proofs.ServesLaws.{serves_then, serves_exit}
use Rattle.contexts.proofs.Steps.{register_then, numbers_then, set_numbers_at, done_serves}
use Rattle.contexts.proofs.code.fetch.Goals as goal

pub returns-in_err-byte-clause-serves : goal.returns-in_err-byte-clause-serves
unfolding fetch
returns-in_err-byte-clause-serves g c = numbers_then _ (register_then _ _ refl (serves_exit _ _ (c.in_err-byte.ensures.serves _ _ c.place_here-place.ensures) c.from_residual.ensures.1))

pub returns-clause-serves : goal.returns-clause-serves
unfolding fetch
returns-clause-serves g c =
    let ready = c.in_ok-byte.ensures.fit.ready in
    numbers_then _ (register_then _ _ refl (serves_then _ (c.in_ok-byte.ensures.serves _ _ c.place_here-place.ensures) (serves_then _ (set_numbers_at _ c.advance.ensures (λ may. may) ready) (done_serves ready))))
