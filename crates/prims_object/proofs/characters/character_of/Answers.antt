use Rattle.std.proofs.Common.{[], ◌∷◌}
use Rattle.object_memory.proofs.LooksLaws.{Looks-trans}
use Rattle.blue_model.specs.Elements.{character_of}
use Rattle.contexts.proofs.PeekLaws.{exits_found}
use Rattle.contexts.proofs.ServesLaws.{serves_then, serves_stop}
use Rattle.prims_object.proofs.TestLaws.{on_ok, looks_swapped}
use Rattle.prims_object.proofs.characters.character_of.Goals as goal

pub returns-in_err-known-clause-serves : goal.returns-in_err-known-clause-serves
unfolding character_of
returns-in_err-known-clause-serves g c = λ cpu. exits_found _ _ c.from_residual.ensures.1 (serves_stop _ (c.in_err-known.ensures.serves cpu))

pub returns-clause-serves : goal.returns-clause-serves
unfolding character_of
returns-clause-serves g c = λ cpu. serves_then _ (rw c.in_ok-known.ensures.name at (c.in_ok-known.ensures.serves cpu)) (rw (c.in_ok-known.ensures.name, c.from.ensures) at c.peek_field.ensures.serves cpu)

pub returns-clause-looks : goal.returns-clause-looks
returns-clause-looks g c =
    let table = c.in_ok-known.ensures in
    on_ok c.peek_field.result (λ last. looks_swapped 12 19 _ _ (Looks-trans (19 ∷ []) (12 ∷ []) _ _ _ table.fit.ready table.looks last)) c.peek_field.ensures.looks
