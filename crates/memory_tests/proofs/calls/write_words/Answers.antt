use Rattle.std.specs.Prelude.{◌<◌, ◌^◌}
use Rattle.std.proofs.Common.{[], ◌∷◌}
use Rattle.std.proofs.lemmas.List.Elements.{All-cons, All-nil}
use Rattle.object_memory.proofs.Callers.{may_set_words}
use Rattle.object_memory.proofs.ShapeLaws.{has_passed}
use Rattle.memory_tests.proofs.calls.write_words.Goals as goal

pub write_words-requires-clause-may : goal.write_words-requires-clause-may
write_words-requires-clause-may g c =
    may_set_words _ _ 2 (c.args.first ∷ (c.args.second ∷ [])) (has_passed c.in_ok-has_words.ensures.words.after c.if-not-branch.false)
    (All-cons (λ w. w < 2 ^ 16) c.args.first (c.args.second ∷ []) c.ranges.first.fits
    (All-cons (λ w. w < 2 ^ 16) c.args.second [] c.ranges.second.fits (All-nil (λ w. w < 2 ^ 16))))
