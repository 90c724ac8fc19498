-- A word behind the files of a conversion is the first that isn't right.
use Rattle.std.proofs.Common.{rules, ◌≢◌, ◌∙◌, ◌<◌, ◌∷◌, List, ℕ, length, sym, ap, arith}
use Rattle.std.proofs.lemmas.Bool.Decides.{nat_tests}
use Rattle.loom_words.proofs.Rows.{extra-word, right-paths}
use Rattle.loom_words.specs.Words.{texts_of}
use Rattle.loom_words.proofs.words.conversion_of.Goals as goal

pub returns-then-not-is_empty-clause-bad : goal.returns-then-not-is_empty-clause-bad
returns-then-not-is_empty-clause-bad c = λ command.
    let source = c.in_ok-source.source.now
    in let work = c.in_ok-work.work.now
    in let target = c.in_ok-target.target.now
    in let from_source : work ≢ source = search rules
    in let from_target : work ≢ target = search rules
    in let some : 0 < length c.in_ok-target.words.now = grind (arith, nat_tests)
    in let is = c.in_ok-source.ensures.first ∙ ap (λ (ws : List (List ℕ)). source ∷ ws) (c.in_ok-work.ensures.first ∙ ap (λ (ws : List (List ℕ)). work ∷ ws) c.in_ok-target.ensures.first)
    in sym (right-paths command source work target (texts_of c.args.words.now) (texts_of c.in_ok-target.words.now) is from_source from_target ∙ extra-word 5 (command ∷ texts_of c.args.words.now) c.in_ok-target.words.now some)
