-- The words behind `make` that were read are right, one after the other; the first that isn't is the one that is answered.
use Rattle.std.proofs.Common.{◌≡◌, ◌∙◌, ◌<◌, ℕ, List, [], ◌∷◌, length, decimal, sym, ap, arith}
use Rattle.std.proofs.lemmas.Bool.Decides.{nat_tests}
use Rattle.std.proofs.lemmas.Result.{err_from_is_err_and}
use Rattle.loom_words.proofs.Rows.{extra-word, made_checks, make_checks, refused-at, right-file, right-image, texts-none}
use Rattle.loom_words.specs.Words.{bad_from, texts_of}
use Rattle.loom_words.proofs.words.making_of.Goals as goal
use Rattle.loom_words.proofs.words.making_of.Goals.{In_ok-number, In_ok-file}

at-file : (c : In_ok-number) (all : List (List ℕ)) → bad_from 2 make_checks all (texts_of c.args.words.now) ≡ bad_from 3 made_checks all (texts_of c.in_ok-number.words.now)
at-file c all = right-image c.in_ok-number.number all (texts_of c.args.words.now) _ c.in_ok-number.ensures.within.1 c.in_ok-number.ensures.first

at-end : (c : In_ok-file) (all : List (List ℕ)) → bad_from 3 made_checks all (texts_of c.in_ok-number.words.now) ≡ bad_from 4 [] all (texts_of c.in_ok-file.words.now)
at-end c all = right-file c.in_ok-file.file.now all (texts_of c.in_ok-number.words.now) _ c.in_ok-file.ensures.first

pub returns-in_err-number-clause-bad : goal.returns-in_err-number-clause-bad
returns-in_err-number-clause-bad c = λ all.
    let p = err_from_is_err_and c.from_residual.result c.from_residual.ensures.1
    in let bad = c.in_err-number.ensures.bad made_checks all
    in refused-at _ _ 2 _ p bad.0 bad.1

pub returns-in_err-file-clause-bad : goal.returns-in_err-file-clause-bad
returns-in_err-file-clause-bad c = λ all.
    let at = goal.at.returns-in_err-file-clause-bad c
    in let p = err_from_is_err_and c.from_residual-in_err-file.result c.from_residual-in_err-file.ensures.1
    in let missing = c.in_err-file.ensures.missing
    in refused-at _ _ 3 _ p missing.0 (at-file at.In_ok-number all ∙ ap (λ ws. bad_from 3 made_checks all ws) missing.1)

pub returns-then-not-is_empty-clause-bad : goal.returns-then-not-is_empty-clause-bad
returns-then-not-is_empty-clause-bad c = λ all.
    let at = goal.at.returns-then-not-is_empty-clause-bad c
    in let some : 0 < length c.in_ok-file.words.now = grind (arith, nat_tests)
    in sym (at-file at.In_ok-number all ∙ at-end at.In_ok-file all ∙ extra-word 4 all c.in_ok-file.words.now some)

pub returns-clause-bad : goal.returns-clause-bad
returns-clause-bad c = λ all.
    let at = goal.at.returns-clause-bad c
    in let none : length c.in_ok-file.words.now ≡ 0 = grind (arith, nat_tests)
    in sym (at-file at.In_ok-number all ∙ at-end at.In_ok-file all ∙ ap (λ ws. bad_from 4 [] all ws) (texts-none c.in_ok-file.words.now none))

pub returns-clause-words : goal.returns-clause-words
returns-clause-words c =
    let none : length c.in_ok-file.words.now ≡ 0 = grind (arith, nat_tests)
    in c.in_ok-number.ensures.first ∙ ap (λ ws. decimal c.in_ok-number.number ∷ ws) (c.in_ok-file.ensures.first ∙ ap (λ ws. c.in_ok-file.file.now ∷ ws) (texts-none c.in_ok-file.words.now none))
