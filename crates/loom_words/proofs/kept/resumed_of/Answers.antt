-- The words behind `resume` that were read are right, one after the other; the first that isn't is the one that is answered.
use Rattle.std.proofs.Common.{◌≡◌, ◌∙◌, ◌<◌, List, ℕ, [], ◌∷◌, length, codes, refl, sym, arith}
use Rattle.std.proofs.lemmas.Bool.Decides.{nat_tests}
use Rattle.std.proofs.lemmas.Result.{err_from_is_err_and}
use Rattle.loom_words.proofs.KeptRows.{BeginsVault, right-vault}
use Rattle.loom_words.proofs.Rows.{BeginsNumbers, end-of_words, extra-word, refused-at, right-numbers}
use Rattle.loom_words.specs.Kept.{resume_checks}
use Rattle.loom_words.specs.Words.{bad_from, number_checks, texts_of}
use Rattle.loom_words.proofs.kept.resumed_of.Goals as goal
use Rattle.loom_words.proofs.kept.resumed_of.Goals.{In_ok-files, In_ok-numbers}

abbrev all-of : List (List ℕ) → List (List ℕ)
all-of words = codes "resume" ∷ words

files-read : (c : In_ok-files) → BeginsVault (texts_of c.args.words.now) c.in_ok-files.files.vault.now c.in_ok-files.files.events.now c.in_ok-files.files.work.now c.in_ok-files.files.saved.now c.in_ok-files.files.display.now (texts_of c.in_ok-files.words.now)
files-read c =
    let found = c.in_ok-files.ensures
    in record { is = found.first; work_apart = found.work_apart; display_apart = found.display_apart; vault_apart = found.vault_apart }

numbers-read : (c : In_ok-numbers) → BeginsNumbers (texts_of c.in_ok-files.words.now) c.in_ok-numbers.numbers.core c.in_ok-numbers.numbers.entries c.in_ok-numbers.numbers.room c.in_ok-numbers.numbers.steps (texts_of c.in_ok-numbers.words.now)
numbers-read c =
    let found = c.in_ok-numbers.ensures
    in record { is = found.first; core_within = found.core; entries_within = found.entries; room_within = found.room; steps_within = found.steps }

at-numbers : (c : In_ok-files) → bad_from 2 resume_checks (all-of (texts_of c.args.words.now)) (texts_of c.args.words.now) ≡ bad_from 7 number_checks (all-of (texts_of c.args.words.now)) (texts_of c.in_ok-files.words.now)
at-numbers c = right-vault number_checks (codes "resume") _ _ _ _ _ _ _ (files-read c)

at-end : (c : In_ok-numbers) → bad_from 7 number_checks (all-of (texts_of c.args.words.now)) (texts_of c.in_ok-files.words.now) ≡ bad_from 11 [] (all-of (texts_of c.args.words.now)) (texts_of c.in_ok-numbers.words.now)
at-end c = right-numbers 7 [] (all-of (texts_of c.args.words.now)) _ _ _ _ _ _ (numbers-read c)

pub returns-in_err-files-clause-bad : goal.returns-in_err-files-clause-bad
returns-in_err-files-clause-bad c =
    let p = err_from_is_err_and c.from_residual.result c.from_residual.ensures.1
    in refused-at _ _ _ _ p refl (c.in_err-files.ensures.bad (codes "resume") number_checks)

pub returns-in_err-numbers-clause-bad : goal.returns-in_err-numbers-clause-bad
returns-in_err-numbers-clause-bad c =
    let at = goal.at.returns-in_err-numbers-clause-bad c
    in let p = err_from_is_err_and c.from_residual-in_err-numbers.result c.from_residual-in_err-numbers.ensures.1
    in refused-at _ _ _ _ p refl (at-numbers at.In_ok-files ∙ c.in_err-numbers.ensures.bad [] (all-of (texts_of c.args.words.now)))

pub returns-then-not-is_empty-clause-bad : goal.returns-then-not-is_empty-clause-bad
returns-then-not-is_empty-clause-bad c =
    let at = goal.at.returns-then-not-is_empty-clause-bad c
    in let some : 0 < length c.in_ok-numbers.words.now = grind (arith, nat_tests)
    in sym (at-numbers at.In_ok-files ∙ at-end at.In_ok-numbers ∙ extra-word 11 (all-of (texts_of c.args.words.now)) c.in_ok-numbers.words.now some)

pub returns-clause-bad : goal.returns-clause-bad
returns-clause-bad c =
    let at = goal.at.returns-clause-bad c
    in let none : length c.in_ok-numbers.words.now ≡ 0 = grind (arith, nat_tests)
    in sym (at-numbers at.In_ok-files ∙ at-end at.In_ok-numbers ∙ end-of_words 11 (all-of (texts_of c.args.words.now)) c.in_ok-numbers.words.now none)
