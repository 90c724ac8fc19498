-- The words behind `trace` that were read are right, one after the other; the first that isn't is the one that is answered.
use Rattle.std.proofs.Common.{◌≡◌, ◌∙◌, ◌<◌, List, ℕ, [], ◌∷◌, length, codes, refl, sym, arith}
use Rattle.std.proofs.lemmas.Bool.Decides.{nat_tests}
use Rattle.std.proofs.lemmas.Result.{err_from_is_err_and}
use Rattle.loom_words.proofs.Rows.{BeginsNumbers, BeginsTrace, end-of_words, extra-word, refused-at, right-numbers, right-trace}
use Rattle.loom_words.specs.Words.{bad_from, number_checks, texts_of, trace_checks}
use Rattle.loom_words.proofs.words.tracing_of.Goals as goal
use Rattle.loom_words.proofs.words.tracing_of.Goals.{In_ok-files, In_ok-numbers}

abbrev all-of : List (List ℕ) → List (List ℕ)
all-of words = codes "trace" ∷ words

files-read : (c : In_ok-files) → BeginsTrace (texts_of c.args.words.now) c.in_ok-files.files.image.now c.in_ok-files.files.events.now c.in_ok-files.files.work.now c.in_ok-files.files.text.now (texts_of c.in_ok-files.words.now)
files-read c = record { is = c.in_ok-files.ensures.first; work_apart = c.in_ok-files.ensures.work_apart; text_apart = c.in_ok-files.ensures.text_apart }

numbers-read : (c : In_ok-numbers) → BeginsNumbers (texts_of c.in_ok-files.words.now) c.in_ok-numbers.numbers.core c.in_ok-numbers.numbers.entries c.in_ok-numbers.numbers.room c.in_ok-numbers.numbers.steps (texts_of c.in_ok-numbers.words.now)
numbers-read c =
    let found = c.in_ok-numbers.ensures
    in record { is = found.first; core_within = found.core; entries_within = found.entries; room_within = found.room; steps_within = found.steps }

at-numbers : (c : In_ok-files) → bad_from 2 trace_checks (all-of (texts_of c.args.words.now)) (texts_of c.args.words.now) ≡ bad_from 6 number_checks (all-of (texts_of c.args.words.now)) (texts_of c.in_ok-files.words.now)
at-numbers c = right-trace (codes "trace") _ _ _ _ _ _ (files-read c)

at-end : (c : In_ok-numbers) → bad_from 6 number_checks (all-of (texts_of c.args.words.now)) (texts_of c.in_ok-files.words.now) ≡ bad_from 10 [] (all-of (texts_of c.args.words.now)) (texts_of c.in_ok-numbers.words.now)
at-end c = right-numbers 6 [] (all-of (texts_of c.args.words.now)) _ _ _ _ _ _ (numbers-read c)

pub returns-in_err-numbers-clause-bad : goal.returns-in_err-numbers-clause-bad
returns-in_err-numbers-clause-bad c =
    let at = goal.at.returns-in_err-numbers-clause-bad c
    in let p = err_from_is_err_and c.from_residual-in_err-numbers.result c.from_residual-in_err-numbers.ensures.1
    in refused-at _ _ _ _ p refl (at-numbers at.In_ok-files ∙ c.in_err-numbers.ensures.bad [] (all-of (texts_of c.args.words.now)))

pub returns-then-not-is_empty-clause-bad : goal.returns-then-not-is_empty-clause-bad
returns-then-not-is_empty-clause-bad c =
    let at = goal.at.returns-then-not-is_empty-clause-bad c
    in let some : 0 < length c.in_ok-numbers.words.now = grind (arith, nat_tests)
    in sym (at-numbers at.In_ok-files ∙ at-end at.In_ok-numbers ∙ extra-word 10 (all-of (texts_of c.args.words.now)) c.in_ok-numbers.words.now some)

pub returns-clause-bad : goal.returns-clause-bad
returns-clause-bad c =
    let at = goal.at.returns-clause-bad c
    in let none : length c.in_ok-numbers.words.now ≡ 0 = grind (arith, nat_tests)
    in sym (at-numbers at.In_ok-files ∙ at-end at.In_ok-numbers ∙ end-of_words 10 (all-of (texts_of c.args.words.now)) c.in_ok-numbers.words.now none)
