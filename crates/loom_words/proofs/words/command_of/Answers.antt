-- The words that were read are right, one after the other; the first that isn't is the one that is answered.
use Rattle.std.proofs.Common.{◌≡◌, ◌∙◌, ◌<◌, [], ◌∷◌, List, ℕ, length, codes, refl, sym, subst, arith}
use Rattle.std.proofs.lemmas.Bool.Decides.{nat_tests}
use Rattle.std.proofs.lemmas.Result.{err_from_is_err_and}
use Rattle.loom_words.proofs.Rows.{BeginsFiles, BeginsNumbers, extra-word, refused-at, right-files, right-numbers, right-run, row-of_parts, row-of_texts, row-to_words, texts-none}
use Rattle.loom_words.specs.Words.{IsRow, Row, bad_from, bad_in, number_checks, run_checks, run_row, texts_of}
use Rattle.loom_words.proofs.words.command_of.Goals as goal
use Rattle.loom_words.proofs.words.command_of.Goals.{In-Some, In_ok-files, In_ok-numbers}

abbrev all-of : List (List ℕ) → List (List ℕ)
all-of words = codes "run" ∷ words

files-read : (c : In_ok-files) → BeginsFiles (texts_of c.in-Some.words.now) c.in_ok-files.files.image.now c.in_ok-files.files.events.now c.in_ok-files.files.work.now c.in_ok-files.files.saved.now c.in_ok-files.files.display.now (texts_of c.in_ok-files.words.now)
files-read c = record { is = c.in_ok-files.ensures.first; work_apart = c.in_ok-files.ensures.work_apart; display_apart = c.in_ok-files.ensures.display_apart }

numbers-read : (c : In_ok-numbers) → BeginsNumbers (texts_of c.in_ok-files.words.now) c.in_ok-numbers.numbers.core c.in_ok-numbers.numbers.entries c.in_ok-numbers.numbers.room c.in_ok-numbers.numbers.steps (texts_of c.in_ok-numbers.words.now)
numbers-read c =
    let found = c.in_ok-numbers.ensures
    in record { is = found.first; core_within = found.core; entries_within = found.entries; room_within = found.room; steps_within = found.steps }

at-files : (c : In-Some) → bad_in run_row (texts_of c.args.words.now) ≡ bad_from 2 run_checks (all-of (texts_of c.in-Some.words.now)) (texts_of c.in-Some.words.now)
at-files c = right-run _ _ c.in-Some.ensures.some

at-numbers : (c : In_ok-files) → bad_from 2 run_checks (all-of (texts_of c.in-Some.words.now)) (texts_of c.in-Some.words.now) ≡ bad_from 7 number_checks (all-of (texts_of c.in-Some.words.now)) (texts_of c.in_ok-files.words.now)
at-numbers c = right-files number_checks (codes "run") _ _ _ _ _ _ _ (files-read c)

at-end : (c : In_ok-numbers) → bad_from 7 number_checks (all-of (texts_of c.in-Some.words.now)) (texts_of c.in_ok-files.words.now) ≡ bad_from 11 [] (all-of (texts_of c.in-Some.words.now)) (texts_of c.in_ok-numbers.words.now)
at-end c = right-numbers 7 [] (all-of (texts_of c.in-Some.words.now)) _ _ _ _ _ _ (numbers-read c)

pub returns-in_err-files-clause-bad : goal.returns-in_err-files-clause-bad
returns-in_err-files-clause-bad c =
    let at = goal.at.returns-in_err-files-clause-bad c
    in let p = err_from_is_err_and c.from_residual.result c.from_residual.ensures.1
    in refused-at _ _ _ _ p refl (at-files at.In-Some ∙ c.in_err-files.ensures.bad (codes "run") number_checks)

pub returns-in_err-numbers-clause-bad : goal.returns-in_err-numbers-clause-bad
returns-in_err-numbers-clause-bad c =
    let at = goal.at.returns-in_err-numbers-clause-bad c
    in let p = err_from_is_err_and c.from_residual-in_err-numbers.result c.from_residual-in_err-numbers.ensures.1
    in refused-at _ _ _ _ p refl (at-files at.In-Some ∙ at-numbers at.In_ok-files ∙ c.in_err-numbers.ensures.bad [] (all-of (texts_of c.in-Some.words.now)))

pub returns-then-not-is_empty-clause-bad : goal.returns-then-not-is_empty-clause-bad
returns-then-not-is_empty-clause-bad c =
    let at = goal.at.returns-then-not-is_empty-clause-bad c
    in let some : 0 < length c.in_ok-numbers.words.now = grind (arith, nat_tests)
    in sym (at-files at.In-Some ∙ at-numbers at.In_ok-files ∙ at-end at.In_ok-numbers ∙ extra-word 11 (all-of (texts_of c.in-Some.words.now)) c.in_ok-numbers.words.now some)

abbrev row-read : In_ok-numbers → Row
row-read c = record {
  image = c.in_ok-files.files.image.now;
  events = c.in_ok-files.files.events.now;
  work = c.in_ok-files.files.work.now;
  saved = c.in_ok-files.files.saved.now;
  display = c.in_ok-files.files.display.now;
  core = c.in_ok-numbers.numbers.core;
  entries = c.in_ok-numbers.numbers.entries;
  room = c.in_ok-numbers.numbers.room;
  steps = c.in_ok-numbers.numbers.steps;
}

is-row : (c : In_ok-numbers) → length c.in_ok-numbers.words.now ≡ 0 → IsRow (texts_of c.args.words.now) (row-read c)
is-row c none =
    let found = c.in_ok-files.ensures
    in let row = row-read c
    in let files : BeginsFiles (texts_of c.in-Some.words.now) row.image row.events row.work row.saved row.display (texts_of c.in_ok-files.words.now)
    = record { is = found.first; work_apart = found.work_apart; display_apart = found.display_apart }
    in let numbers : BeginsNumbers (texts_of c.in_ok-files.words.now) row.core row.entries row.room row.steps []
    = subst (λ ws. BeginsNumbers (texts_of c.in_ok-files.words.now) row.core row.entries row.room row.steps ws) (texts-none c.in_ok-numbers.words.now none) (numbers-read c)
    in row-of_parts _ _ _ _ _ _ _ _ _ _ _ _ c.in-Some.ensures.some files numbers

pub returns-clause-bad : goal.returns-clause-bad
returns-clause-bad c =
    let at = goal.at.returns-clause-bad c
    in let none : length c.in_ok-numbers.words.now ≡ 0 = grind (arith, nat_tests)
    in sym (row-to_words _ _ (is-row at.In_ok-numbers none))

pub returns-clause-row : goal.returns-clause-row
returns-clause-row c =
    let at = goal.at.returns-clause-row c
    in let none : length c.in_ok-numbers.words.now ≡ 0 = grind (arith, nat_tests)
    in row-of_texts _ _ (is-row at.In_ok-numbers none)
