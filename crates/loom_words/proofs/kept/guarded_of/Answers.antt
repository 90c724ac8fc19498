-- The words behind `guard` that were read are right, one after the other; the first that isn't is the one that is answered.
use Rattle.std.specs.Prelude.{not}
use Rattle.std.proofs.Common.{◌≡◌, ◌∙◌, ◌<◌, List, ℕ, [], ◌∷◌, ◌++◌, true, false, length, codes, refl, sym, ap, arith}
use Rattle.std.proofs.lemmas.Bool.Decides.{nat_tests}
use Rattle.std.proofs.lemmas.Result.{err_from_is_err_and}
use Rattle.loom_words.proofs.KeptRows.{apart-told, apart_check, apart_checks, guard-of_parts, wrong-word}
use Rattle.loom_words.proofs.Rows.{BeginsFiles, BeginsNumbers, end-of_words, extra-word, refused-at, right-files, right-numbers, right-word, texts-none}
use Rattle.loom_words.specs.Kept.{guard_checks}
use Rattle.loom_words.specs.Words.{bad_from, number_checks, texts_of}
use Rattle.loom_words.proofs.kept.guarded_of.Goals as goal
use Rattle.loom_words.proofs.kept.guarded_of.Goals.{In_ok-files, In_ok-numbers}

abbrev all-of : List (List ℕ) → List (List ℕ)
all-of words = codes "guard" ∷ words

files-read : (c : In_ok-files) → BeginsFiles (texts_of c.args.words.now) c.in_ok-files.files.image.now c.in_ok-files.files.events.now c.in_ok-files.files.work.now c.in_ok-files.files.saved.now c.in_ok-files.files.display.now (texts_of c.in_ok-files.words.now)
files-read c = record { is = c.in_ok-files.ensures.first; work_apart = c.in_ok-files.ensures.work_apart; display_apart = c.in_ok-files.ensures.display_apart }

numbers-read : (c : In_ok-numbers) → BeginsNumbers (texts_of c.in_ok-files.words.now) c.in_ok-numbers.numbers.core c.in_ok-numbers.numbers.entries c.in_ok-numbers.numbers.room c.in_ok-numbers.numbers.steps (texts_of c.in_ok-numbers.words.now)
numbers-read c =
    let found = c.in_ok-numbers.ensures
    in record { is = found.first; core_within = found.core; entries_within = found.entries; room_within = found.room; steps_within = found.steps }

at-numbers : (c : In_ok-files) → bad_from 2 guard_checks (all-of (texts_of c.args.words.now)) (texts_of c.args.words.now) ≡ bad_from 7 (number_checks ++ apart_checks) (all-of (texts_of c.args.words.now)) (texts_of c.in_ok-files.words.now)
at-numbers c = right-files (number_checks ++ apart_checks) (codes "guard") _ _ _ _ _ _ _ (files-read c)

at-vault : (c : In_ok-numbers) → bad_from 7 (number_checks ++ apart_checks) (all-of (texts_of c.args.words.now)) (texts_of c.in_ok-files.words.now) ≡ bad_from 11 apart_checks (all-of (texts_of c.args.words.now)) (texts_of c.in_ok-numbers.words.now)
at-vault c = right-numbers 7 apart_checks (all-of (texts_of c.args.words.now)) _ _ _ _ _ _ (numbers-read c)

pub returns-in_err-files-clause-bad : goal.returns-in_err-files-clause-bad
returns-in_err-files-clause-bad c =
    let p = err_from_is_err_and c.from_residual.result c.from_residual.ensures.1
    in refused-at _ _ _ _ p refl (c.in_err-files.ensures.bad (codes "guard") (number_checks ++ apart_checks))

pub returns-in_err-numbers-clause-bad : goal.returns-in_err-numbers-clause-bad
returns-in_err-numbers-clause-bad c =
    let at = goal.at.returns-in_err-numbers-clause-bad c
    in let p = err_from_is_err_and c.from_residual-in_err-numbers.result c.from_residual-in_err-numbers.ensures.1
    in refused-at _ _ _ _ p refl (at-numbers at.In_ok-files ∙ c.in_err-numbers.ensures.bad apart_checks (all-of (texts_of c.args.words.now)))

pub returns-in_err-vault-clause-bad : goal.returns-in_err-vault-clause-bad
returns-in_err-vault-clause-bad c =
    let at = goal.at.returns-in_err-vault-clause-bad c
    in let p = err_from_is_err_and c.from_residual-in_err-vault.result c.from_residual-in_err-vault.ensures.1
    in let missing = c.in_err-vault.ensures.missing
    in refused-at _ _ 11 _ p missing.0 (at-numbers at.In_ok-files ∙ at-vault at.In_ok-numbers ∙ ap (λ ws. bad_from 11 apart_checks (all-of (texts_of c.args.words.now)) ws) missing.1)

pub returns-then-is_file-clause-bad : goal.returns-then-is_file-clause-bad
returns-then-is_file-clause-bad c =
    let at = goal.at.returns-then-is_file-clause-bad c
    in let texts = texts_of c.args.words.now
    in let wrong : apart_check (all-of texts) c.in_ok-vault.vault.now ≡ false
    = apart-told (codes "guard") texts _ _ _ _ _ _ _ false c.in_ok-files.ensures.first (c.is_file.ensures (codes "guard") (texts_of c.in_ok-files.words.now) ∙ ap not c.if-is_file.true)
    in sym (at-numbers at.In_ok-files ∙ at-vault at.In_ok-numbers ∙ wrong-word 11 apart_check [] (all-of texts) c.in_ok-vault.vault.now _ _ c.in_ok-vault.ensures.first wrong)

pub returns-then-not-is_empty-clause-bad : goal.returns-then-not-is_empty-clause-bad
returns-then-not-is_empty-clause-bad c =
    let at = goal.at.returns-then-not-is_empty-clause-bad c
    in let texts = texts_of c.args.words.now
    in let some : 0 < length c.in_ok-vault.words.now = grind (arith, nat_tests)
    in let right : apart_check (all-of texts) c.in_ok-vault.vault.now ≡ true
    = apart-told (codes "guard") texts _ _ _ _ _ _ _ true c.in_ok-files.ensures.first (c.is_file.ensures (codes "guard") (texts_of c.in_ok-files.words.now) ∙ ap not c.if-is_file.false)
    in sym (at-numbers at.In_ok-files ∙ at-vault at.In_ok-numbers ∙ right-word 11 apart_check [] (all-of texts) c.in_ok-vault.vault.now _ _ c.in_ok-vault.ensures.first right
    ∙ extra-word 12 (all-of texts) c.in_ok-vault.words.now some)

pub returns-clause-bad : goal.returns-clause-bad
returns-clause-bad c =
    let at = goal.at.returns-clause-bad c
    in let texts = texts_of c.args.words.now
    in let none : length c.in_ok-vault.words.now ≡ 0 = grind (arith, nat_tests)
    in let right : apart_check (all-of texts) c.in_ok-vault.vault.now ≡ true
    = apart-told (codes "guard") texts _ _ _ _ _ _ _ true c.in_ok-files.ensures.first (c.is_file.ensures (codes "guard") (texts_of c.in_ok-files.words.now) ∙ ap not c.if-is_file.false)
    in sym (at-numbers at.In_ok-files ∙ at-vault at.In_ok-numbers ∙ right-word 11 apart_check [] (all-of texts) c.in_ok-vault.vault.now _ _ c.in_ok-vault.ensures.first right
    ∙ end-of_words 12 (all-of texts) c.in_ok-vault.words.now none)

pub returns-clause-row : goal.returns-clause-row
returns-clause-row c =
    let at = goal.at.returns-clause-row c
    in let texts = texts_of c.args.words.now
    in let none : length c.in_ok-vault.words.now ≡ 0 = grind (arith, nat_tests)
    in let right : apart_check (all-of texts) c.in_ok-vault.vault.now ≡ true
    = apart-told (codes "guard") texts _ _ _ _ _ _ _ true c.in_ok-files.ensures.first (c.is_file.ensures (codes "guard") (texts_of c.in_ok-files.words.now) ∙ ap not c.if-is_file.false)
    in let last = c.in_ok-vault.ensures.first ∙ ap (λ ws. c.in_ok-vault.vault.now ∷ ws) (texts-none c.in_ok-vault.words.now none)
    in guard-of_parts (all-of texts) texts _ _ _ _ _ _ _ _ _ _ _ _ refl (files-read at.In_ok-files) (numbers-read at.In_ok-numbers) last right
