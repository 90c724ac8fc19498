-- The numbers that were read are right, one after the other; the first word that isn't one is the one that is answered.
use Rattle.std.proofs.Common.{◌≡◌, ◌∙◌, ◌+◌, ◌++◌, List, ℕ}
use Rattle.std.proofs.lemmas.Result.{err_from_is_err_and}
use Rattle.loom_words.proofs.Rows.{entries_checks, refused-if, right-core, right-entries, right-room, room_checks, steps_checks}
use Rattle.loom_words.specs.Words.{Check, bad_from, number_checks, texts_of}
use Rattle.loom_words.proofs.words.numbers_of.Goals as goal
use Rattle.loom_words.proofs.words.numbers_of.Goals.{In_ok-core, In_ok-entries, In_ok-room}

at-entries : (c : In_ok-core) (checks : List Check) (all : List (List ℕ))
    → bad_from c.args.position (number_checks ++ checks) all (texts_of c.args.words.now) ≡ bad_from (c.args.position + 1) (entries_checks ++ checks) all (texts_of c.in_ok-core.words.now)
at-entries c checks all = right-core c.args.position c.in_ok-core.core checks all (texts_of c.args.words.now) _ c.in_ok-core.ensures.within c.in_ok-core.ensures.first

at-room : (c : In_ok-entries) (checks : List Check) (all : List (List ℕ))
    → bad_from (c.args.position + 1) (entries_checks ++ checks) all (texts_of c.in_ok-core.words.now) ≡ bad_from (c.args.position + 2) (room_checks ++ checks) all (texts_of c.in_ok-entries.words.now)
at-room c checks all = right-entries c.args.position c.in_ok-entries.entries checks all (texts_of c.in_ok-core.words.now) _ c.in_ok-entries.ensures.within c.in_ok-entries.ensures.first

at-steps : (c : In_ok-room) (checks : List Check) (all : List (List ℕ))
    → bad_from (c.args.position + 2) (room_checks ++ checks) all (texts_of c.in_ok-entries.words.now) ≡ bad_from (c.args.position + 3) (steps_checks ++ checks) all (texts_of c.in_ok-room.words.now)
at-steps c checks all = right-room c.args.position c.in_ok-room.room checks all (texts_of c.in_ok-entries.words.now) _ c.in_ok-room.ensures.within c.in_ok-room.ensures.first

pub returns-in_err-core-clause-bad : goal.returns-in_err-core-clause-bad
returns-in_err-core-clause-bad c = λ checks all.
    let p = err_from_is_err_and c.from_residual.result c.from_residual.ensures.1
    in let bad = c.in_err-core.ensures.bad (entries_checks ++ checks) all
    in refused-if _ _ c.args.position _ p bad.0 bad.1

pub returns-in_err-entries-clause-bad : goal.returns-in_err-entries-clause-bad
returns-in_err-entries-clause-bad c = λ checks all.
    let at = goal.at.returns-in_err-entries-clause-bad c
    in let p = err_from_is_err_and c.from_residual-in_err-entries.result c.from_residual-in_err-entries.ensures.1
    in let bad = c.in_err-entries.ensures.bad (room_checks ++ checks) all
    in refused-if _ _ (c.args.position + 1) _ p bad.0 (at-entries at.In_ok-core checks all ∙ bad.1)

pub returns-in_err-room-clause-bad : goal.returns-in_err-room-clause-bad
returns-in_err-room-clause-bad c = λ checks all.
    let at = goal.at.returns-in_err-room-clause-bad c
    in let p = err_from_is_err_and c.from_residual-in_err-room.result c.from_residual-in_err-room.ensures.1
    in let bad = c.in_err-room.ensures.bad (steps_checks ++ checks) all
    in refused-if _ _ (c.args.position + 2) _ p bad.0 (at-entries at.In_ok-core checks all ∙ at-room at.In_ok-entries checks all ∙ bad.1)

pub returns-in_err-steps-clause-bad : goal.returns-in_err-steps-clause-bad
returns-in_err-steps-clause-bad c = λ checks all.
    let at = goal.at.returns-in_err-steps-clause-bad c
    in let p = err_from_is_err_and c.from_residual-in_err-steps.result c.from_residual-in_err-steps.ensures.1
    in let bad = c.in_err-steps.ensures.bad checks all
    in refused-if _ _ (c.args.position + 3) _ p bad.0 (at-entries at.In_ok-core checks all ∙ at-room at.In_ok-entries checks all ∙ at-steps at.In_ok-room checks all ∙ bad.1)
