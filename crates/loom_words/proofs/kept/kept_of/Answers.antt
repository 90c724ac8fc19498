-- The words behind `guard` or `resume` that were read are that command's.
use Rattle.std.proofs.Common.{subst, sym}
use Rattle.loom_words.proofs.KeptRows.{asked-guard, asked-resume, guard-of_texts, resume-of_texts}
use Rattle.loom_words.specs.Command.{row_for}
use Rattle.loom_words.specs.Kept.{IsGuard, IsResume}
use Rattle.loom_words.specs.Words.{texts_of}
use Rattle.loom_words.proofs.kept.kept_of.Goals as goal

pub returns-in-Some-clause-kept : goal.returns-in-Some-clause-kept
returns-in-Some-clause-kept c =
    let g = c.in_ok-guarded_of.field-0
    in let is : IsGuard (texts_of c.args.words.now) (row_for g.command) g.vault.now
    = subst (λ ws. IsGuard ws (row_for g.command) g.vault.now) (sym c.in-Some.ensures.some) c.in_ok-guarded_of.ensures.row
    in let texts = guard-of_texts _ _ _ is
    in (asked-guard _ _ _ is, texts.0, texts.1, c.in_ok-guarded_of.ensures.limits)

pub returns-in-Some-behind-clause-kept : goal.returns-in-Some-behind-clause-kept
returns-in-Some-behind-clause-kept c =
    let g = c.in_ok-resumed_of.field-0
    in let is : IsResume (texts_of c.args.words.now) (row_for g.command) g.vault.now
    = subst (λ ws. IsResume ws (row_for g.command) g.vault.now) (sym c.in-Some-behind.ensures.some) c.in_ok-resumed_of.ensures.row
    in let texts = resume-of_texts _ _ _ is
    in (asked-resume _ _ _ is, texts.0, texts.1, c.in_ok-resumed_of.ensures.limits)
