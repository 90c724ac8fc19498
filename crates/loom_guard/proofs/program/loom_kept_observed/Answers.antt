-- The line is that of the answer of a command.
use Rattle.std.proofs.Common.{ℕ, List, Some, sym, ◌∙◌, ap, subst}
use Rattle.loom_words.specs.Kept.{IsKept, vault_of}
use Rattle.loom_words.specs.Words.{Row, error_of, texts_of}
use Rattle.loom_words.specs.Command.{row_for}
use Rattle.loom_words.specs.declared.kept.Kept.{Kept}
use Rattle.loom_run.specs.Meanings.{meanings}
use Rattle.loom_guard.specs.Steps.{KeptRunEnds}
use Rattle.loom_guard.specs.Vaults.{vault_meanings}
use Rattle.loom_guard.specs.Ways.{Guarding, Resuming}
use Rattle.loom_guard.proofs.HeadlineLaws.{else-headline, guarded-headline, resumed-headline}
use Rattle.loom_guard.proofs.LastLine.{kept-other, kept-told, kept-usage}
use Rattle.loom_guard.proofs.program.loom_kept_observed.Goals as goal

pub returns-in-Ok-Some-Guard : goal.returns-in-Ok-Some-Guard
returns-in-Ok-Some-Guard g c =
    let tells = g.H.Host.tells in
    let told = g.V.Vault.tells in
    let before = meanings g.H.Host c.args.host.now in
    let mid = meanings g.H.Host c.guard-status.new.host in
    let old = vault_meanings g.V.Vault c.args.vault.now in
    let new = vault_meanings g.V.Vault c.guard-status.new.vault in
    let words = texts_of c.args.words.now in
    let status = c.guard-status.result in
    let kept = subst (λ (k : Kept). IsKept words (Some k)) c.in-Ok-Some-Guard.field-0-0-is (subst (IsKept words) c.in-Ok-Some-Guard.field-0-is c.in-Ok-Some-Guard.ensures.kept) in
    let now = meanings g.H.Host c.tell.new.host in
    let promise = kept-told Guarding tells told before mid (meanings g.H.Host c.tell.new.host) old new words status c.tell.result kept.0 (sym c.kept_of.ensures.bad ∙ ap error_of c.in-Ok-Some-Guard.is)
    (subst (λ (row : Row). KeptRunEnds Guarding tells told before mid old new row (vault_of words) status) kept.1
    (subst (λ (vault : List ℕ). KeptRunEnds Guarding tells told before mid old new (row_for c.in-Ok-Some-Guard.guarded.command) vault status) kept.2 c.guard-status.ensures.ends))
    c.tell.ensures.others c.tell.ensures.told in
    record {
      promise = promise;
      headline = else-headline tells told before now old new words c.tell.result promise;
      guarded = λ tell image asks. guarded-headline tells told before now old new words tell image asks c.tell.result promise;
      resumed = λ tell telling asks. resumed-headline tells told before now old new words tell telling asks c.tell.result promise;
    }

pub returns-in-Ok-Some-Resume : goal.returns-in-Ok-Some-Resume
returns-in-Ok-Some-Resume g c =
    let tells = g.H.Host.tells in
    let told = g.V.Vault.tells in
    let before = meanings g.H.Host c.args.host.now in
    let mid = meanings g.H.Host c.resume-status.new.host in
    let old = vault_meanings g.V.Vault c.args.vault.now in
    let new = vault_meanings g.V.Vault c.resume-status.new.vault in
    let words = texts_of c.args.words.now in
    let status = c.resume-status.result in
    let kept = subst (λ (k : Kept). IsKept words (Some k)) c.in-Ok-Some-Resume.field-0-0-is (subst (IsKept words) c.in-Ok-Some-Resume.field-0-is c.in-Ok-Some-Resume.ensures.kept) in
    let now = meanings g.H.Host c.tell-in-Ok-Some-Resume.new.host in
    let promise = kept-told Resuming tells told before mid (meanings g.H.Host c.tell-in-Ok-Some-Resume.new.host) old new words status c.tell-in-Ok-Some-Resume.result kept.0 (sym c.kept_of.ensures.bad ∙ ap error_of c.in-Ok-Some-Resume.is)
    (subst (λ (row : Row). KeptRunEnds Resuming tells told before mid old new row (vault_of words) status) kept.1
    (subst (λ (vault : List ℕ). KeptRunEnds Resuming tells told before mid old new (row_for c.in-Ok-Some-Resume.guarded.command) vault status) kept.2 c.resume-status.ensures.ends))
    c.tell-in-Ok-Some-Resume.ensures.others c.tell-in-Ok-Some-Resume.ensures.told in
    record {
      promise = promise;
      headline = else-headline tells told before now old new words c.tell-in-Ok-Some-Resume.result promise;
      guarded = λ tell image asks. guarded-headline tells told before now old new words tell image asks c.tell-in-Ok-Some-Resume.result promise;
      resumed = λ tell telling asks. resumed-headline tells told before now old new words tell telling asks c.tell-in-Ok-Some-Resume.result promise;
    }

pub returns-in-Err : goal.returns-in-Err
returns-in-Err g c =
    let tells = g.H.Host.tells in
    let told = g.V.Vault.tells in
    let before = meanings g.H.Host c.args.host.now in
    let now = meanings g.H.Host c.tell-in-Err.new.host in
    let old = vault_meanings g.V.Vault c.args.vault.now in
    let words = texts_of c.args.words.now in
    let promise = kept-usage tells told before now old words c.in-Err.word c.tell-in-Err.result (sym (ap error_of c.in-Err.is) ∙ c.kept_of.ensures.bad) c.tell-in-Err.ensures.told c.tell-in-Err.ensures.others in
    record {
      promise = promise;
      headline = else-headline tells told before now old old words c.tell-in-Err.result promise;
      guarded = λ tell image asks. guarded-headline tells told before now old old words tell image asks c.tell-in-Err.result promise;
      resumed = λ tell telling asks. resumed-headline tells told before now old old words tell telling asks c.tell-in-Err.result promise;
    }

pub returns-in-Ok-None : goal.returns-in-Ok-None
returns-in-Ok-None g c =
    let tells = g.H.Host.tells in
    let told = g.V.Vault.tells in
    let before = meanings g.H.Host c.args.host.now in
    let now = meanings g.H.Host c.loom_observed.new.host in
    let old = vault_meanings g.V.Vault c.args.vault.now in
    let words = texts_of c.args.words.now in
    let other = subst (IsKept words) c.in-Ok-None.field-0-is c.in-Ok-None.ensures.kept in
    let promise = kept-other tells told before now old words c.loom_observed.result other c.loom_observed.ensures.promise in
    record {
      promise = promise;
      headline = λ tell other asks. c.loom_observed.ensures.headline tell asks;
      guarded = λ tell image asks. guarded-headline tells told before now old old words tell image asks c.loom_observed.result promise;
      resumed = λ tell telling asks. resumed-headline tells told before now old old words tell telling asks c.loom_observed.result promise;
    }
