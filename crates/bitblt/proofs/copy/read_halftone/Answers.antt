use Rattle.std.proofs.Common.{true, refl, sym, ◌∙◌}
use Rattle.long_names.specs.Access.{ReadWords}
use Rattle.object_memory.proofs.LooksLaws.{Looks-access}
use Rattle.contexts.proofs.ServesLaws.{exits}
use Rattle.bitblt.proofs.RunReads.{source_refused, source_read, source_none, optional_named}
use Rattle.bitblt.proofs.copy.read_halftone.Goals as goal

pub returns-in_err-read_words-clause-serves : goal.returns-in_err-read_words-clause-serves
returns-in_err-read_words-clause-serves g c = λ cpu.
    let some = sym c.is_some.ensures ∙ c.if-is_some.true in
    exits _ c.from_residual.ensures.1 (source_refused _ 15 _ _ some c.requires.fit.ready (optional_named _ 15 true c.args.halftone some c.requires.room) c.in_err-read_words.ensures.access.called)

pub returns-in_ok-read_words-clause-serves : goal.returns-in_ok-read_words-clause-serves
returns-in_ok-read_words-clause-serves g c = λ cpu.
    let some = sym c.is_some.ensures ∙ c.if-is_some.true in
    source_read _ 15 some c.requires.fit.ready c.in_ok-read_words.ensures.fit.ready (optional_named _ 15 true c.args.halftone some c.requires.room) (Looks-access _ _ (ReadWords 15 _ _) refl c.in_ok-read_words.ensures.access.called)

pub returns-else-is_some-clause-serves : goal.returns-else-is_some-clause-serves
returns-else-is_some-clause-serves g c = λ cpu. source_none _ _ (sym c.is_some.ensures ∙ c.if-is_some.false) c.requires.fit.ready
