use Rattle.std.proofs.Common.{[], refl, arith}
use Rattle.long_names.specs.Objects.{words_of}
use Rattle.long_names.specs.Access.{KindOf, SetWord}
use Rattle.object_memory.proofs.LooksLaws.{Looks-read}
use Rattle.object_memory.proofs.ShapeLaws.{has_passed}
use Rattle.blue_model.specs.Machine.{store_word}
use Rattle.contexts.proofs.ServesLaws.{exits}
use Rattle.contexts.proofs.Steps.{stuck_last}
use Rattle.contexts.proofs.ReadLaws.{quiet}
use Rattle.contexts.proofs.PartLaws.{element_there, element_none}
use Rattle.contexts.proofs.StoreLaws.{word_of, with_word, word_serves, change_refused, change_stuck, change_later}
use Rattle.contexts.proofs.data.store_word.Goals as goal

pub returns-in_err-has_words-clause-serves : goal.returns-in_err-has_words-clause-serves
unfolding store_word
returns-in_err-has_words-clause-serves g c = λ cpu.
    let read = c.in_err-has_words.ensures.read in
    exits _ c.from_residual.ensures.1 (change_refused (word_of c.args.i) (with_word c.args.i c.args.word) c.args.of (KindOf c.args.of) refl c.requires.fit.ready read.named read.called)

pub returns-then-not-branch-clause-serves : goal.returns-then-not-branch-clause-serves
unfolding store_word
returns-then-not-branch-clause-serves g c = λ cpu.
    let test = c.in_ok-has_words.ensures in
    stuck_last (change_stuck (word_of c.args.i) (with_word c.args.i c.args.word) c.args.of c.requires.fit.ready (element_none words_of c.args.i (λ xs low. omega arith) test.words.before c.if-not-branch.true))
    (quiet [] _ _ refl c.requires.fit.ready test.fit.ready (Looks-read _ _ c.args.of test.read))

pub returns-in_err-set_word-clause-serves : goal.returns-in_err-set_word-clause-serves
unfolding store_word
returns-in_err-set_word-clause-serves g c = λ cpu.
    let test = c.in_ok-has_words.ensures in
    exits _ c.from_residual-in_err-set_word.ensures.1
    (change_later (word_of c.args.i) (with_word c.args.i c.args.word) c.args.of c.requires.fit.ready test.fit.ready (Looks-read _ _ c.args.of test.read)
    (change_refused (word_of c.args.i) (with_word c.args.i c.args.word) c.args.of (SetWord c.args.of c.args.i c.args.word) refl test.fit.ready (test.words.after.name c.if-not-branch.false) c.in_err-set_word.ensures.access.called))

pub returns-clause-serves : goal.returns-clause-serves
unfolding store_word
returns-clause-serves g c = λ cpu.
    let test = c.in_ok-has_words.ensures in
    let stored = c.in_ok-set_word.ensures in
    let there = element_there words_of c.args.i (has_passed test.words.after c.if-not-branch.false) in
    change_later (word_of c.args.i) (with_word c.args.i c.args.word) c.args.of c.requires.fit.ready test.fit.ready (Looks-read _ _ c.args.of test.read)
    (word_serves c.args.of c.args.i c.args.word test.fit.ready stored.fit.ready there stored.access.called)
