use Rattle.std.proofs.Common.{[], ◌∷◌, sym, ◌∙◌}
use Rattle.object_memory.proofs.LooksLaws.{Looks-read, Looks-trans}
use Rattle.blue_model.specs.Devices.{string_text}
use Rattle.contexts.proofs.ServesLaws.{serves_then, serves_stop}
use Rattle.contexts.proofs.PeekLaws.{exits_found}
use Rattle.contexts.proofs.Steps.{pick_true, pick_false, done_serves}
use Rattle.devices.proofs.TextLaws.{string_found, string_unread}
use Rattle.devices.proofs.transcript.is_string.Goals as goal

pub returns-in_err-class_of-clause-serves : goal.returns-in_err-class_of-clause-serves
unfolding string_text
returns-in_err-class_of-clause-serves g c = λ cpu. exits_found _ _ c.from_residual.ensures.1 (serves_stop _ (c.in_err-class_of.ensures.serves cpu))

pub returns-then-not-is-clause-serves : goal.returns-then-not-is-clause-serves
unfolding string_text
returns-then-not-is-clause-serves g c = λ cpu.
    serves_then _ (c.in_ok-class_of.ensures.serves cpu) (pick_false _ _ _ (sym c.is.ensures ∙ c.if-not-is.true) (done_serves c.in_ok-class_of.ensures.fit.ready))

pub returns-in_err-is_text-clause-serves : goal.returns-in_err-is_text-clause-serves
unfolding string_text
returns-in_err-is_text-clause-serves g c = λ cpu.
    exits_found _ _ c.from_residual-in_err-is_text.ensures.1
    (serves_then _ (c.in_ok-class_of.ensures.serves cpu) (pick_true _ _ _ (sym c.is.ensures ∙ c.if-not-is.false)
    (string_unread _ _ _ c.in_ok-class_of.ensures.looks c.in_ok-class_of.ensures.fit.ready c.in_err-is_text.ensures.read)))

pub returns-clause-serves : goal.returns-clause-serves
unfolding string_text
returns-clause-serves g c = λ cpu.
    let class = c.in_ok-class_of.ensures in
    let test = c.in_ok-is_text.ensures in
    string_found _ _ _ c.in_ok-is_text.is_text class.looks class.fit.ready test.fit.ready (Looks-read _ _ 10 test.read) test.text.before
    (λ o s. serves_then _ (class.serves cpu) (pick_true _ _ _ (sym c.is.ensures ∙ c.if-not-is.false) s))

pub returns-clause-looks : goal.returns-clause-looks
returns-clause-looks g c =
    let test = c.in_ok-is_text.ensures in
    Looks-trans (11 ∷ []) [] _ _ _ c.in_ok-class_of.ensures.fit.ready c.in_ok-class_of.ensures.looks (Looks-read _ _ 10 test.read)
