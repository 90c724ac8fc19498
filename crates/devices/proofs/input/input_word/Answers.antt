use Rattle.std.proofs.Common.{sym, ◌∙◌, ap}
use Rattle.blue_model.specs.Devices.{input_word, take_word}
use Rattle.contexts.proofs.ServesLaws.{serves_then, serves_exit}
use Rattle.contexts.proofs.Steps.{numbers_then, set_numbers_at}
use Rattle.contexts.proofs.TrialLaws.{some_then, none_fails}
use Rattle.devices.proofs.input.input_word.Goals as goal

pub returns-in_default-clause-serves : goal.returns-in_default-clause-serves
unfolding input_word
returns-in_default-clause-serves g c = numbers_then _ (none_fails _ _ c.requires.fit.ready (λ told. sym c.next_word.ensures ∙ c.in_default.is))

pub returns-in_err-number_object-clause-serves : goal.returns-in_err-number_object-clause-serves
unfolding input_word take_word
returns-in_err-number_object-clause-serves g c =
    numbers_then _ (some_then _ _ _ (λ told. sym c.next_word.ensures ∙ c.in-Some.is)
    (serves_exit _ _ (rw c.from.ensures at c.in_err-number_object.ensures.serves c.args.cpu.now) c.from_residual.ensures.1))

pub returns-clause-serves : goal.returns-clause-serves
unfolding input_word take_word
returns-clause-serves g c =
    let ready = c.in_ok-number_object.ensures.fit.ready in
    numbers_then _ (some_then _ _ _ (λ told. sym c.next_word.ensures ∙ c.in-Some.is)
    (serves_then _ (rw c.from.ensures at c.in_ok-number_object.ensures.serves c.args.cpu.now)
    (numbers_then _ (serves_then _ (set_numbers_at _ (ap (λ n. record c.args.cpu.now { words_out = n }) c.raised-cpu.ensures) (λ may. may) ready) c.answer.ensures.serves))))
