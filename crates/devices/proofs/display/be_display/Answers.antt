use Rattle.std.proofs.Common.{refl, ap}
use Rattle.blue_model.specs.Devices.{be_display, show_form}
use Rattle.contexts.proofs.ServesLaws.{serves_then, serves_exit}
use Rattle.contexts.proofs.Steps.{numbers_then, set_numbers_at, done_serves}
use Rattle.contexts.proofs.RegisterLaws.{put_serves_at}
use Rattle.contexts.proofs.TrialLaws.{found_then, none_found, finding_exit}
use Rattle.devices.specs.Inside.{form_in}
use Rattle.devices.proofs.display.be_display.Goals as goal

pub returns-in_err-stack-clause-serves : goal.returns-in_err-stack-clause-serves
unfolding be_display
returns-in_err-stack-clause-serves g c = serves_exit _ _ c.in_err-stack.ensures.serves c.from_residual.ensures.1

pub returns-in_err-form_of-clause-serves : goal.returns-in_err-form_of-clause-serves
unfolding be_display
returns-in_err-form_of-clause-serves g c =
    serves_then _ c.in_ok-stack.ensures.serves
    (finding_exit _ _ (c.in_err-form_of.ensures.serves _) c.from_residual-in_err-form_of.ensures.1)

pub returns-in_default-clause-serves : goal.returns-in_default-clause-serves
unfolding be_display
returns-in_default-clause-serves g c =
    serves_then _ c.in_ok-stack.ensures.serves
    (none_found _ (ap (λ x. form_in x ((g.M.ObjectMemory.told c.form_of.new.m).regs 13)) c.in_default.is) (c.in_ok-form_of.ensures.serves _))

pub returns-clause-serves : goal.returns-clause-serves
unfolding be_display show_form
returns-clause-serves g c =
    let form = c.in_ok-form_of.ensures.looks.regs 11 refl in
    let before = c.in_ok-form_of.ensures.fit.ready in
    let ready = c.copy.ensures.fit.ready before in
    serves_then _ c.in_ok-stack.ensures.serves
    (found_then _ (ap (λ x. form_in x ((g.M.ObjectMemory.told c.form_of.new.m).regs 13)) c.in-Some.is) (c.in_ok-form_of.ensures.serves _)
    (serves_then _ (put_serves_at 9 11 _ refl form before ready c.copy.ensures.told)
    (numbers_then _ (serves_then _ (set_numbers_at _ refl (λ may. may) ready) (done_serves ready)))))
