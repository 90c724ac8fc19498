use Rattle.std.proofs.Common.{false, Option, Ok, length, ◌≤◌, subst}
use Rattle.long_names.specs.Objects.{words_of}
use Rattle.object_memory.specs.Shape.{HasPartAt}
use Rattle.blue_model.specs.Forms.{Form, form_of}
use Rattle.contexts.specs.Serves.{Serves}
use Rattle.contexts.proofs.PeekPairs.{of_some}
use Rattle.forms.specs.Shapes.{FitsAnObject, least_words}
use Rattle.devices.proofs.FormLaws.{form_none, form_some, exits_form}
use Rattle.devices.proofs.display.form_of.Goals as goal

pub returns-in_err-extent-clause-serves : goal.returns-in_err-extent-clause-serves
unfolding form_of
returns-in_err-extent-clause-serves g c = λ cpu. exits_form _ _ c.from_residual.ensures.1 (c.in_err-extent.ensures.serves cpu)

pub returns-in_default-clause-serves : goal.returns-in_default-clause-serves
unfolding form_of
returns-in_default-clause-serves g c = λ cpu.
    let t = g.M.ObjectMemory.told c.args.m.now in
    let u = g.M.ObjectMemory.told c.read_form.new.m in
    subst (λ (x : Option Form). Serves t cpu u cpu (form_of (t.regs 11)) (Ok x)) (form_none (u.regs 13) _ c.in_default.is) (c.in_ok-extent.ensures.serves cpu)

pub returns-clause-serves : goal.returns-clause-serves
unfolding form_of
returns-clause-serves g c = λ cpu.
    let t = g.M.ObjectMemory.told c.args.m.now in
    let u = g.M.ObjectMemory.told c.read_form.new.m in
    subst (λ (x : Option Form). Serves t cpu u cpu (form_of (t.regs 11)) (Ok x)) (form_some (u.regs 13) _ _ c.in-Some.is) (c.in_ok-extent.ensures.serves cpu)

pub returns-clause-rows : goal.returns-clause-rows
returns-clause-rows g c =
    of_some (λ e. HasPartAt (g.M.ObjectMemory.told c.read_form.new.m) 13 words_of (λ words. least_words false e ≤ length words)) _ _ c.in-Some.is c.in_ok-extent.ensures.room

pub returns-clause-small : goal.returns-clause-small
returns-clause-small g c =
    let e = of_some (λ e. FitsAnObject false e) _ _ c.in-Some.is c.in_ok-extent.ensures.extent in
    (e.0.narrow, e.0.low)
