use Rattle.std.proofs.Common.{Option, Ok, sym, ◌∙◌, subst}
use Rattle.std.specs.Option.{option_map}
use Rattle.blue_model.specs.Forms.{form_where}
use Rattle.blue_model.specs.BitBlt.{some_form, form_or_nil}
use Rattle.contexts.specs.Serves.{Serves}
use Rattle.forms.specs.declared.form.Extent.{Extent}
use Rattle.forms.specs.Shapes.{enough, form_by}
use Rattle.contexts.proofs.PeekPairs.{exits_by}
use Rattle.bitblt.proofs.FormLaws.{nil_serves, found_serves, found_stopped, looks_any}
use Rattle.bitblt.proofs.optional.read_optional_form.Goals as goal

pub returns-then-is-clause-serves : goal.returns-then-is-clause-serves
returns-then-is-clause-serves g c = λ cpu. nil_serves (form_where (enough c.args.halftone)) _ (sym c.is.ensures ∙ c.if-is.true) c.requires.fit.ready

pub returns-then-is-clause-looks : goal.returns-then-is-clause-looks
returns-then-is-clause-looks g c = looks_any _ _

pub returns-in_err-extent-clause-serves : goal.returns-in_err-extent-clause-serves
returns-in_err-extent-clause-serves g c = λ cpu. exits_by _ _ c.from_residual.ensures.1 (found_stopped (form_where (enough c.args.halftone)) _ (sym c.is.ensures ∙ c.if-is.false) (c.in_err-extent.ensures.serves cpu))

pub returns-in_default-clause-serves : goal.returns-in_default-clause-serves
returns-in_default-clause-serves g c = λ cpu.
    let t = g.M.ObjectMemory.told c.args.m.now in
    let b = g.M.ObjectMemory.told c.read_form.new.m in
    subst (λ (x : Option Extent). Serves t cpu b cpu (form_or_nil (form_where (enough c.args.halftone)) (t.regs 11)) (Ok (some_form (option_map (form_by (b.regs c.args.bits)) x)))) c.in_default.is
    (found_serves (form_where (enough c.args.halftone)) (t.regs 11) (option_map (form_by (b.regs c.args.bits)) c.in_ok-extent.field-0) (sym c.is.ensures ∙ c.if-is.false) c.in_ok-extent.ensures.fit.ready (c.in_ok-extent.ensures.serves cpu))

pub returns-clause-serves : goal.returns-clause-serves
returns-clause-serves g c = λ cpu.
    let t = g.M.ObjectMemory.told c.args.m.now in
    let b = g.M.ObjectMemory.told c.read_form.new.m in
    subst (λ (x : Option Extent). Serves t cpu b cpu (form_or_nil (form_where (enough c.args.halftone)) (t.regs 11)) (Ok (some_form (option_map (form_by (b.regs c.args.bits)) x)))) c.in-Some.is
    (found_serves (form_where (enough c.args.halftone)) (t.regs 11) (option_map (form_by (b.regs c.args.bits)) c.in_ok-extent.field-0) (sym c.is.ensures ∙ c.if-is.false) c.in_ok-extent.ensures.fit.ready (c.in_ok-extent.ensures.serves cpu))
