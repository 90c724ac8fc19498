use Rattle.std.proofs.Common.{List, ℕ, ◌++◌, ◌∙◌, ap}
use Rattle.devices.specs.declared.fault.PictureFault.TheVariants as fault
use Rattle.devices.proofs.PictureLaws.{exits_row}
use Rattle.devices.proofs.drawing.append_row.Goals as goal

pub returns-in_err-count-clause-reads : goal.returns-in_err-count-clause-reads
returns-in_err-count-clause-reads g c = exits_row _ _ (fault.Stop c.in_err-count.field-0.0) _ c.from_residual.ensures.1 (λ cpu. c.in_err-count.ensures.serves cpu)

pub returns-in_err-extend-clause-reads : goal.returns-in_err-extend-clause-reads
returns-in_err-extend-clause-reads g c =
    let looks = c.in_ok-count.ensures.looks in
    exits_row _ _ fault.Memory _ c.from_residual-in_err-extend.ensures.1 (looks.later, looks.transcript)

pub returns-clause-text : goal.returns-clause-text
returns-clause-text g c = λ told. c.in_ok-extend.ensures.ok ∙ ap (λ (row : List ℕ). c.args.text.now ++ row) (c.in_ok-count.ensures.bytes told)
