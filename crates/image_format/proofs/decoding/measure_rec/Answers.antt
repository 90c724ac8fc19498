use Rattle.std.proofs.Common.{Err, sym, subst, arith}
use Rattle.image_format.specs.declared.fault.NoRecord.TheVariants.{Halted}
use Rattle.image_format.specs.declared.fault.RecFault.{RecFault}
use Rattle.image_format.specs.declared.reading.RecMeasure.{RecMeasure}
use Rattle.image_format.specs.Faults.{IsBad, IsPlaced}
use Rattle.image_format.proofs.Numbers.{AreBytes}
use Rattle.image_format.proofs.Found.{measured, never_halted, placed, near_halt}
use Rattle.image_format.proofs.decoding.measure_rec.Goals as goal

pub refused-requires : goal.refused-requires
refused-requires c =
    let fits : AreBytes c.args.bytes.now = record { below = λ i. omega (arith, c.type_inv.bytes i) } in
    near_halt c.args.bytes.now (Halted c.in-Err.halt) fits c.in-Err.ensures

pub returns-in-Ok-clause-measure : goal.returns-in-Ok-clause-measure
returns-in-Ok-clause-measure c =
    let fits : AreBytes c.args.bytes.now = record { below = λ i. omega (arith, c.type_inv.bytes i) } in
    measured c.args.bytes.now c.in-Ok.measure fits c.in-Ok.ensures

pub returns-in-Err-clause-place : goal.returns-in-Err-clause-place
returns-in-Err-clause-place c = subst (λ (f : RecFault). IsPlaced {A = RecMeasure} (Err f) c.args.bytes.now) (sym c.refused.ensures) (placed RecMeasure c.args.bytes.now (Halted c.in-Err.halt) c.in-Err.ensures)

pub returns-in-Err-clause-bad : goal.returns-in-Err-clause-bad
returns-in-Err-clause-bad c = subst (λ (f : RecFault). IsBad {A = RecMeasure} (Err f)) (sym c.refused.ensures) tt

pub returns-in-Err-clause-none : goal.returns-in-Err-clause-none
returns-in-Err-clause-none c = λ r rest is e. never_halted c.args.bytes.now (Halted c.in-Err.halt) r rest c.in-Err.ensures tt is e
