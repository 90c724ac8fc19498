use Rattle.std.proofs.Common.{ℕ, Err, sym, subst, arith}
use Rattle.long_names.specs.declared.object.Rec.{Rec}
use Rattle.image_format.specs.declared.fault.RecFault.{RecFault}
use Rattle.image_format.specs.Faults.{IsBad, IsPlaced}
use Rattle.image_format.proofs.Numbers.{AreBytes}
use Rattle.image_format.proofs.Found.{found, only_that, never_halted, placed, near_halt}
use Rattle.image_format.proofs.decoding.decode_rec.Goals as goal

pub refused-requires : goal.refused-requires
refused-requires c =
    let fits : AreBytes c.args.bytes.now = record { below = λ i. omega (arith, c.type_inv.bytes i) } in
    near_halt c.args.bytes.now c.in-Err.fault fits (rw c.in-Err.is at c.record_of.ensures)

pub returns-in-Ok-clause-text : goal.returns-in-Ok-clause-text
returns-in-Ok-clause-text c =
    let fits : AreBytes c.args.bytes.now = record { below = λ i. omega (arith, c.type_inv.bytes i) } in
    (found c.args.bytes.now c.in-Ok.read fits (rw c.in-Ok.is at c.record_of.ensures)).text

pub returns-in-Ok-clause-len : goal.returns-in-Ok-clause-len
returns-in-Ok-clause-len c =
    let fits : AreBytes c.args.bytes.now = record { below = λ i. omega (arith, c.type_inv.bytes i) } in
    (found c.args.bytes.now c.in-Ok.read fits (rw c.in-Ok.is at c.record_of.ensures)).len

pub returns-in-Ok-clause-longest : goal.returns-in-Ok-clause-longest
returns-in-Ok-clause-longest c =
    let fits : AreBytes c.args.bytes.now = record { below = λ i. omega (arith, c.type_inv.bytes i) } in
    (found c.args.bytes.now c.in-Ok.read fits (rw c.in-Ok.is at c.record_of.ensures)).longest

pub returns-in-Ok-clause-record : goal.returns-in-Ok-clause-record
returns-in-Ok-clause-record c =
    let fits : AreBytes c.args.bytes.now = record { below = λ i. omega (arith, c.type_inv.bytes i) } in
    (found c.args.bytes.now c.in-Ok.read fits (rw c.in-Ok.is at c.record_of.ensures)).is

pub returns-in-Ok-clause-only : goal.returns-in-Ok-clause-only
returns-in-Ok-clause-only c = λ r rest is e. only_that c.args.bytes.now c.in-Ok.read r rest (rw c.in-Ok.is at c.record_of.ensures) is e

pub returns-in-Err-clause-bad : goal.returns-in-Err-clause-bad
returns-in-Err-clause-bad c = λ bad r rest is e. never_halted c.args.bytes.now c.in-Err.fault r rest (rw c.in-Err.is at c.record_of.ensures) (subst (λ (f : RecFault). IsBad {A = Rec × ℕ} (Err f)) c.refused.ensures bad) is e

pub returns-in-Err-clause-place : goal.returns-in-Err-clause-place
returns-in-Err-clause-place c = subst (λ (f : RecFault). IsPlaced {A = Rec × ℕ} (Err f) c.args.bytes.now) (sym c.refused.ensures) (placed (Rec × ℕ) c.args.bytes.now c.in-Err.fault (rw c.in-Err.is at c.record_of.ensures))
