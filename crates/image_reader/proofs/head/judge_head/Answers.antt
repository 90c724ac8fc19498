use Rattle.std.proofs.Common.{◌≤◌, refl, sym, subst, arith}
use Rattle.image_format.specs.declared.opening.Opening.{Opening}
use Rattle.image_format.proofs.Numbers.{AreBytes, all_bytes}
use Rattle.image_reader.specs.declared.fault.LoadFault.TheVariants.{Bad}
use Rattle.image_reader.specs.Inside.{IsHeadFault}
use Rattle.image_reader.proofs.Frames.{leaves}
use Rattle.image_reader.proofs.Heads.{opening_refused, too_full, fits_room, head_refused, head_read}
use Rattle.image_reader.proofs.head.judge_head.Goals as goal

pub returns-in_err-opening-clause-fault : goal.returns-in_err-opening-clause-fault
returns-in_err-opening-clause-fault c =
    let b = c.in_err-opening.field-0.0 in
    leaves (IsHeadFault c.args.room c.args.bytes.now) c.from_residual.result (Bad b.rule b.place) c.from_residual.ensures.1 (opening_refused c.args.room c.args.bytes.now b (sym c.in_err-opening.ensures))

pub returns-in_err-opening-clause-range : goal.returns-in_err-opening-clause-range
returns-in_err-opening-clause-range c =
    let fits : AreBytes c.args.bytes.now = record { below = λ i. omega (arith, c.type_inv.bytes i) } in
    all_bytes c.args.bytes.now fits

pub returns-then-held-room-clause-fault : goal.returns-then-held-room-clause-fault
returns-then-held-room-clause-fault c = (refl, too_full c.args.room c.args.bytes.now c.in_ok-opening.opening (sym c.in_ok-opening.ensures) c.if-held-room.true)

pub returns-then-held-room-clause-range : goal.returns-then-held-room-clause-range
returns-then-held-room-clause-range c =
    let fits : AreBytes c.args.bytes.now = record { below = λ i. omega (arith, c.type_inv.bytes i) } in
    all_bytes c.args.bytes.now fits

pub returns-in_err-head-clause-fault : goal.returns-in_err-head-clause-fault
returns-in_err-head-clause-fault c =
    let b = c.in_err-head.field-0.0 in
    leaves (IsHeadFault c.args.room c.args.bytes.now) c.from_residual-in_err-head.result (Bad b.rule b.place) c.from_residual-in_err-head.ensures.1
    (head_refused c.args.room c.args.bytes.now b (fits_room c.args.room c.args.bytes.now c.in_ok-opening.opening (sym c.in_ok-opening.ensures) c.if-held-room.false) (sym c.in_err-head.ensures))

pub returns-in_err-head-clause-range : goal.returns-in_err-head-clause-range
returns-in_err-head-clause-range c =
    let fits : AreBytes c.args.bytes.now = record { below = λ i. omega (arith, c.type_inv.bytes i) } in
    all_bytes c.args.bytes.now fits

pub returns-clause-read : goal.returns-clause-read
returns-clause-read c =
    let fits : AreBytes c.args.bytes.now = record { below = λ i. omega (arith, c.type_inv.bytes i) } in
    (head_read c.args.bytes.now c.in_ok-head.head c.in_ok-opening.opening fits (sym c.in_ok-opening.ensures) (sym c.in_ok-head.ensures)).read

pub returns-clause-len : goal.returns-clause-len
returns-clause-len c =
    let fits : AreBytes c.args.bytes.now = record { below = λ i. omega (arith, c.type_inv.bytes i) } in
    (head_read c.args.bytes.now c.in_ok-head.head c.in_ok-opening.opening fits (sym c.in_ok-opening.ensures) (sym c.in_ok-head.ensures)).len

pub returns-clause-fits : goal.returns-clause-fits
returns-clause-fits c =
    let fits : AreBytes c.args.bytes.now = record { below = λ i. omega (arith, c.type_inv.bytes i) } in
    let x = head_read c.args.bytes.now c.in_ok-head.head c.in_ok-opening.opening fits (sym c.in_ok-opening.ensures) (sym c.in_ok-head.ensures) in
    (subst (λ (o : Opening). o.objects ≤ c.args.room) (sym x.same) c.if-held-room.false, x.few)

pub returns-clause-roomy : goal.returns-clause-roomy
returns-clause-roomy c = fits_room c.args.room c.args.bytes.now c.in_ok-opening.opening (sym c.in_ok-opening.ensures) c.if-held-room.false

pub returns-clause-range : goal.returns-clause-range
returns-clause-range c =
    let fits : AreBytes c.args.bytes.now = record { below = λ i. omega (arith, c.type_inv.bytes i) } in
    all_bytes c.args.bytes.now fits
