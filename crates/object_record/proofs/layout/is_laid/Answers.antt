use Rattle.std.proofs.Common.{sym, ◌∙◌, arith}
use Rattle.object_record.proofs.Numbers.{AreBytes}
use Rattle.object_record.proofs.Judging.{judged, record-sized, record-zeros}
use Rattle.object_record.proofs.layout.is_laid.Goals as goal

pub returns-then-is_sized : goal.returns-then-is_sized
returns-then-is_sized c =
    let fits : AreBytes c.args.bytes.now = record { below = λ i. omega (arith, c.type_inv.bytes i) } in
    (λ yes. judged c.args.bytes.now fits c.requires (c.is_sized.ensures.0 c.if-is_sized.true) (sym c.has_zeros.ensures ∙ yes), λ h. c.has_zeros.ensures ∙ record-zeros c.args.bytes.now h)

pub returns-else-is_sized : goal.returns-else-is_sized
returns-else-is_sized c =
    (λ yes. let no = c.if-is_sized.false in absurd cc, λ h. c.is_sized.ensures.1 (record-sized c.args.bytes.now h))
