use Rattle.std.proofs.Common.{ℕ, ◌<◌, ◌^◌, length, arith, subst, sym}
use Rattle.long_names.specs.declared.object.Rec.{Rec}
use Rattle.image_format.proofs.Numbers.{AreBytes, AreBytes-drop}
use Rattle.st80_objects.proofs.ReadLaws.{no_record, out, taken}
use Rattle.st80_objects.proofs.reading.read_record.Goals as goal

pub returns-then-is_out_of_order-clause-fault : goal.returns-then-is_out_of_order-clause-fault
returns-then-is_out_of_order-clause-fault c =
    rw c.broken.ensures (out c.args.last c.args.next c.args.start c.args.bytes.now c.split_at.result.1.now c.is_out_of_order.result c.requires c.split_at.ensures.back c.is_out_of_order.ensures c.if-is_out_of_order.true)

pub returns-in-Ok-clause-read : goal.returns-in-Ok-clause-read
returns-in-Ok-clause-read c =
    (taken c.args.last c.args.next c.args.start c.in-Ok.len c.args.bytes.now c.split_at.result.1.now c.in-Ok.rec c.is_out_of_order.result c.split_at.ensures.back c.is_out_of_order.ensures c.if-is_out_of_order.false c.in-Ok.ensures.record c.in-Ok.ensures.text).0

pub returns-in-Ok-clause-above : goal.returns-in-Ok-clause-above
returns-in-Ok-clause-above c =
    (taken c.args.last c.args.next c.args.start c.in-Ok.len c.args.bytes.now c.split_at.result.1.now c.in-Ok.rec c.is_out_of_order.result c.split_at.ensures.back c.is_out_of_order.ensures c.if-is_out_of_order.false c.in-Ok.ensures.record c.in-Ok.ensures.text).1

pub returns-in-Err-clause-fault : goal.returns-in-Err-clause-fault
returns-in-Err-clause-fault c =
    let rest = c.split_at.result.1.now in
    let whole : AreBytes c.args.bytes.now = record { below = λ i. omega (arith, c.type_inv.bytes i) } in
    let are : AreBytes rest = subst AreBytes (sym c.split_at.ensures.back) (AreBytes-drop c.args.start c.args.bytes.now whole) in
    let fits : length c.args.bytes.now < 2 ^ 64 = omega arith in
    rw c.fault_at.ensures (no_record (Rec × ℕ) c.args.last c.args.next c.args.start c.args.bytes.now rest c.in-Err.fault c.is_out_of_order.result c.requires fits c.split_at.ensures.back are c.is_out_of_order.ensures c.if-is_out_of_order.false c.in-Err.ensures.place)
