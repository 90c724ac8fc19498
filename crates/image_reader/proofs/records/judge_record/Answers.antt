use Rattle.std.proofs.Common.{arith}
use Rattle.image_format.specs.declared.reading.RecMeasure.{RecMeasure}
use Rattle.image_format.proofs.Numbers.{AreBytes, all_bytes}
use Rattle.image_reader.proofs.Next.{out_halted, in_read, in_place, in_halted}
use Rattle.image_reader.proofs.records.judge_record.Goals as goal

pub returns-then-is_out_of_order-clause-halted : goal.returns-then-is_out_of_order-clause-halted
returns-then-is_out_of_order-clause-halted c = out_halted c.args.last c.args.next c.args.place c.args.bytes.now c.is_out_of_order.result c.is_out_of_order.ensures c.if-is_out_of_order.true

pub returns-then-is_out_of_order-clause-range : goal.returns-then-is_out_of_order-clause-range
returns-then-is_out_of_order-clause-range c =
    let fits : AreBytes c.args.bytes.now = record { below = λ i. omega (arith, c.type_inv.bytes i) } in
    all_bytes c.args.bytes.now fits

pub returns-in-Ok-clause-next : goal.returns-in-Ok-clause-next
returns-in-Ok-clause-next c =
    let m = c.in-Ok.ensures.measure in
    record {
      rec = m.rec;
      is = in_place c.args.last c.args.next c.args.bytes.now c.is_out_of_order.result m.rec c.in-Ok.measure.len c.is_out_of_order.ensures c.if-is_out_of_order.false m.is m.text;
      read = in_read c.args.last c.args.next c.args.bytes.now c.is_out_of_order.result m.rec c.in-Ok.measure.len c.is_out_of_order.ensures c.if-is_out_of_order.false m.is m.text;
      text = m.text;
      within = m.within;
      longest = m.longest;
      named = m.name;
      stated = m.count;
    }

pub returns-in-Ok-clause-range : goal.returns-in-Ok-clause-range
returns-in-Ok-clause-range c =
    let fits : AreBytes c.args.bytes.now = record { below = λ i. omega (arith, c.type_inv.bytes i) } in
    all_bytes c.args.bytes.now fits

pub returns-in-Err-clause-halted : goal.returns-in-Err-clause-halted
returns-in-Err-clause-halted c =
    let fits : AreBytes c.args.bytes.now = record { below = λ i. omega (arith, c.type_inv.bytes i) } in
    rw c.fault_at.ensures (in_halted RecMeasure c.args.last c.args.next c.args.place c.args.bytes.now c.is_out_of_order.result c.in-Err.fault fits c.is_out_of_order.ensures c.if-is_out_of_order.false c.in-Err.ensures.place)

pub returns-in-Err-clause-range : goal.returns-in-Err-clause-range
returns-in-Err-clause-range c =
    let fits : AreBytes c.args.bytes.now = record { below = λ i. omega (arith, c.type_inv.bytes i) } in
    all_bytes c.args.bytes.now fits
