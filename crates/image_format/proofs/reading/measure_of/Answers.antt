use Rattle.std.proofs.Common.{◌≡◌, ◌-◌, ◌++◌, length, Ok, refl, arith}
use Rattle.long_names.specs.declared.object.Rec.{Rec}
use Rattle.long_names.specs.Record.{record_head, contents_text, padding}
use Rattle.image_format.specs.Reading.{zeros_at}
use Rattle.image_format.proofs.Numbers.{AreBytes}
use Rattle.image_format.proofs.Records.{Steps, steps_take, with_zeros, record_from_steps, shorter}
use Rattle.image_format.proofs.reading.measure_of.Goals as goal

pub overflow_sub-read : goal.overflow_sub-read
overflow_sub-read c =
    let r : Rec = record { name = c.in_ok-name.name; class = c.in_ok-take_name.field-0; count = c.in_ok-count.count; body = c.in_ok-skip_body.ensures.0 } in
    let steps : Steps r c.in_ok-kind.kind c.in_ok-size.size c.args.bytes.now c.take_name.new.self.rest.now c.take_name-2.new.self.rest.now c.take_u64.new.self.rest.now c.take_kind.new.self.rest.now c.take_size.new.self.rest.now c.skip_body.new.self.rest.now
    = record { name = c.in_ok-name.ensures; class = c.in_ok-take_name.ensures; count = c.in_ok-count.ensures; kind = c.in_ok-kind.ensures; size_is = c.in_ok-size.ensures; body = c.in_ok-skip_body.ensures.1 } in
    let fits : AreBytes c.args.bytes.now = record { below = λ i. omega (arith, c.type_inv.bytes i) } in
    shorter (steps_take r _ _ _ _ _ _ _ _ _ fits steps).0

pub overflow_sub-len : goal.overflow_sub-len
overflow_sub-len c =
    let r : Rec = record { name = c.in_ok-name.name; class = c.in_ok-take_name.field-0; count = c.in_ok-count.count; body = c.in_ok-skip_body.ensures.0 } in
    let steps : Steps r c.in_ok-kind.kind c.in_ok-size.size c.args.bytes.now c.take_name.new.self.rest.now c.take_name-2.new.self.rest.now c.take_u64.new.self.rest.now c.take_kind.new.self.rest.now c.take_size.new.self.rest.now c.skip_body.new.self.rest.now
    = record { name = c.in_ok-name.ensures; class = c.in_ok-take_name.ensures; count = c.in_ok-count.ensures; kind = c.in_ok-kind.ensures; size_is = c.in_ok-size.ensures; body = c.in_ok-skip_body.ensures.1 } in
    let fits : AreBytes c.args.bytes.now = record { below = λ i. omega (arith, c.type_inv.bytes i) } in
    let zeros : zeros_at (padding (length c.args.bytes.now - length c.skip_body.new.self.rest.now)) c.skip_body.new.self.rest.now ≡ Ok (tt, c.take_zeros.new.self.rest.now) = rw (← c.padding_of.ensures) c.in_ok-take_zeros.ensures in
    shorter (with_zeros (record_head r ++ contents_text r.body) _ _ _ (steps_take r _ _ _ _ _ _ _ _ _ fits steps).0 zeros)

pub returns : goal.returns
returns c =
    let r : Rec = record { name = c.in_ok-name.name; class = c.in_ok-take_name.field-0; count = c.in_ok-count.count; body = c.in_ok-skip_body.ensures.0 } in
    let steps : Steps r c.in_ok-kind.kind c.in_ok-size.size c.args.bytes.now c.take_name.new.self.rest.now c.take_name-2.new.self.rest.now c.take_u64.new.self.rest.now c.take_kind.new.self.rest.now c.take_size.new.self.rest.now c.skip_body.new.self.rest.now
    = record { name = c.in_ok-name.ensures; class = c.in_ok-take_name.ensures; count = c.in_ok-count.ensures; kind = c.in_ok-kind.ensures; size_is = c.in_ok-size.ensures; body = c.in_ok-skip_body.ensures.1 } in
    let zeros : zeros_at (padding (length c.args.bytes.now - length c.skip_body.new.self.rest.now)) c.skip_body.new.self.rest.now ≡ Ok (tt, c.take_zeros.new.self.rest.now) = rw (← c.padding_of.ensures) c.in_ok-take_zeros.ensures in
    (r, c.take_zeros.new.self.rest.now, record_from_steps r _ _ _ _ _ _ _ _ _ _ steps zeros, omega (arith, overflow_sub-len c), refl, refl)
