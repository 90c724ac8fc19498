use Rattle.std.proofs.Common.{◌+◌, ◌*◌, length, refl, arith}
use Rattle.probing.proofs.TableLaws.{empty_table}
use Rattle.resident_table.specs.Inside.{name_at}
use Rattle.resident_table.specs.Resident.{short_of, held_of, room_of}
use Rattle.resident_table.proofs.SlotLaws.{slots-none, short-none}
use Rattle.resident_table.proofs.resident.Resident.new.Goals as goal

pub invariant_of-result : goal.invariant_of-result
invariant_of-result c =
    let slots = c.in_ok-vec.field-0.items in
    let none = slots-none slots (2 * c.args.entries + 2) (c.in_ok-vec.ensures.items_if_clones_equal (λ y e. e)) in
    record {
      size = omega (arith, c.in_ok-vec.ensures.len, c.in_ok-vec.field-0.ok.0);
      small = let fits = c.ranges.entries.fits in omega (arith, c.in_ok-vec.ensures.len, c.in_ok-vec.field-0.ok.0);
      few = omega arith;
      table = empty_table (name_at slots) (length slots) none;
    }

pub returns-clause-none : goal.returns-clause-none
unfolding short_of
returns-clause-none c =
    let slots = c.in_ok-vec.field-0.items in
    short-none slots (slots-none slots (2 * c.args.entries + 2) (c.in_ok-vec.ensures.items_if_clones_equal (λ y e. e)))

pub returns-clause-held : goal.returns-clause-held
unfolding held_of
returns-clause-held c = refl

pub returns-clause-room : goal.returns-clause-room
unfolding room_of
returns-clause-room c = refl
