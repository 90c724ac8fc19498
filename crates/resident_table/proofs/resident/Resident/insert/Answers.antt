use Rattle.std.proofs.Common.{ℕ, ◌≢◌, ◌+◌, length, Some, refl, subst, sym, ap, ◌∙◌, arith}
use Rattle.probing.specs.Homes.{home_of}
use Rattle.probing.proofs.HomeLaws.{home_of-below}
use Rattle.std.proofs.Math.ListN.{length-set}
use Rattle.std.specs.List.{slice_set}
use Rattle.object_table.specs.Entries.{put}
use Rattle.probing.specs.Table.{IsTable}
use Rattle.probing.proofs.TableLaws.{put_table}
use Rattle.resident_table.specs.declared.probe.Slot.{Slot}
use Rattle.resident_table.specs.Inside.{name_at}
use Rattle.resident_table.specs.Resident.{short_of, held_of, room_of}
use Rattle.resident_table.proofs.SlotLaws.{puts-name, short-put, ends-vacant}
use Rattle.resident_table.proofs.resident.Resident.insert.Goals as goal

pub overflow_add-self : goal.overflow_add-self
unfolding held_of room_of
overflow_add-self c = let r = c.args.self.now in let few = r.few in let room = c.requires.room in let size = r.size in let small = r.small in omega arith

pub invariant_of-self : goal.invariant_of-self
unfolding short_of held_of room_of
invariant_of-self c =
    let r = c.args.self.now in
    let slots = r.slots.items in
    let name = c.get-name.result in
    let named : name ≢ 0 = let up = c.get-name.ensures.name.above in omega (arith, c.get-name.ensures.value) in
    let slot : Slot = record { name = name; short = c.args.s.0 } in
    let v = ends-vacant slots r.held name c.seek-at.result r.table named c.seek-at.ensures.within c.seek-at.ensures.ends (ap (short_of r) c.get-name.ensures.value ∙ c.requires.absent) in
    let size = length-set slots c.seek-at.result slot in
    record {
      size = size ∙ r.size;
      small = let small = r.small in omega arith;
      few = let room = c.requires.room in omega arith;
      table = subst (λ (n : ℕ). IsTable home_of (name_at (slice_set slots c.seek-at.result slot)) n (r.held + 1)) (sym size)
          (put_table home_of-below (name_at slots) (name_at (slice_set slots c.seek-at.result slot)) (length slots) r.held c.seek-at.result name r.table named
          c.seek-at.ensures.within v (puts-name slots (length slots) c.seek-at.result slot c.seek-at.ensures.within));
    }

pub returns-clause-find : goal.returns-clause-find
unfolding short_of
returns-clause-find c =
    let r = c.args.self.now in
    let slots = r.slots.items in
    let name = c.get-name.result in
    let named : name ≢ 0 = let up = c.get-name.ensures.name.above in omega (arith, c.get-name.ensures.value) in
    let slot : Slot = record { name = name; short = c.args.s.0 } in
    let v = ends-vacant slots r.held name c.seek-at.result r.table named c.seek-at.ensures.within c.seek-at.ensures.ends (ap (short_of r) c.get-name.ensures.value ∙ c.requires.absent) in
    short-put slots r.held c.seek-at.result slot r.table named c.seek-at.ensures.within v
    ∙ ap (λ (n : ℕ). put (short_of r) n (Some c.args.s.0)) c.get-name.ensures.value

pub returns-clause-held : goal.returns-clause-held
unfolding held_of
returns-clause-held c = refl

pub returns-clause-room : goal.returns-clause-room
unfolding room_of
returns-clause-room c = refl
