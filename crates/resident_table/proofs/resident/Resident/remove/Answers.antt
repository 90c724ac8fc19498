use Rattle.std.proofs.Common.{ℕ, ◌≢◌, length, refl, subst, sym, ◌∙◌, arith}
use Rattle.probing.specs.Table.{used}
use Rattle.probing.proofs.ClosingLaws.{used_some}
use Rattle.resident_table.specs.Inside.{name_at, Ends}
use Rattle.resident_table.specs.Resident.{short_of, held_of, room_of}
use Rattle.resident_table.proofs.SlotLaws.{short-closed, ends-there}
use Rattle.resident_table.proofs.resident.Resident.remove.Goals as goal

pub close_up-requires-clause-few : goal.close_up-requires-clause-few
close_up-requires-clause-few c = let r = c.args.self.now in let small = r.small in omega arith

pub close_up-requires-clause-named : goal.close_up-requires-clause-named
unfolding short_of
close_up-requires-clause-named c =
    let r = c.args.self.now in
    let named : c.args.name ≢ 0 = let up = c.get.ensures.name.above in omega arith in
    let ends = subst (λ (n : ℕ). Ends (name_at r.slots.items) (length r.slots.items) n c.seek-at.result) c.get.ensures.value c.seek-at.ensures.ends in
    let is = ends-there r.slots.items r.held c.args.name c.seek-at.result r.table named ends c.requires.there in
    λ e. named (sym is ∙ e)

pub overflow_sub-self : goal.overflow_sub-self
unfolding short_of
overflow_sub-self c =
    let r = c.args.self.now in
    let named : c.args.name ≢ 0 = let up = c.get.ensures.name.above in omega arith in
    let ends = subst (λ (n : ℕ). Ends (name_at r.slots.items) (length r.slots.items) n c.seek-at.result) c.get.ensures.value c.seek-at.ensures.ends in
    let is = ends-there r.slots.items r.held c.args.name c.seek-at.result r.table named ends c.requires.there in
    let one = used_some (name_at r.slots.items) (length r.slots.items) c.seek-at.result c.seek-at.ensures.within (λ e. named (sym is ∙ e)) in
    let count = r.table.count_is in
    omega arith

pub returns-clause-find : goal.returns-clause-find
unfolding short_of
returns-clause-find c =
    let r = c.args.self.now in
    let named : c.args.name ≢ 0 = let up = c.get.ensures.name.above in omega arith in
    let ends = subst (λ (n : ℕ). Ends (name_at r.slots.items) (length r.slots.items) n c.seek-at.result) c.get.ensures.value c.seek-at.ensures.ends in
    let is = ends-there r.slots.items r.held c.args.name c.seek-at.result r.table named ends c.requires.there in
    short-closed r.slots.items c.close_up.new.slots.items (used (name_at r.slots.items) (length r.slots.items)) c.seek-at.result c.args.name
    c.close_up.ensures.closed c.close_up.ensures.size is named

pub returns-clause-held : goal.returns-clause-held
unfolding short_of held_of
returns-clause-held c =
    let r = c.args.self.now in
    let named : c.args.name ≢ 0 = let up = c.get.ensures.name.above in omega arith in
    let ends = subst (λ (n : ℕ). Ends (name_at r.slots.items) (length r.slots.items) n c.seek-at.result) c.get.ensures.value c.seek-at.ensures.ends in
    let is = ends-there r.slots.items r.held c.args.name c.seek-at.result r.table named ends c.requires.there in
    let one = used_some (name_at r.slots.items) (length r.slots.items) c.seek-at.result c.seek-at.ensures.within (λ e. named (sym is ∙ e)) in
    let count = r.table.count_is in
    omega arith

pub returns-clause-room : goal.returns-clause-room
unfolding room_of
returns-clause-room c = refl
