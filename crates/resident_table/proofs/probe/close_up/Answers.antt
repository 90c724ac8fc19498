use Rattle.std.proofs.Common.{ℕ, ◌≡◌, ◌<◌, length, sym, ap, ◌∙◌, subst, arith}
use Rattle.probing.specs.Homes.{home_of}
use Rattle.probing.proofs.HomeLaws.{home_of-below}
use Rattle.std.proofs.Math.ListN.{length-set}
use Rattle.std.specs.List.{slice_set}
use Rattle.probing.specs.Search.{Puts, IsClosedUp}
use Rattle.probing.specs.Table.{used, apart, IsTable}
use Rattle.probing.proofs.ClosingLaws.{closing_start, step_left, step_moved, step_end, not_all_met}
use Rattle.resident_table.specs.declared.probe.Slot.{Slot}
use Rattle.resident_table.specs.Inside.{slot_at, name_at, short_at, no_slot}
use Rattle.resident_table.proofs.SlotLaws.{puts-name, puts-short, read}
use Rattle.resident_table.proofs.probe.close_up.Goals as goal
use Rattle.resident_table.proofs.probe.close_up.Goals.{then-distance-gap, else-distance-gap}

pub loop-step-init : goal.loop-step-init
loop-step-init c =
    let size : length c.args.slots.now.items ≡ c.len-size.result = let a = c.args.slots.now.ok.0 in omega (arith, c.len-size.ensures) in
    let f = name_at c.args.slots.now.items in
    let x = short_at c.args.slots.now.items in
    let within = c.requires.within in
    record {
      low = omega arith;
      high = omega arith;
      within = omega arith;
      same = size;
      closing = closing_start home_of-below f x c.len-size.result (used f c.len-size.result) c.args.at
          (subst (λ (n : ℕ). IsTable home_of f n (used f n)) size c.requires.table) (omega arith) c.requires.named;
    }

pub loop-step-preserved : goal.loop-step-preserved
loop-step-preserved c =
    let l = c.loop-step in
    let inv = l.invariant in
    let read_slot = c.index-slot.result.now in
    let place = c.turn-place.result in
    let n = c.len-size.result in
    let f = name_at c.args.slots.now.items in
    let x = short_at c.args.slots.now.items in
    let g = name_at l.slots.items in
    let y = short_at l.slots.items in
    let same = inv.same in let low = inv.low in let high = inv.high in let within = inv.within in
    let at : c.args.at < n = let a = c.args.slots.now.ok.0 in let b = c.requires.within in omega (arith, c.len-size.ensures) in
    let next = c.turn-place.ensures.within in
    let slot : read_slot ≡ slot_at l.slots.items place = read l.slots.items place read_slot (omega arith) c.index-slot.ensures in
    let name : read_slot.name ≡ g place = ap (λ (s : Slot). s.name) slot in
    let far = c.distance.ensures ∙ ap (λ (h : ℕ). apart h place n) c.home-home.ensures.place in
    elim c.if-distance-gap.branch [
      | then-distance-gap w ↦ rw (w.hole-is, w.gap-is, w.slots-is) (record {
        low = omega arith;
        high = omega arith;
        within = omega arith;
        same = inv.same;
        closing = step_left home_of-below f g x y n (used f n) c.args.at l.hole l.gap l._step place c.distance.result read_slot.name inv.closing at within low
            high c.loop-step-test.true c.turn-place.ensures.place name c.if-slot-eq0.false far w.if-distance-gap.true;
      })
      | else-distance-gap w ↦ rw (w.hole-is, w.gap-is, w.slots-is) (record {
        low = omega arith;
        high = omega arith;
        within = omega arith;
        same = length-set l.slots.items l.hole read_slot ∙ inv.same;
        closing = step_moved home_of-below f g x y n (used f n) c.args.at l.hole l.gap l._step place c.distance.result read_slot.name inv.closing at within low
            high c.loop-step-test.true c.turn-place.ensures.place name _ _ c.if-slot-eq0.false far w.if-distance-gap.false
            (puts-name l.slots.items n l.hole read_slot (omega arith))
            (subst (λ (s : ℕ). Puts y (short_at (slice_set l.slots.items l.hole read_slot)) n l.hole s) (ap (λ (s : Slot). s.short) slot)
            (puts-short l.slots.items n l.hole read_slot (omega arith)));
      })
    ]

pub returns-then-slot-eq0-clause-closed : goal.returns-then-slot-eq0-clause-closed
returns-then-slot-eq0-clause-closed c =
    let l = c.loop-step in
    let inv = l.invariant in
    let read_slot = c.index-slot.result.now in
    let place = c.turn-place.result in
    let n = c.len-size.result in
    let f = name_at c.args.slots.now.items in
    let x = short_at c.args.slots.now.items in
    let left = slice_set l.slots.items l.hole no_slot in
    let same = inv.same in let low = inv.low in let high = inv.high in let within = inv.within in
    let size : length c.args.slots.now.items ≡ n = let a = c.args.slots.now.ok.0 in omega (arith, c.len-size.ensures) in
    let at : c.args.at < n = let b = c.requires.within in omega arith in
    let next = c.turn-place.ensures.within in
    let slot : read_slot ≡ slot_at l.slots.items place = read l.slots.items place read_slot (omega arith) c.index-slot.ensures in
    subst (λ (m : ℕ). IsClosedUp home_of f (name_at left) x (short_at left) m (used f m) c.args.at) (sym size)
    (step_end home_of-below f (name_at l.slots.items) x (short_at l.slots.items) n (used f n) c.args.at l.hole l.gap l._step place 0 read_slot.name inv.closing
    at within low high c.loop-step-test.true c.turn-place.ensures.place (ap (λ (s : Slot). s.name) slot) (name_at left) (short_at left) 0
    c.if-slot-eq0.true (puts-name l.slots.items n l.hole no_slot (omega arith)) (puts-short l.slots.items n l.hole no_slot (omega arith)))

pub unreachable-requires : goal.unreachable-requires
unreachable-requires c =
    let f = name_at c.args.slots.now.items in
    let x = short_at c.args.slots.now.items in
    let n = c.len-size.result in
    let size : length c.args.slots.now.items ≡ n = let a = c.args.slots.now.ok.0 in omega (arith, c.len-size.ensures) in
    let at : c.args.at < n = let b = c.requires.within in omega arith in
    not_all_met f n c.args.at at (subst (λ (m : ℕ). used f m < m) size c.requires.room) (λ e l. c.loop-step.invariant.closing.met e (omega arith))
