use Rattle.std.proofs.Common.{ℕ, ◌≢◌, length, Some, subst, sym, ap, ◌∙◌, arith}
use Rattle.resident_table.specs.declared.probe.Slot.{Slot}
use Rattle.resident_table.specs.Inside.{name_at, Ends}
use Rattle.resident_table.specs.Resident.{short_of}
use Rattle.resident_table.proofs.SlotLaws.{read, ends-empty, ends-held}
use Rattle.resident_table.proofs.resident.Resident.find.Goals as goal

pub returns-then-slot-eq0 : goal.returns-then-slot-eq0
unfolding short_of
returns-then-slot-eq0 c =
    let r = c.args.self.now in
    let named : c.args.name ≢ 0 = let up = c.get.ensures.name.above in omega arith in
    let ends = subst (λ (n : ℕ). Ends (name_at r.slots.items) (length r.slots.items) n c.seek-at.result) c.get.ensures.value c.seek-at.ensures.ends in
    let slot = read r.slots.items c.seek-at.result c.index-slot.result.now c.seek-at.ensures.within c.index-slot.ensures in
    sym (ends-empty r.slots.items r.held c.args.name c.seek-at.result r.table named ends (ap (λ (s : Slot). s.name) (sym slot) ∙ c.if-slot-eq0.true))

pub returns : goal.returns
unfolding short_of
returns c =
    let r = c.args.self.now in
    let named : c.args.name ≢ 0 = let up = c.get.ensures.name.above in omega arith in
    let ends = subst (λ (n : ℕ). Ends (name_at r.slots.items) (length r.slots.items) n c.seek-at.result) c.get.ensures.value c.seek-at.ensures.ends in
    let slot = read r.slots.items c.seek-at.result c.index-slot.result.now c.seek-at.ensures.within c.index-slot.ensures in
    ap (λ (s : Slot). Some s.short) slot
    ∙ sym (ends-held r.slots.items r.held c.args.name c.seek-at.result r.table named c.seek-at.ensures.within ends
    (λ e. c.if-slot-eq0.false (ap (λ (s : Slot). s.name) slot ∙ e)))
