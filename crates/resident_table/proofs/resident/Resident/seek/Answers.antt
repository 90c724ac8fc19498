use Rattle.std.proofs.Common.{ℕ, ◌≡◌, ◌<◌, length, sym, ap, ◌∙◌, subst, arith, inl, inr, ⊎_elim}
use Rattle.probing.proofs.HomeLaws.{home_of-below}
use Rattle.probing.specs.Search.{IsPassed}
use Rattle.probing.specs.Homes.{home_of}
use Rattle.probing.specs.Table.{used, turned}
use Rattle.probing.proofs.TableLaws.{passed_none, passed_more, not_all_passed}
use Rattle.resident_table.specs.declared.probe.Slot.{Slot}
use Rattle.resident_table.specs.Inside.{slot_at, name_at, Ends}
use Rattle.resident_table.proofs.SlotLaws.{read}
use Rattle.resident_table.proofs.resident.Resident.seek.Goals as goal

pub loop-step-init : goal.loop-step-init
loop-step-init c = record { passed = passed_none home_of-below _ _ _ }

pub loop-step-preserved : goal.loop-step-preserved
loop-step-preserved c =
    let r = c.args.self.now in
    let n = c.len-slots.result in
    let size : length r.slots.items ≡ n = let a = r.slots.ok.0 in omega (arith, c.len-slots.ensures) in
    let next = c.turn-at.ensures.within in
    let slot : c.index-slot.result.now ≡ slot_at r.slots.items c.turn-at.result = read r.slots.items c.turn-at.result c.index-slot.result.now (omega arith) c.index-slot.ensures in
    let here : c.index-slot.result.now.name ≡ name_at r.slots.items (turned (home_of c.args.name n) c.loop-step.step n) =
    ap (λ (s : Slot). s.name) slot ∙ ap (name_at r.slots.items) (c.turn-at.ensures.place
    ∙ ap (λ (h : ℕ). turned h c.loop-step.step n) c.home-home.ensures.place) in
    record {
      passed = passed_more home_of-below (name_at r.slots.items) n c.args.name c.loop-step.step c.loop-step.invariant.passed
          (λ e. c.if-slot-eq0.false (here ∙ e)) (λ e. c.if-slot-name.false (here ∙ e));
    }

pub returns-then-slot-eq0-clause-ends : goal.returns-then-slot-eq0-clause-ends
returns-then-slot-eq0-clause-ends c =
    let r = c.args.self.now in
    let n = c.len-slots.result in
    let size : length r.slots.items ≡ n = let a = r.slots.ok.0 in omega (arith, c.len-slots.ensures) in
    let next = c.turn-at.ensures.within in
    let slot : c.index-slot.result.now ≡ slot_at r.slots.items c.turn-at.result = read r.slots.items c.turn-at.result c.index-slot.result.now (omega arith) c.index-slot.ensures in
    subst (λ (m : ℕ). Ends (name_at r.slots.items) m c.args.name c.turn-at.result) (sym size)
    (⊎_elim
    (λ (e : c.index-slot.result.now.name ≡ 0). inr (record {
      steps = c.loop-step.step;
      within = c.loop-step-test.true;
      place_is = sym (c.turn-at.ensures.place ∙ ap (λ (h : ℕ). turned h c.loop-step.step n) c.home-home.ensures.place);
      empty = ap (λ (s : Slot). s.name) (sym slot) ∙ e;
      passed = c.loop-step.invariant.passed;
    }))
    (λ (e : (c.index-slot.result.now.name ≡ 0 → ⊥) × (c.index-slot.result.now.name ≡ c.args.name)). inl (ap (λ (s : Slot). s.name) (sym slot) ∙ e.1))
    c.then-slot-eq0.either)

pub unreachable-requires : goal.unreachable-requires
unreachable-requires c =
    let r = c.args.self.now in
    let n = c.len-slots.result in
    let size : length r.slots.items ≡ n = let a = r.slots.ok.0 in omega (arith, c.len-slots.ensures) in
    let all : c.loop-step.step ≡ n = omega arith in
    let count = r.table.count_is in let few = r.few in let room = r.size in
    not_all_passed home_of-below (name_at r.slots.items) n c.args.name (subst (λ (m : ℕ). used (name_at r.slots.items) m < m) size (omega arith))
    (subst (λ (k : ℕ). IsPassed home_of (name_at r.slots.items) n c.args.name k) all c.loop-step.invariant.passed)
