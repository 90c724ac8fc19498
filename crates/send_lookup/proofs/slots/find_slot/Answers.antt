use Rattle.std.proofs.Common.{◌≡◌, ◌+◌, ◌-◌, ◌<◌, ℕ, [], ◌∷◌, length, bit_and, Some, None, refl, sym, ◌∙◌, ap, arith}
use Rattle.long_names.specs.Objects.{pointers_of}
use Rattle.long_names.specs.Access.{Field}
use Rattle.object_memory.specs.Shape.{HasPartAt}
use Rattle.object_memory.proofs.Callers.{may_field}
use Rattle.object_memory.proofs.LooksLaws.{has_looked, ref_looked}
use Rattle.blue_model.specs.declared.cause.Cause.TheVariants.{Shape}
use Rattle.blue_model.specs.Lookup.{slot_of}
use Rattle.contexts.proofs.ServesLaws.{exits}
use Rattle.contexts.proofs.ReadLaws.{read_serves, later_refused, loaded, looks_loaded, looks_once}
use Rattle.send_lookup.proofs.SlotLaws.{dictionary, by_place, passed_more, slot_past, slot_nil, slot_found, is_selector, not_selector, differs}
use Rattle.send_lookup.proofs.slots.find_slot.Goals as goal

pub field-requires-clause-may : goal.field-requires-clause-may
field-requires-clause-may g c =
    let told = g.M.ObjectMemory.told in
    let here = c.loop-place.invariant in
    let there = c.requires.there in
    let slot : ℕ = c.slot_at-slot.result in
    let has : HasPartAt (told c.args.m.now) 21 pointers_of (λ xs. 2 + slot < length xs) = record {
      name = there.name;
      there = λ is. (let h = there.there is in (h.0, h.1, omega (arith, h.2, c.slot_at-slot.ensures.within)));
    } in
    may_field _ 22 21 (2 + slot) (has_looked (22 ∷ []) (told c.args.m.now) (told c.loop-place.m) 21 pointers_of (λ xs. 2 + slot < length xs) here.fit.ready here.looks refl has)

pub returns-in_err-field-clause-serves : goal.returns-in_err-field-clause-serves
returns-in_err-field-clause-serves g c = λ cpu.
    let here = c.loop-place.invariant in
    exits _ c.from_residual.ensures.1 (later_refused (22 ∷ []) Shape (slot_of _) 21 (Field 22 21 (2 + c.slot_at-slot.result)) refl refl refl c.requires.fit.ready here.fit.ready here.looks (ref_looked (22 ∷ []) _ _ 21 here.looks refl c.requires.there.name) c.in_err-field.ensures.access.called)

pub returns-then-is-clause-looks : goal.returns-then-is-clause-looks
returns-then-is-clause-looks g c =
    let here = c.loop-place.invariant in
    looks_once 22 _ _ (looks_loaded (22 ∷ []) _ _ _ 22 21 (2 + c.slot_at-slot.result) here.fit.ready here.looks c.in_ok-field.ensures.access.called)

pub returns-then-is-clause-serves : goal.returns-then-is-clause-serves
returns-then-is-clause-serves g c = λ cpu.
    let t = g.M.ObjectMemory.told c.args.m.now in
    let u = g.M.ObjectMemory.told c.loop-place.m in
    let w = g.M.ObjectMemory.told c.field.new.self in
    let here = c.loop-place.invariant in
    let slots : ℕ = c.args.fields - 2 in
    let slot : ℕ = c.slot_at-slot.result in
    let first : ℕ = bit_and c.hash.result (slots - 1) in
    read_serves (22 ∷ []) Shape (slot_of (t.regs 23)) 21 None refl c.requires.fit.ready c.in_ok-field.ensures.fit.ready (returns-then-is-clause-looks g c)
    (λ told.
    let round = dictionary t.heap (t.regs 21) (t.regs 23) c.args.fields slots first (c.requires.there.there told) c.requires.some refl (ap (λ n. bit_and n (slots - 1)) c.hash.ensures) in
    let held = by_place t.heap (t.regs 21) (w.regs 22) slots first c.loop-place.place slot c.slot_at-slot.ensures.slot (loaded (22 ∷ []) t u w 22 21 (2 + slot) here.fit.ready here.looks refl c.in_ok-field.ensures.access.called told) in
    slot_nil c.loop-place.place (w.regs 22) round c.loop-place-test.true (here.passed told) held (sym c.is.ensures ∙ c.if-is.true))

pub returns-then-same-clause-looks : goal.returns-then-same-clause-looks
returns-then-same-clause-looks g c =
    let here = c.loop-place.invariant in
    looks_once 22 _ _ (looks_loaded (22 ∷ []) _ _ _ 22 21 (2 + c.slot_at-slot.result) here.fit.ready here.looks c.in_ok-field.ensures.access.called)

pub returns-then-same-clause-serves : goal.returns-then-same-clause-serves
returns-then-same-clause-serves g c = λ cpu.
    let t = g.M.ObjectMemory.told c.args.m.now in
    let u = g.M.ObjectMemory.told c.loop-place.m in
    let w = g.M.ObjectMemory.told c.field.new.self in
    let here = c.loop-place.invariant in
    let slots : ℕ = c.args.fields - 2 in
    let slot : ℕ = c.slot_at-slot.result in
    let first : ℕ = bit_and c.hash.result (slots - 1) in
    let looks = returns-then-same-clause-looks g c in
    read_serves (22 ∷ []) Shape (slot_of (t.regs 23)) 21 (Some slot) refl c.requires.fit.ready c.in_ok-field.ensures.fit.ready looks
    (λ told.
    let round = dictionary t.heap (t.regs 21) (t.regs 23) c.args.fields slots first (c.requires.there.there told) c.requires.some refl (ap (λ n. bit_and n (slots - 1)) c.hash.ensures) in
    let held = by_place t.heap (t.regs 21) (w.regs 22) slots first c.loop-place.place slot c.slot_at-slot.ensures.slot (loaded (22 ∷ []) t u w 22 21 (2 + slot) here.fit.ready here.looks refl c.in_ok-field.ensures.access.called told) in
    slot_found c.loop-place.place (w.regs 22) round c.loop-place-test.true (here.passed told) held (sym c.is.ensures ∙ c.if-is.false) (is_selector (w.regs 22) (t.regs 23) c.requires.selector (c.same.ensures.0 c.if-same.true ∙ looks.regs 23 refl))
    ∙ ap (λ k. Some (Some k)) (sym c.slot_at-slot.ensures.slot))

pub loop-place-preserved : goal.loop-place-preserved
loop-place-preserved g c =
    let t = g.M.ObjectMemory.told c.args.m.now in
    let u = g.M.ObjectMemory.told c.loop-place.m in
    let w = g.M.ObjectMemory.told c.field.new.self in
    let here = c.loop-place.invariant in
    let load = c.in_ok-field.ensures in
    let slots : ℕ = c.args.fields - 2 in
    let slot : ℕ = c.slot_at-slot.result in
    let first : ℕ = bit_and c.hash.result (slots - 1) in
    let looks = looks_once 22 t w (looks_loaded (22 ∷ []) t u w 22 21 (2 + slot) here.fit.ready here.looks load.access.called) in
    let same : w.regs 23 ≡ t.regs 23 = looks.regs 23 refl in
    record {
      passed = λ told.
          let held = by_place t.heap (t.regs 21) (w.regs 22) slots first c.loop-place.place slot c.slot_at-slot.ensures.slot (loaded (22 ∷ []) t u w 22 21 (2 + slot) here.fit.ready here.looks refl load.access.called told) in
          passed_more t.heap (t.regs 21) (t.regs 23) slots first c.loop-place.place (w.regs 22) (here.passed told) held (sym c.is.ensures ∙ c.if-is.false)
          (not_selector (w.regs 22) (t.regs 23) c.requires.selector (λ e. differs _ _ c.same.ensures c.if-same.false (e ∙ sym same)));
      looks = looks;
      fit = record { sound = load.fit.sound; ready = load.fit.ready };
      lender = load.fit.lender ∙ here.lender;
      outside = load.fit.outside ∙ here.outside;
    }

pub returns-clause-serves : goal.returns-clause-serves
returns-clause-serves g c = λ cpu.
    let t = g.M.ObjectMemory.told c.args.m.now in
    let here = c.loop-place.invariant in
    let slots : ℕ = c.args.fields - 2 in
    let first : ℕ = bit_and c.hash.result (slots - 1) in
    let all : c.loop-place.place ≡ slots = omega (arith, c.loop-place-test.false, c.loop-place.auto.place-end, c.requires.some) in
    read_serves (22 ∷ []) Shape (slot_of (t.regs 23)) 21 None refl c.requires.fit.ready here.fit.ready here.looks
    (λ told.
    let round = dictionary t.heap (t.regs 21) (t.regs 23) c.args.fields slots first (c.requires.there.there told) c.requires.some refl (ap (λ n. bit_and n (slots - 1)) c.hash.ensures) in
    slot_past round (λ i low. here.passed told i (omega (arith, all))))
