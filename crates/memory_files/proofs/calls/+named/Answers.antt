use Rattle.std.proofs.Common.{refl, subst, sym}
use Rattle.memory_files.specs.Memory.{IsThen}
use Rattle.memory_files.proofs.Read.{hit, led-added-hit, led-added-miss, led-made-hit, led-made-kept, led-made-miss, led-removed-hit, led-removed-kept, led-removed-miss, led-renamed-from, led-renamed-kept, led-renamed-miss, led-renamed-to}
use Rattle.memory_files.proofs.calls.+named.Goals as goal

pub returns-then-settled : goal.returns-then-settled
returns-then-settled t c = led-made-kept c.args.calls.now c.in-Then.rest.value c.deref.result.now c.in-Then.call c.in-Made.path c.in-Made.field-1 c.args.settled c.args.target.now c.named.result (subst (IsThen c.in-Then.call c.in-Then.rest.value) (sym c.in-Then.is) (refl, refl)) c.deref.ensures c.in-Made.is c.if-settled.true c.named.ensures

pub returns-then-eq : goal.returns-then-eq
returns-then-eq t c = led-made-hit c.args.calls.now c.in-Then.rest.value c.in-Then.call c.in-Made.path c.in-Made.field-1 c.args.settled c.args.target.now c.args.next (subst (IsThen c.in-Then.call c.in-Then.rest.value) (sym c.in-Then.is) (refl, refl)) c.in-Made.is c.if-settled.false c.requires.next (hit c.in-Made.path.items c.as_slice.result.now c.args.target.now c.eq.result _ c.as_slice.ensures.value c.eq.ensures c.if-eq.true)

pub returns-else-eq : goal.returns-else-eq
returns-else-eq t c = led-made-miss c.args.calls.now c.in-Then.rest.value c.deref-else-eq.result.now c.in-Then.call c.in-Made.path c.in-Made.field-1 c.args.settled c.args.target.now c.named-else-eq.result (subst (IsThen c.in-Then.call c.in-Then.rest.value) (sym c.in-Then.is) (refl, refl)) c.deref-else-eq.ensures c.in-Made.is c.if-settled.false (hit c.in-Made.path.items c.as_slice.result.now c.args.target.now c.eq.result _ c.as_slice.ensures.value c.eq.ensures c.if-eq.false) c.named-else-eq.ensures

pub returns-then-eq-2 : goal.returns-then-eq-2
returns-then-eq-2 t c = led-added-hit c.args.calls.now c.in-Then.rest.value c.in-Then.call c.in-Added.path c.in-Added.field-1 c.args.settled c.args.target.now c.args.next (subst (IsThen c.in-Then.call c.in-Then.rest.value) (sym c.in-Then.is) (refl, refl)) c.in-Added.is c.requires.next (hit c.in-Added.path.items c.as_slice-in-Added.result.now c.args.target.now c.eq-in-Added.result _ c.as_slice-in-Added.ensures.value c.eq-in-Added.ensures c.if-eq-2.true)

pub returns-else-eq-2 : goal.returns-else-eq-2
returns-else-eq-2 t c = led-added-miss c.args.calls.now c.in-Then.rest.value c.deref-else-eq-2.result.now c.in-Then.call c.in-Added.path c.in-Added.field-1 c.args.settled c.args.target.now c.named-else-eq-2.result (subst (IsThen c.in-Then.call c.in-Then.rest.value) (sym c.in-Then.is) (refl, refl)) c.deref-else-eq-2.ensures c.in-Added.is (hit c.in-Added.path.items c.as_slice-in-Added.result.now c.args.target.now c.eq-in-Added.result _ c.as_slice-in-Added.ensures.value c.eq-in-Added.ensures c.if-eq-2.false) c.named-else-eq-2.ensures

pub returns-then-settled-2 : goal.returns-then-settled-2
returns-then-settled-2 t c = led-renamed-kept c.args.calls.now c.in-Then.rest.value c.deref-then-settled-2.result.now c.in-Then.call c.in-Renamed.from c.in-Renamed.to c.args.settled c.args.target.now c.named-then-settled-2.result (subst (IsThen c.in-Then.call c.in-Then.rest.value) (sym c.in-Then.is) (refl, refl)) c.deref-then-settled-2.ensures c.in-Renamed.is c.if-settled-2.true c.named-then-settled-2.ensures

pub returns-then-eq-3 : goal.returns-then-eq-3
returns-then-eq-3 t c = led-renamed-to c.args.calls.now c.in-Then.rest.value c.deref-then-eq-3.result.now c.in-Then.call c.in-Renamed.from c.in-Renamed.to c.args.settled c.args.target.now c.as_slice-then-eq-3.result.now c.named-then-eq-3.result (subst (IsThen c.in-Then.call c.in-Then.rest.value) (sym c.in-Then.is) (refl, refl)) c.deref-then-eq-3.ensures c.in-Renamed.is c.if-settled-2.false (hit c.in-Renamed.to.items c.as_slice-else-settled-2.result.now c.args.target.now c.eq-else-settled-2.result _ c.as_slice-else-settled-2.ensures.value c.eq-else-settled-2.ensures c.if-eq-3.true) c.as_slice-then-eq-3.ensures.value c.named-then-eq-3.ensures

pub returns-then-eq-4 : goal.returns-then-eq-4
returns-then-eq-4 t c = led-renamed-from c.args.calls.now c.in-Then.rest.value c.in-Then.call c.in-Renamed.from c.in-Renamed.to c.args.settled c.args.target.now (subst (IsThen c.in-Then.call c.in-Then.rest.value) (sym c.in-Then.is) (refl, refl)) c.in-Renamed.is c.if-settled-2.false (hit c.in-Renamed.to.items c.as_slice-else-settled-2.result.now c.args.target.now c.eq-else-settled-2.result _ c.as_slice-else-settled-2.ensures.value c.eq-else-settled-2.ensures c.if-eq-3.false) (hit c.in-Renamed.from.items c.as_slice-else-eq-3.result.now c.args.target.now c.eq-else-eq-3.result _ c.as_slice-else-eq-3.ensures.value c.eq-else-eq-3.ensures c.if-eq-4.true)

pub returns-else-eq-4 : goal.returns-else-eq-4
returns-else-eq-4 t c = led-renamed-miss c.args.calls.now c.in-Then.rest.value c.deref-else-eq-4.result.now c.in-Then.call c.in-Renamed.from c.in-Renamed.to c.args.settled c.args.target.now c.named-else-eq-4.result (subst (IsThen c.in-Then.call c.in-Then.rest.value) (sym c.in-Then.is) (refl, refl)) c.deref-else-eq-4.ensures c.in-Renamed.is c.if-settled-2.false (hit c.in-Renamed.to.items c.as_slice-else-settled-2.result.now c.args.target.now c.eq-else-settled-2.result _ c.as_slice-else-settled-2.ensures.value c.eq-else-settled-2.ensures c.if-eq-3.false) (hit c.in-Renamed.from.items c.as_slice-else-eq-3.result.now c.args.target.now c.eq-else-eq-3.result _ c.as_slice-else-eq-3.ensures.value c.eq-else-eq-3.ensures c.if-eq-4.false) c.named-else-eq-4.ensures

pub returns-then-settled-3 : goal.returns-then-settled-3
returns-then-settled-3 t c = led-removed-kept c.args.calls.now c.in-Then.rest.value c.deref-then-settled-3.result.now c.in-Then.call c.in-Removed.path c.args.settled c.args.target.now c.named-then-settled-3.result (subst (IsThen c.in-Then.call c.in-Then.rest.value) (sym c.in-Then.is) (refl, refl)) c.deref-then-settled-3.ensures c.in-Removed.is c.if-settled-3.true c.named-then-settled-3.ensures

pub returns-then-eq-5 : goal.returns-then-eq-5
returns-then-eq-5 t c = led-removed-hit c.args.calls.now c.in-Then.rest.value c.in-Then.call c.in-Removed.path c.args.settled c.args.target.now (subst (IsThen c.in-Then.call c.in-Then.rest.value) (sym c.in-Then.is) (refl, refl)) c.in-Removed.is c.if-settled-3.false (hit c.in-Removed.path.items c.as_slice-else-settled-3.result.now c.args.target.now c.eq-else-settled-3.result _ c.as_slice-else-settled-3.ensures.value c.eq-else-settled-3.ensures c.if-eq-5.true)

pub returns-else-eq-5 : goal.returns-else-eq-5
returns-else-eq-5 t c = led-removed-miss c.args.calls.now c.in-Then.rest.value c.deref-else-eq-5.result.now c.in-Then.call c.in-Removed.path c.args.settled c.args.target.now c.named-else-eq-5.result (subst (IsThen c.in-Then.call c.in-Then.rest.value) (sym c.in-Then.is) (refl, refl)) c.deref-else-eq-5.ensures c.in-Removed.is c.if-settled-3.false (hit c.in-Removed.path.items c.as_slice-else-settled-3.result.now c.args.target.now c.eq-else-settled-3.result _ c.as_slice-else-settled-3.ensures.value c.eq-else-settled-3.ensures c.if-eq-5.false) c.named-else-eq-5.ensures
