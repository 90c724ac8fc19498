use Rattle.std.proofs.Common.{◌≡◌, ℕ, ◌≤◌, true, refl, sym, ◌∙◌, ap, subst, arith}
use Rattle.object_table.specs.Entries.{is_short}
use Rattle.core_view.specs.Counts.{outside}
use Rattle.core_view.proofs.Steps.{Stays-trans, RefStep-trans}
use Rattle.leaf_lambda.specs.Parts.{core_of}
use Rattle.purger.specs.declared.room.Pinned.{Pinned}
use Rattle.loom_memory.specs.Memory.{IsNamedIn, loom_told, loom_outside, told_of, pin_in, IsKept}
use Rattle.loom_memory.proofs.RegLaws.{few-held, IsSwap, swapped, kept-rooted, over-then}
use Rattle.loom_memory.proofs.SlotLaws.{pin-held, pinned-used, slot-told, slot-kept}
use Rattle.method_cache.specs.Found.{found}
use Rattle.loom_memory.proofs.CacheLaws.{cache-same}
use Rattle.loom_memory.proofs.GentleLaws.{steady-is}
use Rattle.loom_memory.proofs.ExactLaws.{exact-counts, swap-counts}
use Rattle.loom_memory.proofs.LivingLaws.{thin-swapped}
use Rattle.core_view.proofs.Steps.{outside-used}
use Rattle.object_memory.specs.Told.{Told}
use Rattle.loom_memory.proofs.WholeLaws.{ref-whole}
use Rattle.loom_memory.proofs.memory.LoomMemory.put_slot.Goals as goal
use Rattle.loom_memory.proofs.memory.LoomMemory.put_slot.Given as given

pub hold_word-requires-clause-used : goal.hold_word-requires-clause-used
hold_word-requires-clause-used g c = pinned-used (core_of c.args.self.now.pager.levels.parts) c.args.w c.requires.body

pub hold_word-requires-clause-light : goal.hold_word-requires-clause-light
hold_word-requires-clause-light g c = let m = c.args.self.now in few-held (core_of m.pager.levels.parts) m.regs m.pager.pinned c.args.w (kept-rooted m.pager.levels.parts m.regs m.pager.pinned m.ledger m.pager.levels.whole c.requires.sound.kept) c.requires.sound.kept.many

pub drop_word-requires-clause-held : goal.drop_word-requires-clause-held
drop_word-requires-clause-held g c = λ is.
    let m = c.args.self.now in
    let at = c.pin_at-old.ensures in
    let out : 1 ≤ outside (core_of m.pager.levels.parts) c.pin_at-old.result = subst (λ (w : ℕ). 1 ≤ outside (core_of m.pager.levels.parts) w) (sym at)
    (pin-held (core_of m.pager.levels.parts) m.regs m.pager.pinned c.args.slot (kept-rooted m.pager.levels.parts m.regs m.pager.pinned m.ledger m.pager.levels.whole c.requires.sound.kept) c.requires.slot (subst (λ (w : ℕ). is_short w ≡ true) at is)) in
    let more = c.hold_word.ensures.held.one_more c.pin_at-old.result in
    omega arith

pub note_gone-requires-clause-used : goal.note_gone-requires-clause-used
note_gone-requires-clause-used g c = λ is.
    let m = c.args.self.now in
    let at = c.pin_at-old.ensures in
    let out : 1 ≤ outside (core_of m.pager.levels.parts) c.pin_at-old.result = subst (λ (w : ℕ). 1 ≤ outside (core_of m.pager.levels.parts) w) (sym at)
    (pin-held (core_of m.pager.levels.parts) m.regs m.pager.pinned c.args.slot (kept-rooted m.pager.levels.parts m.regs m.pager.pinned m.ledger m.pager.levels.whole c.requires.sound.kept) c.requires.slot (subst (λ (w : ℕ). is_short w ≡ true) at is)) in
    (c.drop_word.ensures.dropped.live c.pin_at-old.result (c.hold_word.ensures.held.live c.pin_at-old.result (outside-used (core_of m.pager.levels.parts) c.pin_at-old.result c.args.self.now.pager.levels.whole.parts.core out)).0).0

swap-of : (g : given.Over) (c : goal.After-note_gone g) → IsSwap (core_of c.args.self.now.pager.levels.parts) (core_of c.drop_word.new.p) c.args.w (pin_in c.args.self.now.pager.pinned c.args.slot)
swap-of g c = subst (λ (w : ℕ). IsSwap (core_of c.args.self.now.pager.levels.parts) (core_of c.drop_word.new.p) c.args.w w) c.pin_at-old.ensures
    (swapped (core_of c.args.self.now.pager.levels.parts) (core_of c.hold_word.new.p) (core_of c.drop_word.new.p) c.args.w c.pin_at-old.result c.args.self.now.pager.levels.whole.parts.core c.drop_word.ensures.parts.core
    (Stays-trans (core_of c.args.self.now.pager.levels.parts) (core_of c.hold_word.new.p) (core_of c.drop_word.new.p) c.hold_word.ensures.held.stays c.drop_word.ensures.dropped.stays)
    (RefStep-trans (core_of c.args.self.now.pager.levels.parts) (core_of c.hold_word.new.p) (core_of c.drop_word.new.p) c.hold_word.ensures.held.step c.drop_word.ensures.dropped.step)
    c.hold_word.ensures.held c.drop_word.ensures.dropped)

pub returns-clause-told : goal.returns-clause-told
unfolding loom_told
returns-clause-told g c =
    let m = c.args.self.now in
    ap (λ (x : Pinned). told_of g.H.Host m.pager.levels.disk.host.now m.pager.levels.disk.rest (core_of c.drop_word.new.p) m.regs x m.ledger) c.put_pin.ensures
    ∙ slot-told g.H.Host m.pager.levels.disk.host.now m.pager.levels.disk.rest (core_of m.pager.levels.parts) (core_of c.drop_word.new.p) m.regs m.pager.pinned m.ledger c.args.slot c.args.w
    (kept-rooted m.pager.levels.parts m.regs m.pager.pinned m.ledger m.pager.levels.whole c.requires.sound.kept) c.drop_word.ensures.parts.core c.requires.sound.kept.cached (swap-of g c) c.requires.slot c.requires.body c.requires.sound.over.backed

pub returns-clause-leaves : goal.returns-clause-leaves
unfolding loom_outside
returns-clause-leaves g c = record {
  sound =
      let m = c.args.self.now in
      let kept_ = subst (λ (x : Pinned). IsKept c.drop_word.new.p m.regs x m.ledger) (sym c.put_pin.ensures)
      (slot-kept m.pager.levels.parts c.drop_word.new.p m.regs m.pager.pinned m.ledger c.args.slot c.args.w m.pager.levels.whole c.requires.sound.kept c.drop_word.ensures.parts (swap-of g c) c.requires.slot c.requires.body (c.drop_word.ensures.segment ∙ c.hold_word.ensures.segment)) in
      let exact_ = exact-counts g.H.Host m.pager.levels.parts c.drop_word.new.p m.pager.levels.disk.host.now m.pager.levels.disk.rest m.ledger.next c.requires.sound.exact c.drop_word.ensures.parts (swap-of g c).stays
      (swap-counts (core_of m.pager.levels.parts) (core_of c.hold_word.new.p) (core_of c.drop_word.new.p) c.args.w c.pin_at-old.result c.hold_word.ensures.held c.hold_word.ensures.find c.drop_word.ensures.dropped) in
      record {
        kept = kept_;
        over = over-then g.H.Host m.pager.levels.disk.host.now m.pager.levels.disk.rest (core_of m.pager.levels.parts) (core_of c.drop_word.new.p) m.ledger (swap-of g c).stays (swap-of g c).step c.requires.sound.over;
        soon = c.requires.sound.soon;
        exact = exact_;
        thin = thin-swapped g.H.Host m _ c.args.w (pin_in m.pager.pinned c.args.slot) c.requires.sound kept_ exact_ (ap (λ (t : Told). t.heap) (returns-clause-told g c)) (swap-of g c) (λ on. c.note_gone.ensures.was on) (λ on. subst (λ (k : ℕ). is_short k ≡ true → IsNamedIn (core_of c.drop_word.new.p) k) c.pin_at-old.ensures (c.note_gone.ensures.named on));
      };
  lender = refl;
  outside = refl;
}

pub returns-clause-steady : goal.returns-clause-steady
unfolding loom_told
returns-clause-steady g c =
    let m = c.args.self.now in
    steady-is g.H.Host m _ (swap-of g c).step (cache-same (core_of m.pager.levels.parts) (core_of c.drop_word.new.p) (found m.ledger.rows) m.ledger.mark m.ledger.begun c.args.self.now.pager.levels.whole.parts.core c.drop_word.ensures.parts.core (swap-of g c).marks c.requires.sound.kept.cached) refl refl refl

pub returns-clause-stays : goal.returns-clause-stays
returns-clause-stays g c = λ on named. c.note_gone.ensures.stays on (subst (λ (k : ℕ). is_short k ≡ true → IsNamedIn (core_of c.drop_word.new.p) k) (sym c.pin_at-old.ensures) named)

pub invariant_of-levels : goal.invariant_of-levels
invariant_of-levels g c =
    let l = c.args.self.now.pager.levels in
    let one = ref-whole l.parts c.hold_word.new.p l.whole c.hold_word.ensures.parts c.hold_word.ensures.held.step c.hold_word.ensures.held.others in
    record { whole = ref-whole c.hold_word.new.p c.drop_word.new.p one c.drop_word.ensures.parts c.drop_word.ensures.dropped.step c.drop_word.ensures.dropped.others }
