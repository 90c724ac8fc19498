use Rattle.std.proofs.Common.{true, sym, subst}
use Rattle.object_table.specs.Entries.{is_short}
use Rattle.loom_memory.specs.Memory.{IsNamedIn}
use Rattle.loom_memory.proofs.RegLaws.{word-is}
use Rattle.std.proofs.Common.{◌≡◌, ℕ, [], Some, refl, ◌∙◌, ap, arith}
use Rattle.std.specs.List.{slice_get, slice_index_or}
use Rattle.long_names.specs.State.{set_register}
use Rattle.core_view.specs.Words.{meant}
use Rattle.core_view.proofs.Steps.{Stays-trans, RefStep-trans}
use Rattle.leaf_lambda.specs.Parts.{core_of}
use Rattle.loom_memory.specs.Memory.{loom_told, told_of, loom_outside}
use Rattle.loom_memory.proofs.RegLaws.{few-held, IsSwap, register-held, swapped, told-then, old-there, kept-rooted, kept-then, over-then}
use Rattle.method_cache.specs.Found.{found}
use Rattle.loom_memory.proofs.CacheLaws.{cache-same}
use Rattle.loom_memory.proofs.GentleLaws.{steady-is}
use Rattle.loom_memory.proofs.ExactLaws.{exact-counts, swap-counts}
use Rattle.loom_memory.proofs.LivingLaws.{thin-swapped}
use Rattle.core_view.proofs.Steps.{outside-used}
use Rattle.object_memory.specs.Told.{Told}
use Rattle.loom_memory.proofs.WholeLaws.{ref-whole}
use Rattle.loom_memory.proofs.memory.LoomMemory.replace_word.Goals as goal
use Rattle.loom_memory.proofs.memory.LoomMemory.replace_word.Given as given

pub hold_word-requires-clause-light : goal.hold_word-requires-clause-light
hold_word-requires-clause-light g c = let m = c.args.self.now in few-held (core_of m.pager.levels.parts) m.regs m.pager.pinned c.args.w (kept-rooted m.pager.levels.parts m.regs m.pager.pinned m.ledger m.pager.levels.whole c.requires.sound.kept) c.requires.sound.kept.many

pub drop_word-requires-clause-held : goal.drop_word-requires-clause-held
drop_word-requires-clause-held g c = λ is.
    let m = c.args.self.now in
    let old = slice_index_or m.regs c.index.result 0 in
    let out = register-held (core_of m.pager.levels.parts) m.regs m.pager.pinned c.index.result old (kept-rooted m.pager.levels.parts m.regs m.pager.pinned m.ledger m.pager.levels.whole c.requires.sound.kept) (old-there m.regs c.index.result c.index.result c.index.result refl refl c.index.ensures.within c.requires.sound.kept.many) is in
    let more = c.hold_word.ensures.held.one_more old in
    omega arith

pub note_gone-requires-clause-used : goal.note_gone-requires-clause-used
note_gone-requires-clause-used g c = λ is.
    let m = c.args.self.now in
    let old = slice_index_or m.regs c.index.result 0 in
    let out = register-held (core_of m.pager.levels.parts) m.regs m.pager.pinned c.index.result old (kept-rooted m.pager.levels.parts m.regs m.pager.pinned m.ledger m.pager.levels.whole c.requires.sound.kept) (old-there m.regs c.index.result c.index.result c.index.result refl refl c.index.ensures.within c.requires.sound.kept.many) is in
    (c.drop_word.ensures.dropped.live old (c.hold_word.ensures.held.live old (outside-used (core_of m.pager.levels.parts) old c.args.self.now.pager.levels.whole.parts.core out)).0).0

swap-of : (g : given.Over) (c : goal.After-note_gone g) → IsSwap (core_of c.args.self.now.pager.levels.parts) (core_of c.drop_word.new.p) c.args.w (slice_index_or c.args.self.now.regs c.index.result 0)
swap-of g c = swapped (core_of c.args.self.now.pager.levels.parts) (core_of c.hold_word.new.p) (core_of c.drop_word.new.p) c.args.w (slice_index_or c.args.self.now.regs c.index.result 0) c.args.self.now.pager.levels.whole.parts.core c.drop_word.ensures.parts.core
    (Stays-trans (core_of c.args.self.now.pager.levels.parts) (core_of c.hold_word.new.p) (core_of c.drop_word.new.p) c.hold_word.ensures.held.stays c.drop_word.ensures.dropped.stays)
    (RefStep-trans (core_of c.args.self.now.pager.levels.parts) (core_of c.hold_word.new.p) (core_of c.drop_word.new.p) c.hold_word.ensures.held.step c.drop_word.ensures.dropped.step)
    c.hold_word.ensures.held c.drop_word.ensures.dropped

there : (g : given.Over) (c : goal.After-note_gone g) → slice_get c.args.self.now.regs c.index-2.result ≡ Some (slice_index_or c.args.self.now.regs c.index.result 0)
there g c = old-there c.args.self.now.regs c.index.result c.index-2.result c.args.to c.index.ensures.same c.index-2.ensures.same c.index.ensures.within c.requires.sound.kept.many

pub returns-clause-told : goal.returns-clause-told
unfolding loom_told
returns-clause-told g c =
    let m = c.args.self.now in
    told-then g.H.Host m.pager.levels.disk.host.now m.pager.levels.disk.rest (core_of m.pager.levels.parts) (core_of c.drop_word.new.p) m.regs m.pager.pinned m.ledger c.index-2.result c.args.w (slice_index_or m.regs c.index.result 0)
    (kept-rooted m.pager.levels.parts m.regs m.pager.pinned m.ledger m.pager.levels.whole c.requires.sound.kept) c.drop_word.ensures.parts.core c.requires.sound.kept.cached (swap-of g c) (let many = c.requires.sound.kept.many in let low = c.index-2.ensures.within in omega arith) c.requires.used c.requires.sound.over.backed
    ∙ ap (λ (n : ℕ). record (told_of g.H.Host m.pager.levels.disk.host.now m.pager.levels.disk.rest (core_of m.pager.levels.parts) m.regs m.pager.pinned m.ledger) { regs = set_register (told_of g.H.Host m.pager.levels.disk.host.now m.pager.levels.disk.rest (core_of m.pager.levels.parts) m.regs m.pager.pinned m.ledger).regs n (meant (core_of m.pager.levels.parts).entries [] 0 c.args.w) }) c.index-2.ensures.same

pub returns-clause-leaves : goal.returns-clause-leaves
unfolding loom_outside
returns-clause-leaves g c = record {
  sound =
      let m = c.args.self.now in
      let kept_ = kept-then m.pager.levels.parts c.drop_word.new.p m.regs m.pager.pinned m.ledger c.index-2.result c.args.w (slice_index_or m.regs c.index.result 0) m.pager.levels.whole c.requires.sound.kept c.drop_word.ensures.parts (swap-of g c) (there g c) (let many = c.requires.sound.kept.many in let low = c.index-2.ensures.within in omega arith) c.requires.some (c.drop_word.ensures.segment ∙ c.hold_word.ensures.segment) in
      let exact_ = exact-counts g.H.Host m.pager.levels.parts c.drop_word.new.p m.pager.levels.disk.host.now m.pager.levels.disk.rest m.ledger.next c.requires.sound.exact c.drop_word.ensures.parts (swap-of g c).stays
      (swap-counts (core_of m.pager.levels.parts) (core_of c.hold_word.new.p) (core_of c.drop_word.new.p) c.args.w (slice_index_or m.regs c.index.result 0) c.hold_word.ensures.held c.hold_word.ensures.find c.drop_word.ensures.dropped) in
      record {
        kept = kept_;
        over = over-then g.H.Host m.pager.levels.disk.host.now m.pager.levels.disk.rest (core_of m.pager.levels.parts) (core_of c.drop_word.new.p) m.ledger (swap-of g c).stays (swap-of g c).step c.requires.sound.over;
        soon = c.requires.sound.soon;
        exact = exact_;
        thin = thin-swapped g.H.Host m _ c.args.w (slice_index_or m.regs c.index.result 0) c.requires.sound kept_ exact_ (ap (λ (t : Told). t.heap) (returns-clause-told g c)) (swap-of g c) (λ on. c.note_gone.ensures.was on) (λ on. c.note_gone.ensures.named on);
      };
  lender = refl;
  outside = refl;
}

pub returns-clause-steady : goal.returns-clause-steady
unfolding loom_told
returns-clause-steady g c =
    let m = c.args.self.now in
    steady-is g.H.Host m _ (swap-of g c).step (cache-same (core_of m.pager.levels.parts) (core_of c.drop_word.new.p) (found m.ledger.rows) m.ledger.mark m.ledger.begun c.args.self.now.pager.levels.whole.parts.core c.drop_word.ensures.parts.core (swap-of g c).marks c.requires.sound.kept.cached) refl refl refl

pub returns-clause-stays : goal.returns-clause-stays
returns-clause-stays g c = λ on named.
    let m = c.args.self.now in
    c.note_gone.ensures.stays on (subst (λ (k : ℕ). is_short k ≡ true → IsNamedIn (core_of c.drop_word.new.p) k) (sym (word-is m.regs c.index.result c.args.to c.index.ensures.same c.index.ensures.within c.requires.sound.kept.many)) named)

pub invariant_of-levels : goal.invariant_of-levels
invariant_of-levels g c =
    let l = c.args.self.now.pager.levels in
    let one = ref-whole l.parts c.hold_word.new.p l.whole c.hold_word.ensures.parts c.hold_word.ensures.held.step c.hold_word.ensures.held.others in
    record { whole = ref-whole c.hold_word.new.p c.drop_word.new.p one c.drop_word.ensures.parts c.drop_word.ensures.dropped.step c.drop_word.ensures.dropped.others }
