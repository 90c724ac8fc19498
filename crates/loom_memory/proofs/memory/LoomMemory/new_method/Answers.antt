use Rattle.loom_memory.specs.Freed.{IsFreedMaking}
use Rattle.std.proofs.Common.{◌≡◌, ◌+◌, ◌<◌, ℤ, IsTrue, rules, subst}
use Rattle.std.specs.Prelude.{IfErr, OnOk}
use Rattle.std.specs.Int.{w16}
use Rattle.std.proofs.lemmas.Int.{to_z-of_z}
use mir.Val.{SFits}
use Rattle.long_names.specs.Words.{IsSmallInteger}
use Rattle.core_view.specs.Words.{int_of_short}
use Rattle.long_names.specs.Access.{Make, Nothing, heap_after}
use Rattle.long_names.specs.Objects.{OfMethod, body_made, body_words}
use Rattle.purger.specs.Purge.{HasRoom}
use Rattle.loom_host.specs.declared.outside.Role.TheVariants.{Work}
use Rattle.object_memory.specs.Contract.{Accessed, IfBounds}
use Rattle.loom_memory.specs.Memory.{loom_told}
use Rattle.loom_memory.specs.Gentle.{IsSpared}
use Rattle.loom_memory.specs.Own.{HasAllFor, HasSpaceFor, IsSparingMaking}
use Rattle.loom_memory.proofs.memory.LoomMemory.new_method.Goals as goal

pub returns-clause-makes : goal.returns-clause-makes
returns-clause-makes g c = record {
  access =
      let fits : SFits w16 c.args.header = search rules in
      let same = to_z-of_z w16 c.args.header fits in
      subst (λ z. Accessed (loom_told g.H.Host c.args.self.now) (loom_told g.H.Host c.make_kind.new.self) (Make c.args.to c.args.class (OfMethod z c.args.code)) (λ _. Nothing) c.make_kind.result) (subst (λ (z : ℤ). IsSmallInteger z → int_of_short c.short_int.result ≡ z) same c.short_int.ensures.value c.requires.may.ranges.0) c.make_kind.ensures.makes.access;
  name = c.make_kind.ensures.makes.name;
  there = c.make_kind.ensures.makes.there;
  fetches = c.make_kind.ensures.makes.fetches;
  early =
      let fits : SFits w16 c.args.header = search rules in
      let same = to_z-of_z w16 c.args.header fits in
      subst (λ z. IsTrue (g.H.Host.tells Work) → IfBounds (loom_told g.H.Host c.args.self.now).bounds (λ b. b.made < 8 → HasRoom c.args.self.now.pager.levels.parts (4 + body_words (body_made (OfMethod z c.args.code))) 27 → OnOk c.make_kind.result ((loom_told g.H.Host c.make_kind.new.self).heap ≡ heap_after (loom_told g.H.Host c.args.self.now).heap (loom_told g.H.Host c.args.self.now).regs (Make c.args.to c.args.class (OfMethod z c.args.code))))) (subst (λ (z : ℤ). IsSmallInteger z → int_of_short c.short_int.result ≡ z) same c.short_int.ensures.value c.requires.may.ranges.0) c.make_kind.ensures.makes.early;
  own =
      let fits : SFits w16 c.args.header = search rules in
      let same = to_z-of_z w16 c.args.header fits in
      subst (λ z. OnOk c.make_kind.result (IsSparingMaking g.H.Host c.args.self.now c.make_kind.new.self (OfMethod z c.args.code))) (subst (λ (z : ℤ). IsSmallInteger z → int_of_short c.short_int.result ≡ z) same c.short_int.ensures.value c.requires.may.ranges.0) c.make_kind.ensures.makes.own;
  minds = c.make_kind.ensures.makes.minds;
  full = c.make_kind.ensures.makes.full;
  spared =
      let fits : SFits w16 c.args.header = search rules in
      let same = to_z-of_z w16 c.args.header fits in
      subst (λ z. IfErr c.make_kind.result (λ f. HasSpaceFor c.args.self.now (OfMethod z c.args.code) → IsSpared g.H.Host c.args.self.now c.make_kind.new.self)) (subst (λ (z : ℤ). IsSmallInteger z → int_of_short c.short_int.result ≡ z) same c.short_int.ensures.value c.requires.may.ranges.0) c.make_kind.ensures.makes.spared;
  sure =
      let fits : SFits w16 c.args.header = search rules in
      let same = to_z-of_z w16 c.args.header fits in
      subst (λ z. IfErr c.make_kind.result (λ f. HasAllFor g.H.Host c.args.self.now (OfMethod z c.args.code) → ⊥)) (subst (λ (z : ℤ). IsSmallInteger z → int_of_short c.short_int.result ≡ z) same c.short_int.ensures.value c.requires.may.ranges.0) c.make_kind.ensures.makes.sure;
  gone =
      let fits : SFits w16 c.args.header = search rules in
      let same = to_z-of_z w16 c.args.header fits in
      subst (λ z. OnOk c.make_kind.result (IsFreedMaking g.H.Host c.args.self.now c.make_kind.new.self c.args.to c.args.class (OfMethod z c.args.code))) (subst (λ (z : ℤ). IsSmallInteger z → int_of_short c.short_int.result ≡ z) same c.short_int.ensures.value c.requires.may.ranges.0) c.make_kind.ensures.makes.gone;
}
