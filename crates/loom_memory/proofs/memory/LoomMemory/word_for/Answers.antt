use Rattle.std.proofs.Common.{[], Some, refl, sym, ◌∙◌, ap, subst}
use Rattle.long_names.specs.Words.{IsSmallInteger, IsValue}
use Rattle.long_names.specs.declared.value.Value.{Value}
use Rattle.long_names.specs.declared.value.Value.TheVariants.{Int}
use Rattle.object_memory.proofs.ShapeLaws.{int_is, small_number}
use Rattle.core_view.proofs.Words.{meant-odd}
use Rattle.core_segment.specs.Segment.{size_of}
use Rattle.leaf_lambda.specs.Parts.{core_of}
use Rattle.disk_objects.specs.Function.{disk_of}
use Rattle.loom_memory.specs.Memory.{loom_told, loom_outside}
use Rattle.loom_memory.proofs.RegLaws.{kept-rooted, over-then}
use Rattle.loom_memory.proofs.CalmLaws.{calm-kept}
use Rattle.loom_memory.proofs.LastLaws.{told-still, leaf-keeps}
use Rattle.loom_memory.proofs.LambdaLaws.{leaf-calm}
use Rattle.method_cache.specs.Found.{found}
use Rattle.loom_memory.proofs.CacheLaws.{cache-same}
use Rattle.loom_memory.proofs.GentleLaws.{steady-is, steady-refl}
use Rattle.loom_memory.proofs.ExactLaws.{exact-leaf, name-value}
use Rattle.loom_memory.proofs.DeadLaws.{thin-told}
use Rattle.loom_memory.proofs.WholeLaws.{ref-whole}
use Rattle.loom_memory.proofs.memory.LoomMemory.word_for.Goals as goal

pub returns-in-Some-clause-means : goal.returns-in-Some-clause-means
returns-in-Some-clause-means g c =
    let value = int_is c.args.v.now c.in-Some.number (sym c.in-Some.ensures) in
    let range : IsSmallInteger c.in-Some.number = subst (λ (v : Value). IsValue v) value c.requires.value in
    let is = small_number c.in-Some.number range in
    meant-odd (core_of c.args.self.now.pager.levels.parts).entries [] 0 c.short_int.result c.short_int.ensures.odd ∙ ap Int (c.short_int.ensures.value (subst IsSmallInteger (sym is) range) ∙ is) ∙ sym value

pub returns-in-Some-find_or_leaf-clause-enters : goal.returns-in-Some-find_or_leaf-clause-enters
unfolding loom_told
returns-in-Some-find_or_leaf-clause-enters g c = record {
  told =
      let m = c.args.self.now in
      let step = c.in-Some-find_or_leaf.ensures.step in
      let core = c.args.self.now.pager.levels.whole.parts.core in
      let now = c.in-Some-find_or_leaf.ensures.parts.core in
      told-still g.H.Host m.pager.levels.disk.host.now m.pager.levels.disk.rest (core_of m.pager.levels.parts) (core_of c.find_or_leaf.new.p) m.regs m.pager.pinned m.ledger (kept-rooted m.pager.levels.parts m.regs m.pager.pinned m.ledger m.pager.levels.whole c.requires.sound.kept) now c.requires.sound.kept.cached
      (leaf-calm m.pager.pinned (core_of m.pager.levels.parts) (core_of c.find_or_leaf.new.p) core now step) (leaf-keeps (core_of m.pager.levels.parts) (core_of c.find_or_leaf.new.p) core now step)
      (λ told. (step.stays (disk_of g.H.Host m.pager.levels.disk.host.now m.pager.levels.disk.rest) (c.requires.sound.over.backed told)).held);
  steady =
      let m = c.args.self.now in
      let step = c.in-Some-find_or_leaf.ensures.step in
      let core = c.args.self.now.pager.levels.whole.parts.core in
      let now = c.in-Some-find_or_leaf.ensures.parts.core in
      steady-is g.H.Host m _ step.step (cache-same (core_of m.pager.levels.parts) (core_of c.find_or_leaf.new.p) (found m.ledger.rows) m.ledger.mark m.ledger.begun core now (leaf-keeps (core_of m.pager.levels.parts) (core_of c.find_or_leaf.new.p) core now step) c.requires.sound.kept.cached) refl refl refl;
  regs = refl;
  pins = refl;
  ledger = refl;
  due = refl;
  flag = refl;
}

pub returns-in-Some-find_or_leaf-clause-leaves : goal.returns-in-Some-find_or_leaf-clause-leaves
unfolding loom_told loom_outside
returns-in-Some-find_or_leaf-clause-leaves g c = record {
  sound =
      let m = c.args.self.now in
      let step = c.in-Some-find_or_leaf.ensures.step in
      record {
        kept = calm-kept m.pager.levels.parts c.find_or_leaf.new.p m.regs m.pager.pinned m.ledger m.pager.levels.whole c.requires.sound.kept (leaf-calm m.pager.pinned (core_of m.pager.levels.parts) (core_of c.find_or_leaf.new.p) c.args.self.now.pager.levels.whole.parts.core c.in-Some-find_or_leaf.ensures.parts.core step) c.in-Some-find_or_leaf.ensures.parts (ap size_of c.in-Some-find_or_leaf.ensures.segment);
        over = over-then g.H.Host m.pager.levels.disk.host.now m.pager.levels.disk.rest (core_of m.pager.levels.parts) (core_of c.find_or_leaf.new.p) m.ledger step.stays step.step c.requires.sound.over;
        soon = c.requires.sound.soon;
        exact = exact-leaf g.H.Host (Some c.in-Some-find_or_leaf.s) m.pager.levels.parts c.find_or_leaf.new.p m.pager.levels.disk.host.now m.pager.levels.disk.rest m.ledger.next c.in-Some-name.name c.requires.sound.exact c.in-Some-find_or_leaf.ensures.parts step c.in-Some-find_or_leaf.ensures.found c.in-Some-find_or_leaf.ensures.only tt
            (λ told. c.requires.named told c.in-Some-name.name (name-value c.args.v.now c.in-Some-name.name (sym c.in-Some-name.ensures)));
        thin = thin-told g.H.Host c.args.self.now _ c.requires.sound.thin (λ on. on) (returns-in-Some-find_or_leaf-clause-enters g c).told;
      };
  lender = refl;
  outside = refl;
}

pub returns-in-Some-find_or_leaf-clause-entries : goal.returns-in-Some-find_or_leaf-clause-entries
returns-in-Some-find_or_leaf-clause-entries g c = c.in-Some-find_or_leaf.ensures.step.used

pub returns-in-Some-find_or_leaf-clause-chunks : goal.returns-in-Some-find_or_leaf-clause-chunks
returns-in-Some-find_or_leaf-clause-chunks g c = c.in-Some-find_or_leaf.ensures.step.step.chunks

pub returns-in-Some-clause-enters : goal.returns-in-Some-clause-enters
returns-in-Some-clause-enters g c = record {
  told = refl;
  steady = steady-refl g.H.Host c.args.self.now;
  regs = refl;
  pins = refl;
  ledger = refl;
  due = refl;
  flag = refl;
}

pub invariant_of-levels : goal.invariant_of-levels
invariant_of-levels g c = let l = c.args.self.now.pager.levels in record { whole = ref-whole l.parts c.find_or_leaf.new.p l.whole c.find_or_leaf.ensures.parts c.find_or_leaf.ensures.step.step c.find_or_leaf.ensures.step.others }
