use Rattle.core_segment.specs.Segment.{size_of}
use Rattle.std.proofs.Common.{refl, ap}
use Rattle.leaf_lambda.specs.Parts.{core_of, spare_of}
use Rattle.disk_objects.specs.Function.{disk_of}
use Rattle.loom_memory.specs.Memory.{loom_told, loom_outside}
use Rattle.loom_memory.proofs.RegLaws.{kept-rooted, over-then}
use Rattle.loom_memory.proofs.CalmLaws.{calm-kept}
use Rattle.loom_memory.proofs.LastLaws.{told-still, leaf-keeps}
use Rattle.loom_memory.proofs.LambdaLaws.{leaf-calm}
use Rattle.loom_memory.proofs.KnownLaws.{entry-found, none-spent, none-same}
use Rattle.loom_memory.proofs.ExactLaws.{exact-leaf}
use Rattle.method_cache.specs.Found.{found}
use Rattle.loom_memory.proofs.CacheLaws.{cache-same}
use Rattle.loom_memory.proofs.GentleLaws.{steady-is}
use Rattle.loom_memory.specs.Residents.{fetched}
use Rattle.loom_memory.proofs.DeadLaws.{thin-told}
use Rattle.loom_memory.proofs.WholeLaws.{ref-whole}
use Rattle.loom_memory.proofs.memory.LoomMemory.entry_for.Goals as goal

pub returns-clause-enters : goal.returns-clause-enters
unfolding loom_told
returns-clause-enters g c = record {
  told =
      let m = c.args.self.now in
      let step = c.find_or_leaf.ensures.step in
      let core = c.args.self.now.pager.levels.whole.parts.core in
      let now = c.find_or_leaf.ensures.parts.core in
      told-still g.H.Host m.pager.levels.disk.host.now m.pager.levels.disk.rest (core_of m.pager.levels.parts) (core_of c.find_or_leaf.new.p) m.regs m.pager.pinned m.ledger (kept-rooted m.pager.levels.parts m.regs m.pager.pinned m.ledger m.pager.levels.whole c.requires.sound.kept) now c.requires.sound.kept.cached
      (leaf-calm m.pager.pinned (core_of m.pager.levels.parts) (core_of c.find_or_leaf.new.p) core now step) (leaf-keeps (core_of m.pager.levels.parts) (core_of c.find_or_leaf.new.p) core now step)
      (λ told. (step.stays (disk_of g.H.Host m.pager.levels.disk.host.now m.pager.levels.disk.rest) (c.requires.sound.over.backed told)).held);
  steady =
      let m = c.args.self.now in
      let step = c.find_or_leaf.ensures.step in
      let core = c.args.self.now.pager.levels.whole.parts.core in
      let now = c.find_or_leaf.ensures.parts.core in
      steady-is g.H.Host m _ step.step (cache-same (core_of m.pager.levels.parts) (core_of c.find_or_leaf.new.p) (found m.ledger.rows) m.ledger.mark m.ledger.begun core now (leaf-keeps (core_of m.pager.levels.parts) (core_of c.find_or_leaf.new.p) core now step) c.requires.sound.kept.cached) refl refl refl;
  regs = refl;
  pins = refl;
  ledger = refl;
  due = refl;
  flag = refl;
}

pub returns-clause-leaves : goal.returns-clause-leaves
unfolding loom_told loom_outside fetched
returns-clause-leaves g c = record {
  sound =
      let m = c.args.self.now in
      let step = c.find_or_leaf.ensures.step in
      record {
        kept = calm-kept m.pager.levels.parts c.find_or_leaf.new.p m.regs m.pager.pinned m.ledger m.pager.levels.whole c.requires.sound.kept (leaf-calm m.pager.pinned (core_of m.pager.levels.parts) (core_of c.find_or_leaf.new.p) c.args.self.now.pager.levels.whole.parts.core c.find_or_leaf.ensures.parts.core step) c.find_or_leaf.ensures.parts (ap size_of c.find_or_leaf.ensures.segment);
        over = over-then g.H.Host m.pager.levels.disk.host.now m.pager.levels.disk.rest (core_of m.pager.levels.parts) (core_of c.find_or_leaf.new.p) m.ledger step.stays step.step c.requires.sound.over;
        soon = c.requires.sound.soon;
        exact = exact-leaf g.H.Host c.find_or_leaf.result m.pager.levels.parts c.find_or_leaf.new.p m.pager.levels.disk.host.now m.pager.levels.disk.rest m.ledger.next c.args.name c.requires.sound.exact c.find_or_leaf.ensures.parts step c.find_or_leaf.ensures.found c.find_or_leaf.ensures.only
            (none-same c.find_or_leaf.result (core_of m.pager.levels.parts) (core_of c.find_or_leaf.new.p) (spare_of m.pager.levels.parts) (spare_of c.find_or_leaf.new.p) c.args.name c.find_or_leaf.ensures.none c.find_or_leaf.ensures.few c.find_or_leaf.ensures.cost.0) c.requires.named;
        thin = thin-told g.H.Host c.args.self.now _ c.requires.sound.thin (λ on. on) (returns-clause-enters g c).told;
      };
  fetches = refl;
  lender = refl;
  outside = refl;
}

pub returns-clause-found : goal.returns-clause-found
returns-clause-found g c = entry-found c.find_or_leaf.result (core_of c.find_or_leaf.new.p) c.args.name c.find_or_leaf.ensures.parts.core c.find_or_leaf.ensures.found

pub returns-clause-none : goal.returns-clause-none
returns-clause-none g c = none-spent c.find_or_leaf.result (core_of c.args.self.now.pager.levels.parts) (spare_of c.args.self.now.pager.levels.parts) c.args.name c.find_or_leaf.ensures.none

pub returns-clause-same : goal.returns-clause-same
returns-clause-same g c = none-same c.find_or_leaf.result (core_of c.args.self.now.pager.levels.parts) (core_of c.find_or_leaf.new.p) (spare_of c.args.self.now.pager.levels.parts) (spare_of c.find_or_leaf.new.p) c.args.name c.find_or_leaf.ensures.none c.find_or_leaf.ensures.few c.find_or_leaf.ensures.cost.0

pub invariant_of-levels : goal.invariant_of-levels
invariant_of-levels g c = let l = c.args.self.now.pager.levels in record { whole = ref-whole l.parts c.find_or_leaf.new.p l.whole c.find_or_leaf.ensures.parts c.find_or_leaf.ensures.step.step c.find_or_leaf.ensures.step.others }
