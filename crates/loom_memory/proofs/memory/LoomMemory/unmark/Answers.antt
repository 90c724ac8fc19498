use Rattle.std.proofs.Common.{refl, ap}
use Rattle.object_table.specs.Entries.{place_of}
use Rattle.leaf_lambda.specs.Parts.{core_of}
use Rattle.purger.proofs.MarkLaws.{state-same}
use Rattle.loom_memory.specs.Memory.{loom_told, loom_outside}
use Rattle.loom_memory.specs.Gentle.{IsCalm}
use Rattle.loom_memory.proofs.StoreLaws.{unmark-calm, unmark-quiet, unmark-sound}
use Rattle.loom_memory.proofs.GentleLaws.{rest-refl, unmark-remains}
use Rattle.loom_memory.proofs.GentleLaws.{unmark-at}
use Rattle.loom_memory.proofs.OverLaws.{over-same}
use Rattle.loom_memory.proofs.MindLaws.{minds-unmark}
use Rattle.loom_memory.proofs.WholeLaws.{unmark-whole}
use Rattle.loom_memory.proofs.memory.LoomMemory.unmark.Goals as goal
use Rattle.loom_memory.proofs.memory.LoomMemory.unmark.Given as given

calm-of : (g : given.Over) (c : goal.After-levels-2-1 g) → IsCalm c.args.self.now.pager.pinned (core_of c.args.self.now.pager.levels.parts) (core_of c.unmark_for.new.p)
calm-of g c = unmark-calm g.H.Host c.args.self.now c.unmark_for.new.p c.requires.sound c.unmark_for.ensures.step c.unmark_for.ensures.outside c.unmark_for.ensures.marks

pub returns-clause-quiet : goal.returns-clause-quiet
unfolding loom_told
returns-clause-quiet g c = unmark-quiet g.H.Host c.args.self.now c.unmark_for.new.p c.requires.sound c.unmark_for.ensures.parts c.unmark_for.ensures.stays (calm-of g c)

pub returns-clause-leaves : goal.returns-clause-leaves
unfolding loom_outside
returns-clause-leaves g c = record {
  sound = unmark-sound g.H.Host c.args.self.now c.unmark_for.new.p _ c.requires.sound c.unmark_for.ensures.parts c.unmark_for.ensures.stays c.unmark_for.ensures.step (calm-of g c) c.unmark_for.ensures.segment;
  lender = refl;
  outside = refl;
}

pub returns-clause-place : goal.returns-clause-place
returns-clause-place g c = ap place_of (state-same (core_of c.args.self.now.pager.levels.parts) (core_of c.unmark_for.new.p) c.args.s.0 c.unmark_for.ensures.step)

pub returns-clause-resting : goal.returns-clause-resting
returns-clause-resting g c = rest-refl c.args.self.now _ (unmark-remains (core_of c.args.self.now.pager.levels.parts) (core_of c.unmark_for.new.p) c.unmark_for.ensures.step) refl refl refl

pub returns-clause-field : goal.returns-clause-field
returns-clause-field g c = λ at i w is. unmark-at (core_of c.args.self.now.pager.levels.parts) (core_of c.unmark_for.new.p) c.args.s.0 at i w c.unmark_for.ensures.step is

pub returns-clause-idle : goal.returns-clause-idle
returns-clause-idle g c = λ off. over-same c.args.self.now c.unmark_for.new.p _ (c.unmark_for.ensures.idle off)

pub returns-clause-minds : goal.returns-clause-minds
returns-clause-minds g c = minds-unmark g.H.Host c.args.self.now _ c.args.s.0 c.requires.sound (returns-clause-leaves g c).sound refl c.requires.used c.unmark_for.ensures.step c.unmark_for.ensures.marks (returns-clause-idle g c)

pub invariant_of-levels : goal.invariant_of-levels
invariant_of-levels g c = let l = c.args.self.now.pager.levels in record { whole = unmark-whole l.parts c.unmark_for.new.p l.whole c.unmark_for.ensures.parts c.unmark_for.ensures.step }
