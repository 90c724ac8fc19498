use Rattle.std.proofs.Common.{refl, ◌∙◌, ap}
use Rattle.object_memory.specs.Told.{Told}
use Rattle.object_table.specs.Entries.{is_used}
use Rattle.leaf_lambda.specs.Parts.{core_of}
use Rattle.purger.proofs.TouchLaws.{touch-state}
use Rattle.loom_memory.specs.Memory.{loom_told, loom_outside}
use Rattle.loom_memory.proofs.TouchLaws.{use-means, use-sound, use-steady, use-told}
use Rattle.loom_memory.proofs.WholeLaws.{touch-whole}
use Rattle.loom_memory.proofs.memory.LoomMemory.note_use.Goals as goal

pub returns-clause-told : goal.returns-clause-told
unfolding loom_told
returns-clause-told g c = use-told g.H.Host c.args.self.now c.touch.new.p c.requires.sound c.touch.ensures.parts c.touch.ensures.stays c.touch.ensures.step

pub returns-clause-sound : goal.returns-clause-sound
returns-clause-sound g c = use-sound g.H.Host c.args.self.now c.touch.new.p _ c.requires.sound c.touch.ensures.parts c.touch.ensures.stays c.touch.ensures.step c.touch.ensures.outside c.touch.ensures.segment

pub returns-clause-used : goal.returns-clause-used
returns-clause-used g c = λ is. ap is_used (touch-state (core_of c.args.self.now.pager.levels.parts) (core_of c.touch.new.p) c.args.w c.touch.ensures.step) ∙ c.requires.used is

pub returns-clause-means : goal.returns-clause-means
returns-clause-means g c = use-means (core_of c.args.self.now.pager.levels.parts) (core_of c.touch.new.p) c.args.w c.touch.ensures.step

pub returns-clause-steady : goal.returns-clause-steady
returns-clause-steady g c = use-steady g.H.Host c.args.self.now _ c.touch.ensures.step (ap (λ (t : Told). t.cache) (returns-clause-told g c)) refl refl refl

pub returns-clause-outside : goal.returns-clause-outside
unfolding loom_outside
returns-clause-outside g c = refl

pub invariant_of-levels : goal.invariant_of-levels
invariant_of-levels g c = let l = c.args.self.now.pager.levels in record { whole = touch-whole l.parts c.touch.new.p l.whole c.touch.ensures.parts c.touch.ensures.step }
