use Rattle.std.proofs.Common.{Ok, Err, refl, arith}
use Rattle.delta_counts.proofs.LowerLaws.{ok-map}
use Rattle.purger.proofs.FreeingLaws.{free-exit, free-then, levels-count, sound-behind, told-later}
use Rattle.purger.proofs.pager.Pager.free_at.Goals as goal

pub free_dead_at-requires-clause-sound : goal.free_dead_at-requires-clause-sound
free_dead_at-requires-clause-sound g c = let b = record c.args.self.now { levels = c.give_idle_at.new.self } in sound-behind c.args.self.now b c.requires.sound (levels-count c.args.self.now b (Ok tt) refl c.in_ok-give_idle_at.ensures.counts).keeps

pub free_dead_at-requires-clause-within : goal.free_dead_at-requires-clause-within
free_dead_at-requires-clause-within g c = let same = c.give_idle_at.ensures.counts.leaves.giving.bound in let low = c.requires.within in omega arith

pub returns-in_err-give_idle_at-clause-frees : goal.returns-in_err-give_idle_at-clause-frees
returns-in_err-give_idle_at-clause-frees g c = free-exit _ _ c.from_residual.result c.in_err-give_idle_at.field-0.0 c.from_residual.ensures.1 (levels-count {T = Unit {0}} c.args.self.now _ (Err _) refl c.in_err-give_idle_at.ensures.counts)

pub returns-clause-frees : goal.returns-clause-frees
returns-clause-frees g c = let x = levels-count c.args.self.now (record c.args.self.now { levels = c.give_idle_at.new.self }) (Ok tt) refl c.in_ok-give_idle_at.ensures.counts in free-then c.args.self.now _ c.free_dead_at.new.self c.free_dead_at.result x.leaves x.keeps c.free_dead_at.ensures.frees

pub returns-clause-told : goal.returns-clause-told
returns-clause-told g c = told-later c.args.self.now _ c.free_dead_at.new.self c.free_dead_at.result c.give_idle_at.ensures.counts.leaves.segment refl c.free_dead_at.ensures.told

pub returns-clause-held : goal.returns-clause-held
returns-clause-held g c = ok-map c.free_dead_at.result (λ less. let same = c.give_idle_at.ensures.counts.leaves.held in omega arith) c.free_dead_at.ensures.held
