use Rattle.std.proofs.Common.{arith}
use Rattle.delta_counts.proofs.LowerLaws.{ok-of}
use Rattle.purger.proofs.FreeingLaws.{free-done, free-exit, free-then, sound-behind}
use Rattle.purger.proofs.pager.Pager.free_chain.Goals as goal

pub free_on-requires-clause-sound : goal.free_on-requires-clause-sound
free_on-requires-clause-sound g c = sound-behind c.args.self.now c.free_dead_at.new.self c.requires.sound c.in_ok-free_dead_at.ensures.frees.keeps

pub free_on-requires-clause-record : goal.free_on-requires-clause-record
free_on-requires-clause-record g c = c.in_ok-free_dead_at.ensures.told.there c.if-not-branch.false

pub returns-in_err-free_dead_at-clause-frees : goal.returns-in_err-free_dead_at-clause-frees
returns-in_err-free_dead_at-clause-frees g c = free-exit _ _ c.from_residual.result c.in_err-free_dead_at.field-0.0 c.from_residual.ensures.1 c.in_err-free_dead_at.ensures.frees

pub returns-then-not-branch-clause-frees : goal.returns-then-not-branch-clause-frees
returns-then-not-branch-clause-frees g c = free-done c.args.self.now c.free_dead_at.new.self _ c.free_dead_at.ensures.frees.leaves c.in_ok-free_dead_at.ensures.frees.keeps

pub returns-clause-frees : goal.returns-clause-frees
returns-clause-frees g c = free-then c.args.self.now c.free_dead_at.new.self c.free_on.new.self c.free_on.result c.free_dead_at.ensures.frees.leaves c.in_ok-free_dead_at.ensures.frees.keeps c.free_on.ensures.frees

pub returns-clause-none : goal.returns-clause-none
returns-clause-none g c = λ told. ok-of c.free_on.result (λ same. absurd (let wider = c.in_ok-free_dead_at.ensures.told.wider c.if-not-branch.false in let more = c.free_on.ensures.frees.leaves.rest.words in omega arith))
