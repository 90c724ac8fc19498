use Rattle.std.specs.Prelude.{[]}
use Rattle.delta_counts.specs.Effects.{Keeps, Leaves, Same}
use Rattle.delta_counts.specs.Giving.{NoneIdleBelow}
use Rattle.delta_counts.proofs.two_levels.TwoLevels.give_idle.Given as goal

abbrev pub invariant-loop-k : goal.invariant-loop-k
invariant-loop-k g l = record {
  leaves : Leaves Same l.fn.self l.self;
  keeps : Keeps Same [] [] l.fn.self l.self;
  below : NoneIdleBelow l.k l.self.parts.names;
}
