use Rattle.delta_counts.proofs.PartLaws.{names-short, names-within}
use Rattle.delta_counts.proofs.EffectLaws.{names-of}
use Rattle.delta_counts.proofs.two_levels.TwoLevels.fold_leaf.Goals as goal

pub give_idle_at-requires-clause-short : goal.give_idle_at-requires-clause-short
give_idle_at-requires-clause-short g c = names-short c.args.self.now.parts.names c.args.s.0 (names-of c.args.self.now.parts c.args.self.now.whole.parts) c.requires.used

pub give_idle_at-requires-clause-within : goal.give_idle_at-requires-clause-within
give_idle_at-requires-clause-within g c = names-within c.args.self.now.parts.names c.args.s.0 (names-of c.args.self.now.parts c.args.self.now.whole.parts) c.requires.used
