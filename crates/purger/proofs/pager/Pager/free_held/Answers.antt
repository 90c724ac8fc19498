use Rattle.std.proofs.Common.{◌≡◌, true, false, refl, arith}
use Rattle.leaf_lambda.specs.Parts.{core_of}
use Rattle.purger.proofs.FreeingLaws.{free-none}
use Rattle.purger.proofs.pager.Pager.free_held.Goals as goal

pub entry_of-requires : goal.entry_of-requires
entry_of-requires g c = record { parts = c.args.self.now.levels.whole.parts }

pub free_at-requires-clause-short : goal.free_at-requires-clause-short
free_at-requires-clause-short g c = c.args.self.now.levels.whole.parts.core.short c.in-Some.s.0 c.in-Some.ensures.used

pub free_at-requires-clause-within : goal.free_at-requires-clause-within
unfolding core_of
free_at-requires-clause-within g c = c.args.self.now.levels.whole.parts.core.within c.in-Some.s.0 c.in-Some.ensures.used

pub returns-in-None-clause-frees : goal.returns-in-None-clause-frees
returns-in-None-clause-frees g c = free-none c.args.self.now _

pub returns-in-None-clause-told : goal.returns-in-None-clause-told
returns-in-None-clause-told g c = record {
  wider = λ on. absurd (let both : false ≡ true = on in cc);
  there = λ on. absurd (let both : false ≡ true = on in cc);
  still = λ off. refl;
}

pub returns-in-None-clause-held : goal.returns-in-None-clause-held
returns-in-None-clause-held g c = omega arith
