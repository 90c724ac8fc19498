use Rattle.std.proofs.Common.{ℕ, ◌<◌, [], refl}
use Rattle.std.proofs.lemmas.List.Elements.{All-nil}
use Rattle.work_space.specs.Space.{from_of, end_of, first_of}
use Rattle.work_space.proofs.BlockLaws.{none-some, no-heads}
use Rattle.work_space.proofs.space.Space.new.Goals as goal

pub returns-clause-space : goal.returns-clause-space
unfolding from_of end_of first_of
returns-clause-space c work short = record {
  above = c.requires;
  each_class = All-nil (λ (x : ℕ). x < 15);
  tiled = refl;
  within = short;
  out_laid = λ p d e. absurd (none-some e);
  free = λ d. [];
  once = λ d p. refl;
  linked = λ d low. no-heads d;
}

pub returns-clause-from : goal.returns-clause-from
unfolding from_of
returns-clause-from c = refl

pub returns-clause-end : goal.returns-clause-end
unfolding end_of
returns-clause-end c = refl
