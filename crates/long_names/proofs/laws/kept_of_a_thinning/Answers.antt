use Rattle.std.proofs.Common.{◌≡◌, false, true, Bool}
use Rattle.long_names.specs.Kept.{no_roots}
use Rattle.long_names.proofs.KeptLaws.{kept-thinning}
use Rattle.long_names.proofs.laws.kept_of_a_thinning.Goals as goal

pub returns-clause-roots : goal.returns-clause-roots
returns-clause-roots c = kept-thinning

pub returns-clause-no_roots : goal.returns-clause-no_roots
returns-clause-no_roots c = λ h s regs slots t b. kept-thinning h s regs slots no_roots t b (λ n e. let no : ◌≡◌ {A = Bool} false true = e in absurd (cc))
