use Rattle.image_format.proofs.ImageLaws.{first_version, from_first, bytes_of_all}
use Rattle.image_format.proofs.laws.no_rule_breaks_in_version_1.Goals as goal

pub returns : goal.returns
returns c = λ bytes fits. (first_version bytes, λ p. from_first bytes (bytes_of_all bytes fits) p.0 p.1)
