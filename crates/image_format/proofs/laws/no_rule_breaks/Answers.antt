use Rattle.image_format.proofs.ImageLaws.{valid_from, unbroken_from, bytes_of_all}
use Rattle.image_format.proofs.laws.no_rule_breaks.Goals as goal

pub returns : goal.returns
returns c = λ bytes fits. (valid_from bytes (bytes_of_all bytes fits), unbroken_from bytes)
