use Rattle.std.proofs.Common.{refl}
use Rattle.blue_model.specs.Forms.{left_bit, bit, row_bytes}
use Rattle.blue_model.specs.BitBlt.{rule_bit, copied_pixel, copied_words}
use Rattle.blue_model.proofs.laws.worked_pictures.Goals as goal

pub returns-clause-copied : goal.returns-clause-copied
unfolding left_bit bit rule_bit copied_pixel copied_words
returns-clause-copied c = refl

pub returns-clause-drawn : goal.returns-clause-drawn
unfolding left_bit bit row_bytes
returns-clause-drawn c = refl
