use Rattle.image_memory.proofs.ImageLaws.{all-kept}
use Rattle.image_memory.proofs.laws.an_image_is_kept.Goals as goal

pub returns : goal.returns
returns c = all-kept
