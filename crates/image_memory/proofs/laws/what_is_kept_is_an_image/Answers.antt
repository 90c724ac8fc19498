use Rattle.image_memory.proofs.KeptLaws.{image-kept}
use Rattle.image_memory.proofs.laws.what_is_kept_is_an_image.Goals as goal

pub returns : goal.returns
returns g c = image-kept g.H.Host
