use Rattle.image_memory.proofs.ImageLaws.{image-is}
use Rattle.image_memory.proofs.laws.a_loaded_image_is_on_the_disk.Goals as goal

pub returns : goal.returns
returns g c = image-is g.H.Host
