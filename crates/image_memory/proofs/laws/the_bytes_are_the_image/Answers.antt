use Rattle.image_memory.proofs.ImageLaws.{text-is}
use Rattle.image_memory.proofs.laws.the_bytes_are_the_image.Goals as goal

pub returns : goal.returns
returns g c = text-is g.H.Host
