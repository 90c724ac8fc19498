use Rattle.image_memory.proofs.ImageLaws.{image-exact, image-holds}
use Rattle.image_memory.proofs.laws.a_loaded_image_can_be_saved.Goals as goal

pub returns-clause-holds : goal.returns-clause-holds
returns-clause-holds g c = image-holds g.H.Host

pub returns-clause-exact : goal.returns-clause-exact
returns-clause-exact g c = image-exact g.H.Host
