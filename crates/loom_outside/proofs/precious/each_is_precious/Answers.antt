use Rattle.loom_outside.proofs.PreciousLaws.{image-precious, picture-precious, text-precious}
use Rattle.loom_outside.proofs.precious.each_is_precious.Goals as goal

pub returns-clause-image : goal.returns-clause-image
returns-clause-image c = image-precious

pub returns-clause-text : goal.returns-clause-text
returns-clause-text c = text-precious

pub returns-clause-picture : goal.returns-clause-picture
returns-clause-picture c = picture-precious
