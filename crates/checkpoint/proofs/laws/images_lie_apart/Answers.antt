use Rattle.checkpoint.proofs.LayoutLaws.{area_in-same, place-apart, place-behind}
use Rattle.checkpoint.proofs.laws.images_lie_apart.Goals as goal

pub returns-clause-image : goal.returns-clause-image
returns-clause-image c v w s n same = area_in-same v w s n same

pub returns-clause-behind : goal.returns-clause-behind
returns-clause-behind c s j = place-behind s j

pub returns-clause-apart : goal.returns-clause-apart
returns-clause-apart c s t j k low high same = place-apart s t j k low high same
