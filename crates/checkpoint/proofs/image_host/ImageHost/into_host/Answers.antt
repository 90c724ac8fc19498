use Rattle.checkpoint.specs.ImageHost.{image_of}
use Rattle.checkpoint.proofs.ImageHostLaws.{carried-same}
use Rattle.checkpoint.proofs.image_host.ImageHost.into_host.Goals as goal

pub returns-clause-same_host : goal.returns-clause-same_host
unfolding image_of
returns-clause-same_host g c loan s count same = (carried-same _ loan _ count _ s same).0

pub returns-clause-image_left : goal.returns-clause-image_left
unfolding image_of
returns-clause-image_left g c loan s count same = (carried-same _ loan _ count _ s same).1

pub returns-clause-image_faults : goal.returns-clause-image_faults
unfolding image_of
returns-clause-image_faults g c loan s count same = (carried-same _ loan _ count _ s same).2
