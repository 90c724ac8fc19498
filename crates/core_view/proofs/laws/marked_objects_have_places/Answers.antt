use Rattle.core_view.proofs.Here.{here-places, places-here}
use Rattle.core_view.proofs.laws.marked_objects_have_places.Goals as goal

pub returns-clause-places : goal.returns-clause-places
returns-clause-places c = here-places

pub returns-clause-here : goal.returns-clause-here
returns-clause-here c = places-here
