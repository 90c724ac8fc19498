use Rattle.blue_model.proofs.LoadedLaws.{loaded_found, loaded_here, loaded_switched, loaded_starts}
use Rattle.blue_model.proofs.checkpoint_laws.loading_goes_on_where_it_was.Goals as goal

pub returns-clause-found : goal.returns-clause-found
returns-clause-found c = loaded_found

pub returns-clause-here : goal.returns-clause-here
returns-clause-here c = loaded_here

pub returns-clause-switched : goal.returns-clause-switched
returns-clause-switched c = loaded_switched

pub returns-clause-starts : goal.returns-clause-starts
returns-clause-starts c = loaded_starts
