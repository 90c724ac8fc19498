use Rattle.blue_model.proofs.PointerLaws.{never_untold, load_states, fetch_states, jump_states, push_states, pop_states, block_states}
use Rattle.blue_model.proofs.laws.pointers_can_be_stated.Goals as goal

pub returns-clause-tests : goal.returns-clause-tests
returns-clause-tests c m can = never_untold m can

pub returns-clause-load : goal.returns-clause-load
returns-clause-load c context m s log small e = load_states context m s log small e

pub returns-clause-fetch : goal.returns-clause-fetch
returns-clause-fetch c m s byte log can e = fetch_states m s byte log can e

pub returns-clause-jump : goal.returns-clause-jump
returns-clause-jump c distance m s log can e = jump_states distance m s log can e

pub returns-clause-push : goal.returns-clause-push
returns-clause-push c v m s log can e = push_states v m s log can e

pub returns-clause-pop : goal.returns-clause-pop
returns-clause-pop c n m s log can e = pop_states n m s log can e

pub returns-clause-block : goal.returns-clause-block
returns-clause-block c m s byte log short e = block_states m s byte log short e
