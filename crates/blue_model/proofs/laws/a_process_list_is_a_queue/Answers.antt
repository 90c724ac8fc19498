use Rattle.blue_model.proofs.QueueLaws.{adds_behind, takes_front, add_leaves, take_leaves}
use Rattle.blue_model.proofs.laws.a_process_list_is_a_queue.Goals as goal

pub returns-clause-add : goal.returns-clause-add
returns-clause-add c = adds_behind

pub returns-clause-take : goal.returns-clause-take
returns-clause-take c = takes_front

pub returns-clause-add_elsewhere : goal.returns-clause-add_elsewhere
returns-clause-add_elsewhere c = add_leaves

pub returns-clause-take_elsewhere : goal.returns-clause-take_elsewhere
returns-clause-take_elsewhere c = take_leaves
