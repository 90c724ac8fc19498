use Rattle.blue_model.proofs.PinLaws.{start_pins, begin_pins, loaded_pins, cycle_pins, park_pins, ran_pins, stopped_pins}
use Rattle.blue_model.proofs.pin_laws.slots_have_the_context_its_home_and_its_method.Goals as goal

pub returns-clause-start : goal.returns-clause-start
returns-clause-start c = start_pins

pub returns-clause-begin : goal.returns-clause-begin
returns-clause-begin c = begin_pins

pub returns-clause-loaded : goal.returns-clause-loaded
returns-clause-loaded c = loaded_pins

pub returns-clause-cycle : goal.returns-clause-cycle
returns-clause-cycle c = cycle_pins

pub returns-clause-park : goal.returns-clause-park
returns-clause-park c = park_pins

pub returns-clause-ran : goal.returns-clause-ran
returns-clause-ran c = ran_pins

pub returns-clause-stopped : goal.returns-clause-stopped
returns-clause-stopped c = stopped_pins
