use Rattle.std.proofs.Common.{refl}
use Rattle.blue_model.specs.Machine.{◌>>=◌, store, part, look, known, given, pick, register, put_register, numbers, set_numbers, clear, pin, unpin_all, done, halt}
use Rattle.blue_model.specs.Parts.{field, number, size, home_of, code_of}
use Rattle.blue_model.specs.Contexts.{start, need_method, put_context, load_home, load, fetch, park, store_registers, store_field, scheduler, active_process, park_new, jump, push, pop, stack, byte_of}
use Rattle.blue_model.specs.Bytecodes.{bytecode, bytecodes, push_receiver, push_of, push_number, long_jump, receiver_variable, arithmetic_send}
use Rattle.blue_model.specs.Primitives.{then_next}
use Rattle.blue_model.specs.Processes.{check_switch}
use Rattle.blue_model.specs.Devices.{due, events_due, check_timer, picture, display_form}
use Rattle.blue_model.specs.State.{begin, restore}
use Rattle.blue_model.specs.Cycle.{ending, run, cycle, turn, step, count_bytecode, park_and_draw}
use Rattle.blue_model.proofs.laws.stuck_codes.Goals as goal

pub returns-clause-unused : goal.returns-clause-unused
unfolding ending begin restore ◌>>=◌ run cycle turn step count_bytecode start need_method put_context load_home load fetch park store_registers store_field scheduler active_process park_new check_switch due events_due check_timer park_and_draw picture display_form then_next bytecode bytecodes push_receiver push_of push_number long_jump jump push pop store part look known given pick register put_register numbers set_numbers clear pin unpin_all done halt field number size home_of code_of byte_of receiver_variable
returns-clause-unused c = refl

pub returns-clause-empty_stack : goal.returns-clause-empty_stack
unfolding ending begin restore ◌>>=◌ run cycle turn step count_bytecode start need_method put_context load_home load fetch park store_registers store_field scheduler active_process park_new check_switch due events_due check_timer park_and_draw picture display_form then_next bytecode bytecodes push_receiver push_of push_number long_jump jump push pop store part look known given pick register put_register numbers set_numbers clear pin unpin_all done halt field number size home_of code_of byte_of receiver_variable
returns-clause-empty_stack c = refl

pub returns-clause-over_the_end : goal.returns-clause-over_the_end
unfolding ending begin restore ◌>>=◌ run cycle turn step count_bytecode start need_method put_context load_home load fetch park store_registers store_field scheduler active_process park_new check_switch due events_due check_timer park_and_draw picture display_form then_next bytecode bytecodes push_receiver push_of push_number long_jump jump push pop store part look known given pick register put_register numbers set_numbers clear pin unpin_all done halt field number size home_of code_of byte_of receiver_variable
returns-clause-over_the_end c = refl

pub returns-clause-no_code : goal.returns-clause-no_code
unfolding ending begin restore ◌>>=◌ run cycle turn step count_bytecode start need_method put_context load_home load fetch park store_registers store_field scheduler active_process park_new check_switch due events_due check_timer park_and_draw picture display_form then_next bytecode bytecodes push_receiver push_of push_number long_jump jump push pop store part look known given pick register put_register numbers set_numbers clear pin unpin_all done halt field number size home_of code_of byte_of receiver_variable
returns-clause-no_code c = refl

pub returns-clause-no_field : goal.returns-clause-no_field
unfolding ending begin restore ◌>>=◌ run cycle turn step count_bytecode start need_method put_context load_home load fetch park store_registers store_field scheduler active_process park_new check_switch due events_due check_timer park_and_draw picture display_form then_next bytecode bytecodes push_receiver push_of push_number long_jump jump push pop store part look known given pick register put_register numbers set_numbers clear pin unpin_all done halt field number size home_of code_of byte_of receiver_variable
returns-clause-no_field c = refl

pub returns-clause-no_receiver : goal.returns-clause-no_receiver
unfolding ending begin restore ◌>>=◌ run cycle turn step count_bytecode start need_method put_context load_home load fetch park store_registers store_field scheduler active_process park_new check_switch due events_due check_timer park_and_draw picture display_form then_next bytecode bytecodes push_receiver push_of push_number long_jump jump push pop store part look known given pick register put_register numbers set_numbers clear pin unpin_all done halt field number size home_of code_of byte_of receiver_variable stack arithmetic_send
returns-clause-no_receiver c = refl
