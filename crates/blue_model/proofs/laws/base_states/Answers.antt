use Rattle.std.proofs.Common.{refl}
use Rattle.blue_model.specs.Machine.{◌>>=◌, store, part, look, known, given, pick, register, put_register, numbers, set_numbers, clear, pin, unpin_all, done, halt}
use Rattle.blue_model.specs.Parts.{field, number, size, home_of, code_of}
use Rattle.blue_model.specs.Contexts.{start, need_method, put_context, load_home, load, fetch, park, store_registers, store_field, scheduler, active_process, park_new, jump, push, pop, byte_of}
use Rattle.blue_model.specs.Bytecodes.{bytecode, bytecodes, push_receiver, push_of, push_number, long_jump, receiver_variable}
use Rattle.blue_model.specs.Primitives.{then_next}
use Rattle.blue_model.specs.Processes.{check_switch}
use Rattle.blue_model.specs.Devices.{due, events_due, check_timer, picture, display_form}
use Rattle.blue_model.specs.Forms.{extent_of, word_count, form_where, form_of}
use Rattle.blue_model.specs.Trials.{peek}
use Rattle.blue_model.specs.State.{begin, restore}
use Rattle.blue_model.specs.Cycle.{ending, run, cycle, turn, step, count_bytecode, park_and_draw}
use Rattle.blue_model.proofs.laws.base_states.Goals as goal

pub returns-clause-clock : goal.returns-clause-clock
unfolding ending begin restore ◌>>=◌ run cycle turn step count_bytecode start need_method put_context load_home load fetch park store_registers store_field scheduler active_process park_new check_switch due events_due check_timer park_and_draw picture display_form then_next bytecode bytecodes push_receiver push_of push_number long_jump jump push pop store part look known given pick register put_register numbers set_numbers clear pin unpin_all done halt field number size home_of code_of byte_of receiver_variable
returns-clause-clock c = refl

pub returns-clause-goes_on : goal.returns-clause-goes_on
unfolding ending begin restore ◌>>=◌ run cycle turn step count_bytecode start need_method put_context load_home load fetch park store_registers store_field scheduler active_process park_new check_switch due events_due check_timer park_and_draw picture display_form then_next bytecode bytecodes push_receiver push_of push_number long_jump jump push pop store part look known given pick register put_register numbers set_numbers clear pin unpin_all done halt field number size home_of code_of byte_of receiver_variable
returns-clause-goes_on c = refl

pub returns-clause-names : goal.returns-clause-names
unfolding ending begin restore ◌>>=◌ run cycle turn step count_bytecode start need_method put_context load_home load fetch park store_registers store_field scheduler active_process park_new check_switch due events_due check_timer park_and_draw picture display_form then_next bytecode bytecodes push_receiver push_of push_number long_jump jump push pop store part look known given pick register put_register numbers set_numbers clear pin unpin_all done halt field number size home_of code_of byte_of receiver_variable peek extent_of word_count form_where form_of
returns-clause-names c = refl

pub returns-clause-nothing : goal.returns-clause-nothing
unfolding ending begin restore ◌>>=◌ run cycle turn step count_bytecode start need_method put_context load_home load fetch park store_registers store_field scheduler active_process park_new check_switch due events_due check_timer park_and_draw picture display_form then_next bytecode bytecodes push_receiver push_of push_number long_jump jump push pop store part look known given pick register put_register numbers set_numbers clear pin unpin_all done halt field number size home_of code_of byte_of receiver_variable peek extent_of word_count form_where form_of
returns-clause-nothing c = refl
