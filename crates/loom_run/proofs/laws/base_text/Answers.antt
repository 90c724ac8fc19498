use Rattle.std.proofs.Common.{refl}
use Rattle.image_format.specs.Text.{image_text}
use Rattle.long_names.specs.Record.{record_text, two_bytes, four_bytes, eight_bytes}
use Rattle.long_names.specs.Heap.{object_count, count_of}
use Rattle.blue_model.specs.Machine.{◌>>=◌, store, part, look, known, given, pick, register, put_register, numbers, set_numbers, clear, pin, unpin_all, done, halt}
use Rattle.blue_model.specs.Parts.{field, number, size, home_of, code_of}
use Rattle.blue_model.specs.Contexts.{start, need_method, put_context, load_home, load, fetch, park, store_registers, store_field, scheduler, active_process, park_new, jump, push, pop, byte_of}
use Rattle.blue_model.specs.Bytecodes.{bytecode, bytecodes, push_receiver, push_of, push_number, long_jump, receiver_variable}
use Rattle.blue_model.specs.Primitives.{then_next}
use Rattle.blue_model.specs.Processes.{check_switch}
use Rattle.blue_model.specs.Devices.{due, events_due, check_timer, picture, display_form}
use Rattle.blue_model.specs.State.{begin, restore}
use Rattle.blue_model.specs.Cycle.{ending, run, cycle, turn, step, count_bytecode, park_and_draw}
use Rattle.loom_run.proofs.laws.base_text.Goals as goal

pub returns-clause-before : goal.returns-clause-before
unfolding image_text record_text two_bytes four_bytes eight_bytes object_count count_of
returns-clause-before c = refl

pub returns-clause-after : goal.returns-clause-after
unfolding image_text record_text two_bytes four_bytes eight_bytes object_count count_of ending begin restore ◌>>=◌ run cycle turn step count_bytecode start need_method put_context load_home load fetch park store_registers store_field scheduler active_process park_new check_switch due events_due check_timer park_and_draw picture display_form then_next bytecode bytecodes push_receiver push_of push_number long_jump jump push pop store part look known given pick register put_register numbers set_numbers clear pin unpin_all done halt field number size home_of code_of byte_of receiver_variable
returns-clause-after c = refl
