use Rattle.std.proofs.Common.{refl}
use Rattle.blue_model.specs.Machine.{◌>>=◌, store, part, look, known, given, pick, register, put_register, numbers, set_numbers, clear, pin, unpin_all, done, halt}
use Rattle.blue_model.specs.Parts.{field, number, size, home_of, code_of, literal}
use Rattle.blue_model.specs.Contexts.{start, need_method, put_context, load_home, load, fetch, store_field, scheduler, active_process, push, pop, byte_of}
use Rattle.blue_model.specs.Bytecodes.{bytecode, bytecodes, push_of, literal_constant}
use Rattle.blue_model.specs.Primitives.{then_next}
use Rattle.blue_model.specs.Processes.{check_switch}
use Rattle.blue_model.specs.Devices.{due, events_due, check_timer}
use Rattle.blue_model.specs.State.{begin, restore}
use Rattle.blue_model.specs.Cycle.{cycle, turn, step, count_bytecode}
use Rattle.blue_model.specs.Guarded.{guarded_on, guarded}
use Rattle.blue_model.proofs.SnapLaws.{snap_kept}
use Rattle.blue_model.proofs.checkpoint_laws.worked_checkpoint.Goals as goal

pub returns-clause-pushed : goal.returns-clause-pushed
unfolding begin restore ◌>>=◌ guarded guarded_on cycle turn step count_bytecode start need_method put_context load_home load fetch scheduler active_process check_switch due events_due check_timer then_next bytecode bytecodes push_of literal_constant push pop store_field store part look known given pick register put_register numbers set_numbers clear pin unpin_all done halt field number size home_of code_of byte_of literal
returns-clause-pushed c = refl

pub returns-clause-kept : goal.returns-clause-kept
returns-clause-kept c = snap_kept
