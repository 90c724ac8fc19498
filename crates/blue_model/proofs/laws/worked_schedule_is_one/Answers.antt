use Rattle.std.proofs.Common.{refl}
use Rattle.blue_model.specs.Machine.{◌>>=◌, store, part, look, known, given, pick, register, put_register, numbers, set_numbers, done, halt}
use Rattle.blue_model.specs.Parts.{field, number, size}
use Rattle.blue_model.specs.Contexts.{store_field, scheduler, active_process}
use Rattle.blue_model.specs.Processes.{add, link_behind, take, empty_list, shorten, process_lists, sleep, wake_among, wake, current_process, transfer, resume, suspend_active, signal, add_signal, sleep_at, wait}
use Rattle.blue_model.specs.Queues.{field_at}
use Rattle.blue_model.proofs.WorkedSchedule.{worked_has, worked_above}
use Rattle.blue_model.proofs.laws.worked_schedule_is_one.Goals as goal

pub returns-clause-schedule : goal.returns-clause-schedule
returns-clause-schedule c = worked_has

pub returns-clause-above : goal.returns-clause-above
returns-clause-above c = worked_above

pub returns-clause-signalled : goal.returns-clause-signalled
unfolding ◌>>=◌ store part look known given pick register put_register numbers set_numbers done halt field number size store_field scheduler active_process add link_behind take empty_list shorten process_lists sleep wake_among wake current_process transfer resume suspend_active signal add_signal sleep_at wait field_at
returns-clause-signalled c = refl

pub returns-clause-behind_its_kind : goal.returns-clause-behind_its_kind
unfolding ◌>>=◌ store part look known given pick register put_register numbers set_numbers done halt field number size store_field scheduler active_process add link_behind take empty_list shorten process_lists sleep wake_among wake current_process transfer resume suspend_active signal add_signal sleep_at wait field_at
returns-clause-behind_its_kind c = refl

pub returns-clause-waited : goal.returns-clause-waited
unfolding ◌>>=◌ store part look known given pick register put_register numbers set_numbers done halt field number size store_field scheduler active_process add link_behind take empty_list shorten process_lists sleep wake_among wake current_process transfer resume suspend_active signal add_signal sleep_at wait field_at
returns-clause-waited c = refl

pub returns-clause-behind_the_waiting : goal.returns-clause-behind_the_waiting
unfolding ◌>>=◌ store part look known given pick register put_register numbers set_numbers done halt field number size store_field scheduler active_process add link_behind take empty_list shorten process_lists sleep wake_among wake current_process transfer resume suspend_active signal add_signal sleep_at wait field_at
returns-clause-behind_the_waiting c = refl

pub returns-clause-suspended : goal.returns-clause-suspended
unfolding ◌>>=◌ store part look known given pick register put_register numbers set_numbers done halt field number size store_field scheduler active_process add link_behind take empty_list shorten process_lists sleep wake_among wake current_process transfer resume suspend_active signal add_signal sleep_at wait field_at
returns-clause-suspended c = refl

pub returns-clause-resumed : goal.returns-clause-resumed
unfolding ◌>>=◌ store part look known given pick register put_register numbers set_numbers done halt field number size store_field scheduler active_process add link_behind take empty_list shorten process_lists sleep wake_among wake current_process transfer resume suspend_active signal add_signal sleep_at wait field_at
returns-clause-resumed c = refl

pub returns-clause-behind_the_low : goal.returns-clause-behind_the_low
unfolding ◌>>=◌ store part look known given pick register put_register numbers set_numbers done halt field number size store_field scheduler active_process add link_behind take empty_list shorten process_lists sleep wake_among wake current_process transfer resume suspend_active signal add_signal sleep_at wait field_at
returns-clause-behind_the_low c = refl
