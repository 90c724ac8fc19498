use Rattle.work_directory.proofs.EntryLaws.{entry-shown, entry-there, entry-once}
use Rattle.work_directory.proofs.laws.each_entry_has_one_slot.Goals as goal

pub returns : goal.returns
returns c = record { shown = entry-shown; there = entry-there; one = entry-once }
