use Rattle.std.proofs.Common.{refl}
use Rattle.work_directory.specs.Directory.{room_of, held_of, was_written}
use Rattle.work_directory.proofs.EntryLaws.{in-none, entries-none}
use Rattle.work_directory.proofs.directory.Directory.new.Goals as goal

pub returns : goal.returns
unfolding room_of held_of was_written
returns c = record { room = refl; held = refl; stands = in-none _ refl; none = entries-none _; unwritten = λ block. c.new.ensures block }
