use Rattle.event_file.proofs.StopLaws.{stops-soon}
use Rattle.event_file.proofs.laws.no_piece_is_read_behind_a_bad_line.Goals as goal

pub returns : goal.returns
returns c = stops-soon
