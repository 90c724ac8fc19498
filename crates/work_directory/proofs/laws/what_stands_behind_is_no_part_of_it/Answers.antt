use Rattle.work_directory.proofs.EntryLaws.{in-kept, entries-kept, search-kept}
use Rattle.work_directory.proofs.laws.what_stands_behind_is_no_part_of_it.Goals as goal

pub returns : goal.returns
returns c = record { stands = in-kept; entries = entries-kept; ends = search-kept }
