use Rattle.work_directory.proofs.MarkLaws.{none-marked}
use Rattle.work_directory.specs.Marks.{has_mark}
use Rattle.work_directory.proofs.marks.Marks.new.Goals as goal

pub returns : goal.returns
unfolding has_mark
returns c = none-marked 193
