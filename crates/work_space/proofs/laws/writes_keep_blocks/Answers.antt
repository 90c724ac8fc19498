use Rattle.work_space.specs.Space.{from_of, end_of, first_of}
use Rattle.work_space.proofs.FreeLaws.{write-before, write-inside}
use Rattle.work_space.proofs.laws.writes_keep_blocks.Goals as goal

pub returns-clause-before : goal.returns-clause-before
returns-clause-before c s work laid out b = write-before (from_of s) (end_of s) (first_of s) work laid out b

pub returns-clause-inside : goal.returns-clause-inside
returns-clause-inside c s work laid out b = write-inside (from_of s) (end_of s) (first_of s) work laid out b
