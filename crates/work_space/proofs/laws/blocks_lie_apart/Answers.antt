use Rattle.work_space.specs.Space.{from_of, end_of, first_of}
use Rattle.work_space.proofs.FreeLaws.{out-within, out-apart}
use Rattle.work_space.proofs.laws.blocks_lie_apart.Goals as goal

pub returns-clause-within : goal.returns-clause-within
returns-clause-within c s work laid out b = out-within (from_of s) (end_of s) (first_of s) work laid out b

pub returns-clause-apart : goal.returns-clause-apart
returns-clause-apart c s work laid out b = out-apart (from_of s) (end_of s) (first_of s) work laid out b
