use Rattle.work_space.specs.Space.{from_of, end_of, first_of}
use Rattle.work_space.proofs.FreeLaws.{out-or-free}
use Rattle.work_space.proofs.laws.each_block_is_out_or_free.Goals as goal

pub returns : goal.returns
returns c s work laid out b = out-or-free (from_of s) (end_of s) (first_of s) work laid out b
