use Rattle.std.proofs.Common.{ap, ◌/◌, ◌%◌, ◌==◌, slice_index}
use Rattle.std.proofs.lemmas.Nat.Bits.{shr_and_one}
use Rattle.work_directory.specs.Marks.{has_mark}
use Rattle.work_directory.proofs.marks.Marks.has.Goals as goal

pub returns : goal.returns
unfolding has_mark
returns c = ap (λ k. k == 1) (shr_and_one (slice_index c.args.self.now.words (c.args.block / 64)) (c.args.block % 64))
