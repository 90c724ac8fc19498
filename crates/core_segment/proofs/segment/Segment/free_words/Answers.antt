use Rattle.std.proofs.Common.{refl}
use Rattle.core_segment.specs.Segment.{free_of}
use Rattle.core_segment.proofs.segment.Segment.free_words.Goals as goal

pub returns : goal.returns
unfolding free_of
returns c = refl
