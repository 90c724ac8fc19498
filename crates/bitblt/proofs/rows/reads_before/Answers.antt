use Rattle.std.proofs.Common.{refl}
use Rattle.bitblt.specs.Transfers.{reads_before}
use Rattle.bitblt.proofs.rows.reads_before.Goals as goal

pub returns : goal.returns
unfolding reads_before
returns c = rw c.requires.some refl
