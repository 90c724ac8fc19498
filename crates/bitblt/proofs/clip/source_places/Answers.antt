use Rattle.std.proofs.Common.{arith}
use Rattle.std.proofs.lemmas.Int.{ints}
use Rattle.bitblt.proofs.Clips.{source-covers}
use Rattle.bitblt.proofs.clip.source_places.Goals as goal

pub returns-clause-covers : goal.returns-clause-covers
returns-clause-covers c x = source-covers _ c.args.at c.args.source_at c.args.n x (omega (arith, ints)) (omega (arith, ints))
