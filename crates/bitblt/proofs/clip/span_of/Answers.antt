use Rattle.std.proofs.Common.{arith}
use Rattle.std.proofs.lemmas.Int.{ints}
use Rattle.bitblt.proofs.Clips.{range-places}
use Rattle.bitblt.proofs.clip.span_of.Goals as goal

pub returns-then-r : goal.returns-then-r
returns-then-r c = record {
  some = omega (arith, ints);
  low = omega (arith, ints);
  high = omega (arith, ints);
  source = omega (arith, ints);
  places = λ x. range-places c.args.r _ _ x (omega (arith, ints)) (omega (arith, ints));
}
