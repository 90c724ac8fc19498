use Rattle.std.proofs.Common.{sym, arith}
use Rattle.std.proofs.lemmas.List.{take_all, length-take-le}
use Rattle.st80_picture.proofs.chunks.front.Goals as goal

pub slice_bounds-result-end : goal.slice_bounds-result-end
slice_bounds-result-end c = sym (length-take-le 65535 c.args.bytes.now (omega arith))

pub returns-then-bytes-gt-FULL_BLOCK-clause-few : goal.returns-then-bytes-gt-FULL_BLOCK-clause-few
returns-then-bytes-gt-FULL_BLOCK-clause-few c = omega (arith, length-take-le 65535 c.args.bytes.now (omega arith))

pub returns-else-bytes-gt-FULL_BLOCK-clause-front : goal.returns-else-bytes-gt-FULL_BLOCK-clause-front
returns-else-bytes-gt-FULL_BLOCK-clause-front c = sym (take_all 65535 c.args.bytes.now (omega arith))
