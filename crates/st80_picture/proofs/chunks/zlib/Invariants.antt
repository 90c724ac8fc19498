use Rattle.std.proofs.Common.{◌≡◌, ◌++◌, map}
use Rattle.std.specs.List.{concat, range_with_len}
use Rattle.st80_picture.specs.Png.{block}
use Rattle.st80_picture.proofs.chunks.zlib.Given as goal

abbrev pub invariant-loop-k : goal.invariant-loop-k
invariant-loop-k l = l.stream ≡ l.initial.stream ++ concat (map (block l.bytes) (range_with_len 0 l.k))
