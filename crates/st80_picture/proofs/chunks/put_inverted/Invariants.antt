use Rattle.std.proofs.Common.{◌≡◌, ◌++◌, ◌-◌, map, take}
use Rattle.st80_picture.proofs.chunks.put_inverted.Given as goal

abbrev pub invariant-loop-byte : goal.invariant-loop-byte
invariant-loop-byte l = l.lines ≡ l.initial.lines ++ map (λ byte. 255 - byte) (take l.byte-index l.row)
