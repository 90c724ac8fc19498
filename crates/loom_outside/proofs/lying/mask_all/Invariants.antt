use Rattle.std.proofs.Common.{◌≡◌, ◌++◌, take, drop}
use Rattle.loom_outside.specs.Lying.{masked}
use Rattle.loom_outside.proofs.lying.mask_all.Given as goal

abbrev pub invariant-loop-byte : goal.invariant-loop-byte
invariant-loop-byte l = take l.byte-index l.buf ++ masked l.mask (drop l.byte-index l.buf) ≡ masked l.mask l.initial.buf
