use Rattle.std.proofs.Common.{◌≡◌}
use Rattle.bitblt.specs.Transfers.{done_up, done_down}
use Rattle.bitblt.specs.Blits.{IsPartly}
use Rattle.bitblt.proofs.rows.blend_within.Given as goal

-- The rows that were visited from the last one up and read words before those that they write.
abbrev pub invariant-loop-i : goal.invariant-loop-i
invariant-loop-i g l = record {
  partly : IsPartly l.t l.halftone (g.M.ObjectMemory.told l.fn.m) (g.M.ObjectMemory.told l.m) (done_up l.t l.i);
  sound : g.M.ObjectMemory.sound l.m;
  lender : g.M.ObjectMemory.lender l.m ≡ g.M.ObjectMemory.lender l.fn.m;
  outside : g.M.ObjectMemory.outside l.m ≡ g.M.ObjectMemory.outside l.fn.m;
}

-- These, and those that were visited since from the first one down.
abbrev pub invariant-loop-y : goal.invariant-loop-y
invariant-loop-y g l = record {
  partly : IsPartly l.t l.halftone (g.M.ObjectMemory.told l.fn.m) (g.M.ObjectMemory.told l.m) (done_down l.t l.y);
  sound : g.M.ObjectMemory.sound l.m;
  lender : g.M.ObjectMemory.lender l.m ≡ g.M.ObjectMemory.lender l.fn.m;
  outside : g.M.ObjectMemory.outside l.m ≡ g.M.ObjectMemory.outside l.fn.m;
}
