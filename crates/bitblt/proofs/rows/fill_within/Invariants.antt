use Rattle.std.proofs.Common.{◌≡◌}
use Rattle.bitblt.specs.Transfers.{done_down}
use Rattle.bitblt.specs.Blits.{IsPartly}
use Rattle.bitblt.proofs.rows.fill_within.Given as goal

-- The rows above one.
abbrev pub invariant-loop-row : goal.invariant-loop-row
invariant-loop-row g l = record {
  partly : IsPartly l.t l.halftone (g.M.ObjectMemory.told l.fn.m) (g.M.ObjectMemory.told l.m) (done_down l.t l.row);
  sound : g.M.ObjectMemory.sound l.m;
  lender : g.M.ObjectMemory.lender l.m ≡ g.M.ObjectMemory.lender l.fn.m;
  outside : g.M.ObjectMemory.outside l.m ≡ g.M.ObjectMemory.outside l.fn.m;
}
