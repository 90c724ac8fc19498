use Rattle.std.proofs.Common.{◌≡◌, [], ◌∷◌, IsTrue}
use Rattle.object_memory.specs.Shape.{Looks}
use Rattle.send_lookup.proofs.SlotLaws.{HasPassed}
use Rattle.object_memory.specs.Calls.{IsFit}
use Rattle.send_lookup.proofs.slots.find_slot.Given as goal

-- The places of the round before this one hold neither nil nor the selector, and nothing else was read.
abbrev pub invariant-loop-place : goal.invariant-loop-place
invariant-loop-place g l =
    let told = g.M.ObjectMemory.told in
    record {
      passed : IsTrue (told l.fn.m).tells → HasPassed (told l.fn.m).heap ((told l.fn.m).regs 21) ((told l.fn.m).regs 23) l.slots l.first l.place;
      looks : Looks (22 ∷ []) (told l.fn.m) (told l.m);
      fit : IsFit g.M.ObjectMemory l.m;
      lender : g.M.ObjectMemory.lender l.m ≡ g.M.ObjectMemory.lender l.fn.m;
      outside : g.M.ObjectMemory.outside l.m ≡ g.M.ObjectMemory.outside l.fn.m;
    }
