use Rattle.std.proofs.Common.{◌≡◌, ℕ, Ok}
use Rattle.blue_model.specs.Machine.{each}
use Rattle.blue_model.specs.Messages.{copy_argument}
use Rattle.contexts.specs.Serves.{Serves}
use Rattle.object_memory.specs.Calls.{IsFit}
use Rattle.send_lookup.proofs.message.copy_arguments.Given as goal

-- The arguments below that of this turn stand in the array.
abbrev pub invariant-loop-i : goal.invariant-loop-i
invariant-loop-i g l =
    let told = g.M.ObjectMemory.told in
    record {
      serves : Serves (told l.fn.m) l.fn.cpu (told l.m) l.fn.cpu (each (copy_argument l.fn.n ((told l.fn.m).regs 16)) l.i) (Ok tt);
      regs : (r : ℕ) → (r ≡ 17 → ⊥) → (told l.m).regs r ≡ (told l.fn.m).regs r;
      fit : IsFit g.M.ObjectMemory l.m;
      lender : g.M.ObjectMemory.lender l.m ≡ g.M.ObjectMemory.lender l.fn.m;
      outside : g.M.ObjectMemory.outside l.m ≡ g.M.ObjectMemory.outside l.fn.m;
    }
