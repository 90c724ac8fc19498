use Rattle.std.proofs.Common.{◌≡◌, ℕ, Ok}
use Rattle.blue_model.specs.Machine.{each}
use Rattle.blue_model.specs.Control as model
use Rattle.contexts.specs.Serves.{Serves}
use Rattle.object_memory.specs.Calls.{IsFit}
use Rattle.prims_control.proofs.performs.move_arguments.Given as goal

-- The turns before this one were served.
abbrev pub invariant-loop-k : goal.invariant-loop-k
invariant-loop-k g l =
    let told = g.M.ObjectMemory.told in
    record {
      serves : Serves (told l.fn.m) l.fn.cpu (told l.m) l.fn.cpu (each (model.move_down l.fn.n) l.k) (Ok tt);
      regs : (r : ℕ) → (r ≡ 19 → ⊥) → (told l.m).regs r ≡ (told l.fn.m).regs r;
      fit : IsFit g.M.ObjectMemory l.m;
      lender : g.M.ObjectMemory.lender l.m ≡ g.M.ObjectMemory.lender l.fn.m;
      outside : g.M.ObjectMemory.outside l.m ≡ g.M.ObjectMemory.outside l.fn.m;
    }
