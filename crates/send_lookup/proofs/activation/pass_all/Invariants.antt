use Rattle.std.proofs.Common.{◌≡◌, ℕ, Ok}
use Rattle.blue_model.specs.Machine.{each}
use Rattle.blue_model.specs.Messages as model
use Rattle.contexts.specs.Serves.{Serves}
use Rattle.object_memory.specs.Calls.{IsFit}
use Rattle.send_lookup.proofs.activation.pass_all.Given as goal

-- The receiver and the arguments before this one were passed.
abbrev pub invariant-loop-k : goal.invariant-loop-k
invariant-loop-k g l =
    let told = g.M.ObjectMemory.told in
    record {
      passed : Serves (told l.fn.m) l.fn.cpu (told l.m) l.fn.cpu (each (model.pass l.fn.n l.fn.len ((told l.fn.m).regs 16)) l.k) (Ok tt);
      regs : (r : ℕ) → (r ≡ 15 → ⊥) → (told l.m).regs r ≡ (told l.fn.m).regs r;
      fit : IsFit g.M.ObjectMemory l.m;
      lender : g.M.ObjectMemory.lender l.m ≡ g.M.ObjectMemory.lender l.fn.m;
      outside : g.M.ObjectMemory.outside l.m ≡ g.M.ObjectMemory.outside l.fn.m;
    }
