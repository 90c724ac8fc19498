use Rattle.std.proofs.Common.{◌≡◌, ◌≤◌, ◌<◌, ◌&&◌, ℕ, pos, nat_le, nat_lt, cond}
use Rattle.long_names.specs.declared.value.Value.TheVariants.{Int}
use Rattle.object_memory.specs.Calls.{IsFit}
use Rattle.contexts.proofs.registers.clear.Given as goal

-- The registers from the first one on, below that of this turn, hold 0, and nothing else has changed.
abbrev pub invariant-loop-r : goal.invariant-loop-r
invariant-loop-r g l =
    let told = g.M.ObjectMemory.told in
    record {
      regs : (r : ℕ) → (told l.m).regs r ≡ cond (nat_le l.from r && nat_lt r l.r) (Int (pos 0)) ((told l.fn.m).regs r);
      rest : told l.m ≡ record (told l.fn.m) { regs = (told l.m).regs };
      past : l.to < l.r → l.r ≤ l.from;
      fit : IsFit g.M.ObjectMemory l.m;
      lender : g.M.ObjectMemory.lender l.m ≡ g.M.ObjectMemory.lender l.fn.m;
      outside : g.M.ObjectMemory.outside l.m ≡ g.M.ObjectMemory.outside l.fn.m;
    }
