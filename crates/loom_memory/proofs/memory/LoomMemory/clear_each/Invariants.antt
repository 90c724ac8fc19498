use Rattle.std.proofs.Common.{◌≡◌, ◌≤◌, ◌<◌, ◌&&◌, ℕ, pos, nat_le, nat_lt, cond}
use Rattle.long_names.specs.declared.limits.TheConstants.{MACHINE_REGISTERS}
use Rattle.long_names.specs.declared.value.Value.TheVariants.{Int}
use Rattle.object_memory.specs.Fit.{KeepsCallable}
use Rattle.loom_memory.specs.Gentle.{IsSteady}
use Rattle.loom_memory.specs.Memory.{loom_told, loom_outside, loom_lender, IsSound}
use Rattle.loom_memory.proofs.memory.LoomMemory.clear_each.Given as goal

-- The scratch registers below that of this turn hold 0, and nothing else has changed.
abbrev pub invariant-loop-r : goal.invariant-loop-r
invariant-loop-r g l =
    let told = loom_told g.H.Host in
    record {
      regs : (r : ℕ) → (told l.self).regs r ≡ cond (nat_le MACHINE_REGISTERS r && nat_lt r l.r) (Int (pos 0)) ((told l.fn.self).regs r);
      rest : told l.self ≡ record (told l.fn.self) { regs = (told l.self).regs };
      steady : IsSteady g.H.Host l.fn.self l.self;
      due : l.self.due ≡ l.fn.self.due;
      fit : KeepsCallable (IsSound g.H.Host) told loom_lender (loom_outside g.H.Host) l.fn.self l.self;
    }
