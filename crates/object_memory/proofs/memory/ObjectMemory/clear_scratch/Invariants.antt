use Rattle.std.proofs.Common.{◌≡◌, ◌&&◌, ℕ, pos, nat_le, nat_lt, cond}
use Rattle.long_names.specs.declared.limits.TheConstants.{MACHINE_REGISTERS}
use Rattle.long_names.specs.declared.value.Value.TheVariants.{Int}
use Rattle.object_memory.specs.Fit.{KeepsCallable}
use Rattle.object_memory.proofs.memory.ObjectMemory.clear_scratch.Given as goal

-- The scratch registers below that of this turn hold 0, and nothing else has changed.
abbrev pub invariant-loop-r : goal.invariant-loop-r
invariant-loop-r g l =
    let told = g.Self.ObjectMemory.told in
    record {
      regs : (r : ℕ) → (told l.self).regs r ≡ cond (nat_le MACHINE_REGISTERS r && nat_lt r l.r) (Int (pos 0)) ((told l.fn.self).regs r);
      rest : told l.self ≡ record (told l.fn.self) { regs = (told l.self).regs };
      fit : KeepsCallable g.Self.ObjectMemory.sound told g.Self.ObjectMemory.lender g.Self.ObjectMemory.outside l.fn.self l.self;
    }
