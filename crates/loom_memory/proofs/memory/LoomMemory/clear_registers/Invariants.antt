use Rattle.std.proofs.Common.{◌≡◌}
use Rattle.loom_memory.specs.Ending.{AreNumbersBelow}
use Rattle.loom_memory.specs.Memory.{loom_told, loom_outside, IsSound}
use Rattle.loom_memory.proofs.memory.LoomMemory.clear_registers.Given as goal

abbrev pub invariant-loop-i : goal.invariant-loop-i
invariant-loop-i g l = record {
  told : loom_told g.H.Host l.self ≡ (record (loom_told g.H.Host l.fn.self) { regs = (loom_told g.H.Host l.self).regs });
  none : AreNumbersBelow l.i (loom_told g.H.Host l.self).regs;
  sound : IsSound g.H.Host l.self;
  lender : l.self.pager.levels.disk.host.ghost_name ≡ l.fn.self.pager.levels.disk.host.ghost_name;
  outside : loom_outside g.H.Host l.self ≡ loom_outside g.H.Host l.fn.self;
}
