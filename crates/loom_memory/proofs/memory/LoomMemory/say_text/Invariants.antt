use Rattle.std.proofs.Common.{◌≡◌, ◌-◌, ◌≤◌}
use Rattle.object_memory.specs.Told.{Told}
use Rattle.loom_memory.specs.Memory.{loom_told, loom_outside, IsSound}
use Rattle.loom_memory.specs.Residents.{fetched}
use Rattle.loom_memory.specs.Says.{IsSaid, IsSpeech}
use Rattle.loom_memory.proofs.memory.LoomMemory.say_text.Given as goal

-- The bytes below i were said.
abbrev pub invariant-loop-i : goal.invariant-loop-i
invariant-loop-i g l = record {
  within : l.i ≤ l.fn.len;
  said : (t : Told) → IsSaid t (loom_told g.H.Host l.fn.self) l.fn.of 0 → IsSaid t (loom_told g.H.Host l.self) l.fn.of l.i;
  sound : IsSound g.H.Host l.self;
  parts : l.self.pager.levels.parts ≡ l.fn.self.pager.levels.parts;
  brings : fetched l.self ≡ fetched l.fn.self;
  speech : IsSpeech g.H.Host l.fn.self l.self;
  lender : l.self.pager.levels.disk.host.ghost_name ≡ l.fn.self.pager.levels.disk.host.ghost_name;
  outside : loom_outside g.H.Host l.self ≡ loom_outside g.H.Host l.fn.self;
}

abbrev pub decreases-loop-i : goal.decreases-loop-i
decreases-loop-i g l = l.fn.len - l.i
