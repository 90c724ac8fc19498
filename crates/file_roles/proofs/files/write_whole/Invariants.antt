use Rattle.std.proofs.Common.{◌≡◌, ◌≤◌, ◌-◌, IsTrue, length}
use Rattle.file_system.specs.declared.system.Way.TheVariants.{Place}
use Rattle.file_roles.specs.Open.{HasUse, Leaves, not_of}
use Rattle.file_roles.proofs.files.write_whole.Given as goal

abbrev pub invariant-loop-done : goal.invariant-loop-done
invariant-loop-done g l = record {
  within : l.done ≤ length l.buf;
  leaves : IsTrue g.S.System.tells → l.used.way ≡ Place → HasUse l.used (g.S.System.moments l.initial.system).now → Leaves (not_of l.used.found.file) (g.S.System.moments l.initial.system) (g.S.System.moments l.system);
}

abbrev pub decreases-loop-done : goal.decreases-loop-done
decreases-loop-done g l = length l.buf - l.done
