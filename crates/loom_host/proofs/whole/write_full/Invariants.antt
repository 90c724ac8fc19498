use Rattle.std.proofs.Common.{◌≡◌, ◌-◌, ◌≤◌, IsTrue, length, take}
use Rattle.loom_host.specs.declared.outside.Role.TheVariants.{Work}
use Rattle.loom_host.specs.Outside.{SameBut, puts}
use Rattle.loom_host.proofs.whole.write_full.Given as goal

abbrev pub invariant-loop-done : goal.invariant-loop-done
invariant-loop-done g l = record {
  within : l.done ≤ length l.buf;
  none : length l.buf ≡ 0 → l.host ≡ l.initial.host;
  put : IsTrue (g.H.Host.tells l.role) → g.H.Host.roles l.host l.role ≡ puts (take l.done l.buf) (g.H.Host.roles l.initial.host l.role);
  others : SameBut l.role (g.H.Host.roles l.initial.host) (g.H.Host.roles l.host);
  work : g.H.Host.roles l.host Work ≡ g.H.Host.roles l.initial.host Work;
  other_faults : SameBut l.role (g.H.Host.faults l.initial.host) (g.H.Host.faults l.host);
  writes : g.H.Host.writes l.host ≡ g.H.Host.writes l.initial.host;
  faults : g.H.Host.faults l.initial.host l.role ≤ g.H.Host.faults l.host l.role;
}

abbrev pub decreases-loop-done : goal.decreases-loop-done
decreases-loop-done g l = length l.buf - l.done
