use Rattle.std.proofs.Common.{◌≤◌, ◌<◌, IsTrue}
use Rattle.loom_host.specs.declared.outside.Role.TheVariants.{Work}
use Rattle.work_directory.specs.Directory.{held_of}
use Rattle.loom_host.specs.Work.{work_of, IsWorkOnly}
use Rattle.work_directory.proofs.UnderWay.{IsUnderWay}
use Rattle.work_directory.proofs.directory.Directory.close_up.Given as goal

abbrev pub invariant-loop-step : goal.invariant-loop-step
invariant-loop-step g l = record {
  low : 1 ≤ l.gap;
  high : l.gap ≤ l._step;
  within : l.hole < l.slots;
  work : IsWorkOnly g.H.Host l.fn.host l.host;
  way : IsTrue (g.H.Host.tells Work) → IsUnderWay (work_of g.H.Host l.fn.host) (work_of g.H.Host l.host) l.slots (held_of l.self) l.fn.at
      l.hole l.gap l._step;
}
