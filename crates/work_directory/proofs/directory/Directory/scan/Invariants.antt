use Rattle.std.proofs.Common.{IsTrue}
use Rattle.probing.specs.Homes.{paged_home_of}
use Rattle.loom_host.specs.declared.outside.Role.TheVariants.{Work}
use Rattle.probing.specs.Search.{IsPassed}
use Rattle.work_directory.specs.Directory.{slots_of}
use Rattle.work_directory.specs.Table.{name_at}
use Rattle.loom_host.specs.Work.{work_of, IsWorkRead}
use Rattle.work_directory.proofs.directory.Directory.scan.Given as goal

abbrev pub invariant-loop-step : goal.invariant-loop-step
invariant-loop-step g l = record {
  read : IsWorkRead g.H.Host l.fn.host l.host;
  passed : IsTrue (g.H.Host.tells Work) → IsPassed paged_home_of (name_at (work_of g.H.Host l.fn.host)) (slots_of l.self) l.name l.step;
}
