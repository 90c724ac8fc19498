use Rattle.std.proofs.Common.{sym, subst}
use Rattle.std.specs.Prelude.{IsSome}
use Rattle.std.specs.FinMap as map
use Rattle.loom_host.specs.Work.{work_of}
use Rattle.work_directory.specs.Directory.{entries_of}
use Rattle.work_directory.specs.Table.{Entries}
use Rattle.disk_objects.proofs.SwapLaws.{still-held}
use Rattle.disk_objects.proofs.rest.DiskRest.exchange.Goals as goal

pub set-requires-clause-there : goal.set-requires-clause-there
set-requires-clause-there g c told =
    let ch = c.in_ok-set_at.ensures.set told in
    subst (λ (m : Entries). IsSome (map.get m c.args.b)) (sym ch.entries_are)
    (still-held (entries_of c.args.self.now.directory (work_of g.H.Host c.args.host.now)) c.args.a c.args.b _ (c.requires.two told))
