use Rattle.std.proofs.Common.{ap}
use Rattle.work_windows.proofs.HostLaws.{read-told}
use Rattle.work_windows.proofs.RowLaws.{stands-current}
use Rattle.work_windows.specs.Windowed.{inside, contents_over}
use Rattle.work_windows.specs.declared.row.Row.{Row}
use Rattle.work_windows.specs.declared.windows.TheConstants.{WRITTEN}
use Rattle.work_windows.proofs.windowed.WindowedHost.read_at.Goals as goal

pub invariant_of-self : goal.invariant_of-self
invariant_of-self g c = record { current = λ told. stands-current _ _ _ (c.read_at.ensures.stands told _ (c.args.self.now.current told)) }

pub returns-clause-bytes : goal.returns-clause-bytes
unfolding inside contents_over
returns-clause-bytes g c = λ told. c.read_at.ensures.bytes told _ (c.args.self.now.current told)

pub returns-clause-roles : goal.returns-clause-roles
unfolding inside contents_over
returns-clause-roles g c = λ r.
    let now = c.read_at.new.self in
    let w = c.args.self.now in
    read-told (g.H.Host.roles c.read_at.new.host) (g.H.Host.roles w.inner) now.written.items.items w.windows.written.items.items now.limit w.windows.limit r c.read_at.ensures.read.roles (ap (λ (row : Row WRITTEN). row.items.items) c.read_at.ensures.written) c.read_at.ensures.limit
