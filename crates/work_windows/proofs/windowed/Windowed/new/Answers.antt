use Rattle.loom_host.specs.Work.{work_of}
use Rattle.work_windows.proofs.HostLaws.{told-own}
use Rattle.work_windows.proofs.RowLaws.{stands-current}
use Rattle.work_windows.specs.Windowed.{inside, contents_over}
use Rattle.work_windows.proofs.windowed.Windowed.new.Goals as goal

pub invariant_of-result : goal.invariant_of-result
invariant_of-result g c = record { current = λ told. stands-current _ _ _ (c.new.ensures (work_of g.H.Host c.args.inner)) }

pub returns-clause-roles : goal.returns-clause-roles
unfolding inside contents_over
returns-clause-roles g c = λ r. told-own (g.H.Host.roles c.args.inner) c.new.result.written.items.items c.new.result.limit r (c.new.ensures (work_of g.H.Host c.args.inner)).over
