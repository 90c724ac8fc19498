use Rattle.loom_host.specs.Bytes.{overwritten}
use Rattle.loom_host.specs.Work.{work_of}
use Rattle.loom_host.specs.declared.outside.Role.TheVariants.{Work}
use Rattle.work_windows.proofs.HostLaws.{written-told}
use Rattle.work_windows.proofs.RowLaws.{stands-current}
use Rattle.work_windows.specs.Windows.{overlaid}
use Rattle.work_windows.specs.Windowed.{inside, contents_over}
use Rattle.work_windows.proofs.windowed.WindowedHost.write_at.Goals as goal

pub invariant_of-self : goal.invariant_of-self
invariant_of-self g c = record { current = λ told. stands-current _ _ _ (c.in-Ok.ensures.stands told _ (c.args.self.now.current told)) }

pub invariant_of-self-in-Err : goal.invariant_of-self-in-Err
invariant_of-self-in-Err g c = record { current = λ told. stands-current _ _ _ (c.forget.ensures (work_of g.H.Host c.write_at.new.host)) }

pub returns-in-Ok-clause-contents : goal.returns-in-Ok-clause-contents
unfolding inside contents_over
returns-in-Ok-clause-contents g c = λ told.
    let w = c.args.self.now in
    let now = c.write_at.new.self in
    let all = overlaid (work_of g.H.Host w.inner) w.windows.written.items.items w.windows.limit in
    let all_over = (c.in-Ok.ensures.stands told _ (w.current told)).over in
    written-told (g.H.Host.roles w.inner Work) (g.H.Host.roles c.write_at.new.host Work) now.written.items.items now.limit all (overwritten all c.args.place c.args.buf.now) (c.in-Ok.ensures.host.work told) all_over

pub returns-in-Err-clause-failed : goal.returns-in-Err-clause-failed
unfolding inside contents_over
returns-in-Err-clause-failed g c = λ told.
    let w = c.args.self.now in
    let now = c.forget.new.self in
    let all = overlaid (work_of g.H.Host w.inner) w.windows.written.items.items w.windows.limit in
    let left = work_of g.H.Host c.write_at.new.host in
    let left_over = (c.forget.ensures left).over in
    (left, written-told (g.H.Host.roles w.inner Work) (g.H.Host.roles c.write_at.new.host Work) now.written.items.items now.limit all left (c.in-Err.ensures.host.work told) left_over)
