use Rattle.work_windows.proofs.HostLaws.{same-told, told-same}
use Rattle.work_windows.specs.Windowed.{inside, contents_over}
use Rattle.work_windows.proofs.windowed.WindowedHost.write.Goals as goal

pub returns-clause-others : goal.returns-clause-others
unfolding inside contents_over
returns-clause-others g c = λ r other.
    let w = c.args.self.now in
    let f = g.H.Host.roles c.write.new.self in
    let h = g.H.Host.roles w.inner in
    told-same f h w.windows.written.items.items w.windows.written.items.items w.windows.limit w.windows.limit r (λ work. same-told _ _ w.windows.written.items.items w.windows.limit c.write.ensures.work) (λ away. c.write.ensures.others r other)

pub returns-clause-work : goal.returns-clause-work
unfolding inside contents_over
returns-clause-work g c = same-told _ _ _ _ c.write.ensures.work
