use Rattle.std.proofs.Common.{ap, arith}
use Rattle.loom_host.specs.Work.{work_of}
use Rattle.work_space.proofs.FreeLaws.{link-written}
use Rattle.work_space.proofs.link.write_link.Goals as goal

pub returns-in-Ok-clause-link : goal.returns-in-Ok-clause-link
returns-in-Ok-clause-link g c told =
    link-written (work_of g.H.Host c.args.host.now) _ c.args.place c.args.link c.write_u64.new.buf
    (ap (λ s. s.contents) (c.in-Ok.ensures.contents told)) c.write_u64.ensures (omega arith)
