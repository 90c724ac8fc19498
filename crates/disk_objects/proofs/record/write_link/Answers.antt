use Rattle.std.proofs.Common.{arith}
use Rattle.std.proofs.lemmas.Result.{on_ok_weaker}
use Rattle.loom_host.specs.Work.{work_of}
use Rattle.disk_objects.proofs.RecordLaws.{link-written}
use Rattle.disk_objects.proofs.record.write_link.Goals as goal

pub returns-clause-link : goal.returns-clause-link
returns-clause-link g c told =
    on_ok_weaker c.write.result (λ here.
    link-written (work_of g.H.Host c.write.new.host) _ c.args.link c.write_u64.new.buf here c.write_u64.ensures (omega arith))
    (c.write.ensures.here told)
