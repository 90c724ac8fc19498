use Rattle.loom_host.specs.declared.outside.Role.TheVariants.{Work}
use Rattle.loom_host.specs.Work.{work_of, IsWorkFault}
use Rattle.loom_host.proofs.WorkLaws.{work-same, fault-later}
use Rattle.std.proofs.lemmas.Result.{IfErr-weaker}
use Rattle.object_record.specs.Buffer.{raw_of}
use Rattle.disk_objects.proofs.RecordLaws.{renamed-written}
use Rattle.disk_objects.proofs.record.rename_record.Goals as goal

pub returns-clause-renamed : goal.returns-clause-renamed
returns-clause-renamed g c told raw old is named laid =
    let h = g.H.Host in
    let a = c.args.host.now in
    let b = c.read_record.new.host in
    let d = c.write_record.new.host in
    renamed-written (IsWorkFault (h.faults a Work) (h.faults d Work)) (work_of h a) (work_of h b) (work_of h d) c.args.place
    (raw_of c.read_record.new.buf) (raw_of c.rename.new.self) raw c.args.other c.args.link c.write_record.result
    (work-same h a b c.in_ok-read_record.ensures.read)
    (c.in_ok-read_record.ensures.told told raw old is named laid) c.rename.ensures.set (c.write_record.ensures.writes told)
    (IfErr-weaker c.write_record.result (IsWorkFault (h.faults b Work) (h.faults d Work)) (IsWorkFault (h.faults a Work) (h.faults d Work))
    (λ fault. fault-later (h.faults a Work) (h.faults b Work) (h.faults d Work) fault c.in_ok-read_record.ensures.read.later) c.write_record.ensures.fault)
