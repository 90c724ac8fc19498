use Rattle.std.proofs.Common.{◌≡◌, ◌++◌, ℕ, List, length, drop, refl, ap, sym, subst, ◌∙◌}
use Rattle.loom_host.specs.Bytes.{window}
use Rattle.loom_host.specs.Work.{work_of, IsWorkFault}
use Rattle.loom_host.specs.declared.outside.Role.TheVariants.{Work}
use Rattle.loom_host.proofs.WorkLaws.{work-same, exits, fault-later}
use Rattle.object_record.proofs.Numbers.{AreBytes}
use Rattle.work_space.proofs.SpaceLaws.{true-false}
use Rattle.disk_objects.specs.Disk.{IsLaid}
use Rattle.disk_objects.specs.Inside.{IsRecordFault}
use Rattle.disk_objects.proofs.RecordLaws.{buffer-filled, exits-both, head-record, head-work, laid-low, size-laid, work-record}
use Rattle.disk_objects.proofs.record.read_record.Goals as goal

pub returns-in_err-head-clause-told : goal.returns-in_err-head-clause-told
returns-in_err-head-clause-told g c told raw link is named laid =
    let h = g.H.Host in
    let w : List ℕ = work_of h c.args.host.now in
    exits-both c.from_residual.result c.in_err-head.field-0.0 _ (IsWorkFault (h.faults c.args.host.now Work) (h.faults c.read_front.new.host Work))
    c.from_residual.ensures.1
    (head-work w (h.tells Work) (h.faults c.args.host.now Work) (h.faults c.read_front.new.host Work) c.args.place c.args.name c.in_err-head.field-0.0
    told (laid-low w c.args.place raw link is laid) c.in_err-head.ensures.fault)

pub returns-in_err-head-clause-fault : goal.returns-in_err-head-clause-fault
returns-in_err-head-clause-fault g c =
    let h = g.H.Host in
    exits c.from_residual.result c.in_err-head.field-0.0
    (IsRecordFault (h.faults c.args.host.now Work) (h.faults c.read_front.new.host Work) c.args.place c.args.name) c.from_residual.ensures.1
    (head-record (work_of h c.args.host.now) (h.tells Work) (h.faults c.args.host.now Work) (h.faults c.read_front.new.host Work) c.args.place c.args.name
    c.in_err-head.field-0.0 c.in_err-head.ensures.fault)

pub returns-in_err-fetch-clause-told : goal.returns-in_err-fetch-clause-told
returns-in_err-fetch-clause-told g c told raw link is named laid =
    let h = g.H.Host in
    exits-both c.from_residual-in_err-fetch.result c.in_err-fetch.field-0.0 _ (IsWorkFault (h.faults c.args.host.now Work) (h.faults c.fetch.new.host Work))
    c.from_residual-in_err-fetch.ensures.1
    (fault-later (h.faults c.args.host.now Work) (h.faults c.read_front.new.host Work) (h.faults c.fetch.new.host Work) c.in_err-fetch.field-0.0
    c.in_ok-head.ensures.read.later c.in_err-fetch.ensures.fault)

pub returns-in_err-fetch-clause-fault : goal.returns-in_err-fetch-clause-fault
returns-in_err-fetch-clause-fault g c =
    let h = g.H.Host in
    exits c.from_residual-in_err-fetch.result c.in_err-fetch.field-0.0
    (IsRecordFault (h.faults c.args.host.now Work) (h.faults c.fetch.new.host Work) c.args.place c.args.name) c.from_residual-in_err-fetch.ensures.1
    (work-record (h.faults c.args.host.now Work) (h.faults c.read_front.new.host Work) (h.faults c.fetch.new.host Work) c.args.place c.args.name
    c.in_err-fetch.field-0.0 c.in_ok-head.ensures.read.later c.in_err-fetch.ensures.fault)

pub returns-then-not-is_record-clause-told : goal.returns-then-not-is_record-clause-told
returns-then-not-is_record-clause-told g c told raw link is named laid =
    let h = g.H.Host in
    let w : List ℕ = work_of h c.args.host.now in
    let v : List ℕ = work_of h c.read_front.new.host in
    let same : v ≡ w = work-same h c.args.host.now c.read_front.new.host c.in_ok-head.ensures.read in
    let size : ℕ = c.in_ok-head.head.size in
    let fits : AreBytes c.fetch.new.bytes = record { below = λ i. c.in_ok-fetch.ensures.fits i } in
    let front = c.in_ok-head.ensures.front told ∙ ap (λ (t : List ℕ). window t c.args.place 256) (sym same) in
    let all = buffer-filled v c.args.buf.now c.fetch.new.bytes _ c.args.place raw link size fits is
    (subst (λ (t : List ℕ). IsLaid t c.args.place raw link) (sym same) laid)
    (c.in_ok-head.ensures.size told ∙ size-laid w c.args.place raw link is laid) c.in_ok-head.ensures.sized.size.most
    (c.in_ok-fetch.ensures.len ∙ ap length c.space.ensures.bytes)
    (c.in_ok-fetch.ensures.bytes told front ∙ ap (λ (t : List ℕ). window v c.args.place size ++ drop size t) c.space.ensures.bytes) refl in
    true-false (sym (c.is_record.ensures.1 (all.0, all.1 ∙ named)) ∙ c.if-not-is_record.true)

pub returns-clause-told : goal.returns-clause-told
returns-clause-told g c told raw link is named laid =
    let h = g.H.Host in
    let w : List ℕ = work_of h c.args.host.now in
    let v : List ℕ = work_of h c.read_front.new.host in
    let same : v ≡ w = work-same h c.args.host.now c.read_front.new.host c.in_ok-head.ensures.read in
    let size : ℕ = c.in_ok-head.head.size in
    let fits : AreBytes c.fetch.new.bytes = record { below = λ i. c.in_ok-fetch.ensures.fits i } in
    let front = c.in_ok-head.ensures.front told ∙ ap (λ (t : List ℕ). window t c.args.place 256) (sym same) in
    let all = buffer-filled v c.args.buf.now c.fetch.new.bytes _ c.args.place raw link size fits is
    (subst (λ (t : List ℕ). IsLaid t c.args.place raw link) (sym same) laid)
    (c.in_ok-head.ensures.size told ∙ size-laid w c.args.place raw link is laid) c.in_ok-head.ensures.sized.size.most
    (c.in_ok-fetch.ensures.len ∙ ap length c.space.ensures.bytes)
    (c.in_ok-fetch.ensures.bytes told front ∙ ap (λ (t : List ℕ). window v c.args.place size ++ drop size t) c.space.ensures.bytes) refl in
    all.2
