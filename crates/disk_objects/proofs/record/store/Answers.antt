use Rattle.std.proofs.Common.{ℕ, ap, refl, arith}
use Rattle.loom_host.specs.Outside.{RoleState}
use Rattle.loom_host.specs.declared.outside.Role.TheVariants.{Work}
use Rattle.object_record.specs.Buffer.{raw_of}
use Rattle.loom_host.specs.Work.{work_of, IsWorkFault}
use Rattle.loom_host.proofs.WorkLaws.{exits}
use Rattle.disk_objects.specs.Inside.{IsStoreFault}
use Rattle.disk_objects.proofs.FaultLaws.{store-take}
use Rattle.disk_objects.proofs.TouchLaws.{place-low, stored-in}
use Rattle.disk_objects.proofs.record.store.Goals as goal

pub returns-in_err-place-clause-sound : goal.returns-in_err-place-clause-sound
returns-in_err-place-clause-sound g c told laid out b few first =
    exits c.from_residual.result _ (IsWorkFault (g.H.Host.faults c.args.host.now Work) (g.H.Host.faults c.take.new.host Work))
    c.from_residual.ensures.1 (c.in_err-place.ensures.sound told laid out b few first)

pub returns-then-place-gt-LAST_END-clause-sound : goal.returns-then-place-gt-LAST_END-clause-sound
returns-then-place-gt-LAST_END-clause-sound g c told laid out b few first =
    let low = place-low c.args.space.now c.take.new.self (work_of g.H.Host c.args.host.now) (work_of g.H.Host c.take.new.host) laid out
    c.size_class_for.result c.in_ok-place.place b few first
    (c.in_ok-place.ensures.takes told laid out b) c.in_ok-place.ensures.place.0 in
    omega (arith, low, c.if-place-gt-LAST_END.true)

pub returns-clause-stores : goal.returns-clause-stores
returns-clause-stores g c told laid out b =
    stored-in c.args.space.now c.take.new.self (work_of g.H.Host c.args.host.now) (work_of g.H.Host c.take.new.host)
    (work_of g.H.Host c.write_record.new.host) laid out (raw_of c.args.buf.now) c.args.link c.size_class_for.result c.in_ok-place.place
    c.size_class_for.ensures
    (ap (λ (s : RoleState). s.contents) (c.take.ensures.host.roles Work))
    (c.in_ok-place.ensures.takes told laid out b)
    (c.in_ok-write_record.ensures.writes told)

pub returns-in_err-place-clause-fault : goal.returns-in_err-place-clause-fault
returns-in_err-place-clause-fault g c =
    let a : ℕ = g.H.Host.faults c.args.host.now Work in
    let b : ℕ = g.H.Host.faults c.take.new.host Work in
    exits c.from_residual.result _ (IsStoreFault c.args.space.now (raw_of c.args.buf.now) a b) c.from_residual.ensures.1
    (store-take c.args.space.now (raw_of c.args.buf.now) c.size_class_for.result a b c.in_err-place.field-0.0 c.size_class_for.ensures c.in_err-place.ensures.fault)

pub returns-then-place-gt-LAST_END-clause-fault : goal.returns-then-place-gt-LAST_END-clause-fault
returns-then-place-gt-LAST_END-clause-fault g c =
    (record { class = c.size_class_for.result; is_class = c.size_class_for.ensures; next = c.in_ok-place.ensures.place.0 }, refl)
