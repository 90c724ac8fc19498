use Rattle.std.proofs.Common.{◌≡◌, true, false, refl, subst, arith}
use Rattle.loom_host.specs.Work.{work_of}
use Rattle.disk_objects.specs.Disk.{IsDisk}
use Rattle.core_view.specs.Levels.{Levels}
use Rattle.delta_counts.specs.At.{IsFreedAt}
use Rattle.delta_counts.proofs.FreeLaws.{took-at, none-at, took-some, took-none, first-loose, first-may, first-levels}
use Rattle.loom_host.proofs.WorkLaws.{exits}
use Rattle.loom_host.specs.declared.outside.Role.TheVariants.{Work}
use Rattle.delta_counts.specs.Faults.{IsFreeFault}
use Rattle.delta_counts.proofs.FaultLaws.{fault-free, free-again}
use Rattle.delta_counts.proofs.freeing.drain_pending.Goals as goal

pub take_pending-requires : goal.take_pending-requires
take_pending-requires g c = record { stands = λ told. let x = c.requires.sound told in (x.2.disk.objects, x.1.pending, x.2.disk.disk, tt) }

pub free-requires-clause-may : goal.free-requires-clause-may
free-requires-clause-may g c = λ told.
    let x = c.requires.sound told in
    let took = took-some x.1.pending (λ xs. IsDisk c.take_pending.new.self.rest (work_of g.H.Host c.take_pending.new.self.host.now) x.2.disk.objects xs) _ c.in-Some.name c.in-Some.is (c.in_ok-name.ensures.took told x.2.disk.objects x.1.pending x.2.disk.disk) in
    (x.0, _, took-at g.H.Host x.0 c.args.p.now c.args.disk.now.host.now c.take_pending.new.self.host.now c.args.disk.now.rest c.take_pending.new.self.rest x.1 c.in-Some.name took.0 x.2 took.2, first-may x.1 c.in-Some.name took.0 x.3 took.1)

pub returns-in_default-clause-drained : goal.returns-in_default-clause-drained
returns-in_default-clause-drained g c = λ told chunks t at x.
    let took = took-none t.pending (λ xs. IsDisk c.take_pending.new.self.rest (work_of g.H.Host c.take_pending.new.self.host.now) at.disk.objects xs) _ c.in_default.is (c.in_ok-name.ensures.took told at.disk.objects t.pending at.disk.disk) in
    (took.0, none-at g.H.Host chunks c.args.p.now c.args.disk.now.host.now c.take_pending.new.self.host.now c.args.disk.now.rest c.take_pending.new.self.rest t at took.0 took.1)

pub returns-clause-drained : goal.returns-clause-drained
returns-clause-drained g c = λ told chunks t at x.
    let took = took-some t.pending (λ xs. IsDisk c.take_pending.new.self.rest (work_of g.H.Host c.take_pending.new.self.host.now) at.disk.objects xs) _ c.in-Some.name c.in-Some.is (c.in_ok-name.ensures.took told at.disk.objects t.pending at.disk.disk) in
    let loose = first-loose t c.in-Some.name took.0 x took.1 in
    (c.in-Some.name, loose.1.dead, loose.1.no_entry, subst (λ (l : Levels). IsFreedAt g.H.Host chunks c.free.new.p c.free.new.disk.host.now c.free.new.disk.rest l c.in-Some.name) (first-levels t c.in-Some.name took.0 x took.1) (c.in_ok-free.ensures.freed told chunks _ (took-at g.H.Host chunks c.args.p.now c.args.disk.now.host.now c.take_pending.new.self.host.now c.args.disk.now.rest c.take_pending.new.self.rest t c.in-Some.name took.0 at took.2) (first-may t c.in-Some.name took.0 x took.1)))

pub returns-in_err-name-clause-fault : goal.returns-in_err-name-clause-fault
returns-in_err-name-clause-fault g c =
    let h = g.H.Host in
    exits c.from_residual.result c.in_err-name.field-0.0
    (IsFreeFault (h.tells Work) (h.faults c.args.disk.now.host.now Work) (h.faults c.take_pending.new.self.host.now Work) c.args.disk.now.rest)
    c.from_residual.ensures.1
    (fault-free _ _ _ _ c.args.disk.now.rest c.args.disk.now.rest _ c.in_err-name.field-0.0 (omega arith) refl c.in_err-name.ensures.fault)

pub returns-in_err-free-clause-fault : goal.returns-in_err-free-clause-fault
returns-in_err-free-clause-fault g c =
    let h = g.H.Host in
    exits c.from_residual-in_err-free.result c.in_err-free.field-0.0
    (IsFreeFault (h.tells Work) (h.faults c.args.disk.now.host.now Work) (h.faults c.free.new.disk.host.now Work) c.args.disk.now.rest)
    c.from_residual-in_err-free.ensures.1
    (free-again _ _ _ _ c.args.disk.now.rest c.take_pending.new.self.rest c.in_err-free.field-0.0 c.take_pending.ensures.read.later c.take_pending.ensures.room c.in_err-free.ensures.fault)

pub returns-in_default-clause-record : goal.returns-in_default-clause-record
returns-in_default-clause-record g c = λ on. absurd (let both : false ≡ true = on in cc)

pub returns-clause-record : goal.returns-clause-record
returns-clause-record g c = λ on. c.in_ok-free.ensures.record
