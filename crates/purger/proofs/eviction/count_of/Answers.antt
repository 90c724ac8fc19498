use Rattle.std.specs.FinMap as map
use Rattle.loom_host.proofs.WorkLaws.{exits}
use Rattle.loom_host.specs.declared.outside.Role.TheVariants.{Work}
use Rattle.disk_objects.specs.Places.{IsSlotPlace}
use Rattle.purger.specs.Purge.{IsReadFault}
use Rattle.purger.proofs.SoundLaws.{none-count, some-count}
use Rattle.purger.proofs.GivingLaws.{slot-read}
use Rattle.purger.proofs.eviction.count_of.Goals as goal

pub returns-in_default-clause-count : goal.returns-in_default-clause-count
returns-in_default-clause-count g c = λ told stored pending at. none-count (map.get at.objects c.args.name) (stored c.args.name) _ (at.same c.args.name) c.in_default.is (c.in_ok-held.ensures.count told at.objects pending at.disk)

pub returns-clause-count : goal.returns-clause-count
returns-clause-count g c = λ told stored pending at. some-count (map.get at.objects c.args.name) (stored c.args.name) _ c.in-Some.held (at.same c.args.name) c.in-Some.is (c.in_ok-held.ensures.count told at.objects pending at.disk)

pub returns-in_err-held-clause-fault : goal.returns-in_err-held-clause-fault
returns-in_err-held-clause-fault g c =
    let h = g.H.Host in
    exits c.from_residual.result c.in_err-held.field-0.0 (IsReadFault (h.tells Work) (h.faults c.args.disk.now.host.now Work) (h.faults c.count.new.self.host.now Work)) c.from_residual.ensures.1
    (slot-read _ _ _ (IsSlotPlace c.args.disk.now.rest) c.args.name c.in_err-held.field-0.0 c.in_err-held.ensures.fault)
