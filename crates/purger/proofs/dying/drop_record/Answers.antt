use Rattle.std.proofs.Common.{arith}
use Rattle.loom_host.specs.declared.outside.Role.TheVariants.{Work}
use Rattle.disk_objects.specs.Places.{IsReadPlace}
use Rattle.delta_counts.proofs.LowerLaws.{ok-map}
use Rattle.disk_objects.proofs.StayLaws.{stays-refl}
use Rattle.purger.proofs.GivingLaws.{slot-read-if}
use Rattle.purger.proofs.DrainLaws.{fresh-dropped, other-dropped, other-idle}
use Rattle.purger.proofs.dying.drop_record.Goals as goal

pub returns-then-fresh-clause-dropped : goal.returns-then-fresh-clause-dropped
returns-then-fresh-clause-dropped g c = λ told stored pending at may. fresh-dropped g.H.Host c.args.disk.now.host.now c.args.disk.now.rest stored pending c.args.name c.args.fresh c.if-fresh.true may at

pub returns-then-fresh-clause-disk : goal.returns-then-fresh-clause-disk
returns-then-fresh-clause-disk g c = stays-refl g.H.Host c.args.disk.now

pub remove-requires : goal.remove-requires
remove-requires g c = record {
  stands = λ told.
      let x = c.requires.may told in
      (x.2.objects, x.1, x.2.disk, other-idle g.H.Host c.args.disk.now.host.now c.args.disk.now.rest x.0 x.1 c.args.name c.args.fresh c.if-fresh.false x.3 x.2);
}

pub returns-clause-dropped : goal.returns-clause-dropped
returns-clause-dropped g c = λ told stored pending at may.
    ok-map c.remove.result (λ d. other-dropped g.H.Host c.args.disk.now.host.now c.remove.new.self.host.now c.args.disk.now.rest c.remove.new.self.rest stored pending c.args.name at d)
    (c.remove.ensures.removed told at.objects pending at.disk (other-idle g.H.Host c.args.disk.now.host.now c.args.disk.now.rest stored pending c.args.name c.args.fresh c.if-fresh.false may at))

pub returns-clause-fault : goal.returns-clause-fault
returns-clause-fault g c = slot-read-if (g.H.Host.tells Work) (g.H.Host.faults c.args.disk.now.host.now Work) (g.H.Host.faults c.remove.new.self.host.now Work) (IsReadPlace c.args.disk.now.rest) c.args.name c.remove.result c.remove.ensures.fault

pub returns-clause-held : goal.returns-clause-held
returns-clause-held g c = ok-map c.remove.result (λ less. omega arith) c.remove.ensures.held
