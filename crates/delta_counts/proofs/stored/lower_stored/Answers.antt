use Rattle.std.proofs.Common.{refl, sym}
use Rattle.delta_counts.proofs.LowerLaws.{add-can, less-at, still-at, joins-at, positive, is-known, is-none, ok-map}
use Rattle.delta_counts.proofs.FaultLaws.{err-map, fault-again}
use Rattle.delta_counts.proofs.stored.lower_stored.Goals as goal

pub add_count-requires : goal.add_count-requires
add_count-requires g c = record { stands = λ told. add-can g.H.Host c.args.disk.now.host.now c.args.disk.now.rest c.args.name (c.requires.can told) }

pub returns-then-count-gt0-clause-lowered : goal.returns-then-count-gt0-clause-lowered
returns-then-count-gt0-clause-lowered g c told stored pending at has =
    still-at g.H.Host c.add_count.new.self.host.now c.add_count.new.self.rest stored pending c.args.name c.in_ok-count.count
    (less-at g.H.Host c.args.disk.now.host.now c.add_count.new.self.host.now c.args.disk.now.rest c.add_count.new.self.rest stored pending c.args.name c.in_ok-count.count at has (λ o is. c.in_ok-count.ensures.counted told at.objects pending at.disk o is))
    (positive _ c.in_ok-count.count c.if-count-gt0.true)

pub returns-then-is_known-clause-lowered : goal.returns-then-is_known-clause-lowered
returns-then-is_known-clause-lowered g c told stored pending at has =
    still-at g.H.Host c.add_count.new.self.host.now c.add_count.new.self.rest stored pending c.args.name c.in_ok-count.count
    (less-at g.H.Host c.args.disk.now.host.now c.add_count.new.self.host.now c.args.disk.now.rest c.add_count.new.self.rest stored pending c.args.name c.in_ok-count.count at has (λ o is. c.in_ok-count.ensures.counted told at.objects pending at.disk o is))
    (is-known _ c.in_ok-count.count (sym c.if-is_known.ensures))

pub put_pending-requires : goal.put_pending-requires
put_pending-requires g c = record {
  stands = λ told.
      let x = c.requires.can told in
      let less = less-at g.H.Host c.args.disk.now.host.now c.add_count.new.self.host.now c.args.disk.now.rest c.add_count.new.self.rest x.0 x.1 c.args.name c.in_ok-count.count x.2 x.3 (λ o is. c.in_ok-count.ensures.counted told x.2.objects x.1 x.2.disk o is) in
      (less.at.objects, x.1, less.at.disk, less.idle_there);
}

pub returns-clause-lowered : goal.returns-clause-lowered
returns-clause-lowered g c told stored pending at has =
    let less = less-at g.H.Host c.args.disk.now.host.now c.add_count.new.self.host.now c.args.disk.now.rest c.add_count.new.self.rest stored pending c.args.name c.in_ok-count.count at has (λ o is. c.in_ok-count.ensures.counted told at.objects pending at.disk o is) in
    ok-map c.put_pending.result
    (λ disk. joins-at g.H.Host c.add_count.new.self.host.now c.put_pending.new.self.host.now c.add_count.new.self.rest c.put_pending.new.self.rest stored pending c.args.name c.in_ok-count.count less (is-none _ c.in_ok-count.count (sym c.if-is_known.ensures) c.if-count-gt0.false) disk)
    (c.put_pending.ensures.put told less.at.objects pending less.at.disk less.idle_there)

pub returns-clause-fault : goal.returns-clause-fault
returns-clause-fault g c = err-map c.put_pending.result
    (λ f x. fault-again _ _ _ _ c.args.disk.now.rest c.add_count.new.self.rest c.args.name c.args.name f c.add_count.ensures.work.later c.add_count.ensures.room refl x) c.put_pending.ensures.fault
