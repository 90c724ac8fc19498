use Rattle.delta_counts.proofs.AtLaws.{found-used, can-stored, lowered-some, lowered-none}
use Rattle.delta_counts.proofs.LowerLaws.{ok-then}
use Rattle.delta_counts.proofs.changes.lower.Goals as goal

pub add_change-requires-clause-used : goal.add_change-requires-clause-used
add_change-requires-clause-used g c = found-used c.args.p.now c.args.name c.in-Some.s.0 c.requires.names c.in-Some.ensures

pub lower_stored-requires : goal.lower_stored-requires
lower_stored-requires g c = record { can = λ told. can-stored g.H.Host c.args.p.now c.args.disk.now.host.now c.args.disk.now.rest c.args.name c.in-None.ensures (c.requires.can told) }

pub returns-in-Some-clause-lowered : goal.returns-in-Some-clause-lowered
returns-in-Some-clause-lowered g c told chunks t at can = lowered-some g.H.Host chunks c.args.p.now c.add_change.new.p c.args.disk.now.host.now c.args.disk.now.rest t c.args.name c.in-Some.s.0 c.in-Some.ensures at can (c.add_change.ensures.changed chunks)

pub returns-in-None-clause-lowered : goal.returns-in-None-clause-lowered
returns-in-None-clause-lowered g c told chunks t at can = ok-then c.lower_stored.result
    (λ f. lowered-none g.H.Host chunks c.args.p.now c.args.disk.now.host.now c.lower_stored.new.disk.host.now c.args.disk.now.rest c.lower_stored.new.disk.rest t c.args.name c.in-None.ensures at can f)
    (λ has. c.lower_stored.ensures.lowered told t.stored t.pending at.disk has)
