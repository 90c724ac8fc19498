use Rattle.std.proofs.Common.{ℕ, ◌/◌, ap, subst}
use Rattle.object_table.specs.Table.{entries_of}
use Rattle.purger.specs.Rounds.{StopsInTime}
use Rattle.purger.specs.declared.room.TheConstants.{ROUND_PARTS}
use Rattle.purger.proofs.OnlyLaws.{room-map, stops-behind, stops-none}
use Rattle.purger.proofs.PagerLaws.{clears-disk, clears-moved, clears-then, moves-bodies, preserves-refl, ready-after, same-entries, spares-refl}
use Rattle.purger.proofs.pager.Pager.make_room.Goals as goal

pub returns-then-has_room-clause-clears : goal.returns-then-has_room-clause-clears
returns-then-has_room-clause-clears g c = clears-moved c.args.self.now c.args.self.now c.gather.new.self tt (spares-refl c.args.self.now) (preserves-refl c.args.self.now) c.gather.ensures.moves

pub returns-then-has_room-clause-stops : goal.returns-then-has_room-clause-stops
returns-then-has_room-clause-stops g c = stops-none (entries_of c.args.self.now.levels.parts.names.table / ROUND_PARTS) c.args.words c.args.entries c.args.self.now.levels.parts c.gather.new.self.levels.parts (moves-bodies c.args.self.now c.gather.new.self c.gather.ensures.moves)

pub purge-requires-clause-ready : goal.purge-requires-clause-ready
purge-requires-clause-ready g c = ready-after c.args.self.now c.free_idle.new.self c.requires.ready c.free_idle.ensures.purges.leaves c.in-Ok.ensures.purges.keeps

pub purge-requires-clause-idle : goal.purge-requires-clause-idle
purge-requires-clause-idle g c = c.in-Ok.ensures.idle

pub returns-in-Ok-clause-clears : goal.returns-in-Ok-clause-clears
returns-in-Ok-clause-clears g c = clears-then c.args.self.now c.free_idle.new.self c.purge.new.self c.purge.result c.free_idle.ensures.purges.leaves c.in-Ok.ensures.purges.keeps c.purge.ensures.clears

pub returns-in-Ok-clause-stops : goal.returns-in-Ok-clause-stops
returns-in-Ok-clause-stops g c =
    let p = c.args.self.now.levels.parts in
    let q = c.free_idle.new.self.levels.parts in
    let r = c.purge.new.self.levels.parts in
    let l = c.free_idle.ensures.purges.leaves in
    let k = c.in-Ok.ensures.purges.keeps in
    room-map c.purge.result (λ (then : StopsInTime (entries_of q.names.table / ROUND_PARTS) c.args.words c.args.entries q r).
    stops-behind (entries_of p.names.table / ROUND_PARTS) c.args.words c.args.entries p q r c.free_idle.ensures.bodies k.only k.less l.size k.minds l.purged.same_outside
    (subst (λ (n : ℕ). StopsInTime n c.args.words c.args.entries q r) (ap (λ (n : ℕ). n / ROUND_PARTS) (same-entries c.args.self.now c.free_idle.new.self l)) then)) c.purge.ensures.stops

pub returns-in-Ok-clause-needless : goal.returns-in-Ok-clause-needless
returns-in-Ok-clause-needless g c = λ has. absurd (c.has_room.ensures.lacks c.if-has_room.false has)

pub returns-in-Err-clause-clears : goal.returns-in-Err-clause-clears
returns-in-Err-clause-clears g c = clears-disk c.args.self.now c.free_idle.new.self _ c.in-Err.ensures.purges

pub returns-in-Err-clause-needless : goal.returns-in-Err-clause-needless
returns-in-Err-clause-needless g c = λ has. absurd (c.has_room.ensures.lacks c.if-has_room.false has)
