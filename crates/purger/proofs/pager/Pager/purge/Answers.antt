use Rattle.std.proofs.Common.{ℕ, ◌⊎◌, ◌/◌, ap, subst, ⊎_elim}
use Rattle.object_table.specs.Table.{entries_of}
use Rattle.core_view.specs.Purge.{HasNoIdle}
use Rattle.purger.specs.Pager.{core_in}
use Rattle.purger.specs.Purge.{HasRoom, KeepsBodies}
use Rattle.purger.specs.Rounds.{LostInNeed}
use Rattle.purger.specs.declared.room.TheConstants.{ROUND_PARTS}
use Rattle.purger.proofs.OnlyLaws.{room-map, stops-kept, stops-then}
use Rattle.purger.proofs.PagerLaws.{clears-disk, clears-moved, clears-then, moves-bodies, ready-after, same-entries}
use Rattle.purger.proofs.pager.Pager.purge.Goals as goal

pub returns-in-Err-clause-clears : goal.returns-in-Err-clause-clears
returns-in-Err-clause-clears g c = clears-disk c.args.self.now c.turn.new.self _ c.in-Err.ensures.purges

pub returns-then-has_room-clause-clears : goal.returns-then-has_room-clause-clears
returns-then-has_room-clause-clears g c = clears-moved c.args.self.now c.turn.new.self c.gather.new.self tt c.turn.ensures.purges.leaves c.in-Ok.ensures.purges.keeps c.gather.ensures.moves

pub returns-then-has_room-clause-stops : goal.returns-then-has_room-clause-stops
returns-then-has_room-clause-stops g c = stops-kept (entries_of c.args.self.now.levels.parts.names.table / ROUND_PARTS) c.args.words c.args.entries c.args.self.now.levels.parts c.turn.new.self.levels.parts c.gather.new.self.levels.parts c.in-Ok.ensures.stops (moves-bodies c.turn.new.self c.gather.new.self c.gather.ensures.moves)

pub clear_out-requires-clause-ready : goal.clear_out-requires-clause-ready
clear_out-requires-clause-ready g c = ready-after c.args.self.now c.turn.new.self c.requires.ready c.turn.ensures.purges.leaves c.in-Ok.ensures.purges.keeps

pub clear_out-requires-clause-idle : goal.clear_out-requires-clause-idle
clear_out-requires-clause-idle g c = ⊎_elim (λ (has : HasRoom c.turn.new.self.levels.parts c.args.words c.args.entries). absurd (c.has_room.ensures.lacks c.if-has_room.false has)) (λ (idle : HasNoIdle (core_in c.turn.new.self)). idle) c.in-Ok.ensures.idle

pub returns-clause-clears : goal.returns-clause-clears
returns-clause-clears g c = clears-then c.args.self.now c.turn.new.self c.clear_out.new.self c.clear_out.result c.turn.ensures.purges.leaves c.in-Ok.ensures.purges.keeps c.clear_out.ensures.clears

pub returns-clause-stops : goal.returns-clause-stops
returns-clause-stops g c =
    let p = c.args.self.now.levels.parts in
    let q = c.turn.new.self.levels.parts in
    let r = c.clear_out.new.self.levels.parts in
    let l = c.turn.ensures.purges.leaves in
    let k = c.in-Ok.ensures.purges.keeps in
    room-map c.clear_out.result (λ (then : KeepsBodies (core_in c.turn.new.self) (core_in c.clear_out.new.self) ⊎ LostInNeed (entries_of q.names.table / ROUND_PARTS) c.args.words c.args.entries q r).
    stops-then (entries_of p.names.table / ROUND_PARTS) c.args.words c.args.entries p q r c.in-Ok.ensures.stops k.only k.less l.size k.minds l.purged.same_outside
    (subst (λ (n : ℕ). KeepsBodies (core_in c.turn.new.self) (core_in c.clear_out.new.self) ⊎ LostInNeed n c.args.words c.args.entries q r) (ap (λ (n : ℕ). n / ROUND_PARTS) (same-entries c.args.self.now c.turn.new.self l)) then)) c.clear_out.ensures.stops
