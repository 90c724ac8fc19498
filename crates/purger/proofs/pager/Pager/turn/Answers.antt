use Rattle.std.proofs.Common.{◌/◌, inl, inr}
use Rattle.object_table.specs.Table.{entries_of}
use Rattle.delta_counts.proofs.LowerLaws.{ok-map, ok-of}
use Rattle.purger.specs.declared.room.TheConstants.{ROUND_PARTS}
use Rattle.purger.proofs.OnlyLaws.{stops-kept}
use Rattle.purger.proofs.PagerLaws.{purges-exit, purges-then, ready-after}
use Rattle.purger.proofs.pager.Pager.turn.Goals as goal

pub returns-in_err-go_round-clause-purges : goal.returns-in_err-go_round-clause-purges
returns-in_err-go_round-clause-purges g c = purges-exit _ _ c.from_residual.result c.in_err-go_round.field-0.0 c.from_residual.ensures.1 c.in_err-go_round.ensures.purges

pub returns-then-has_room-clause-idle : goal.returns-then-has_room-clause-idle
returns-then-has_room-clause-idle g c = inl (c.has_room.ensures.has c.if-has_room.true)

pub free_idle-requires : goal.free_idle-requires
free_idle-requires g c = record { ready = ready-after c.args.self.now c.go_round.new.self c.requires.ready c.go_round.ensures.purges.leaves c.in_ok-go_round.ensures.purges.keeps }

pub returns-clause-purges : goal.returns-clause-purges
returns-clause-purges g c = purges-then c.args.self.now c.go_round.new.self c.free_idle.new.self c.free_idle.result c.go_round.ensures.purges.leaves c.in_ok-go_round.ensures.purges.keeps c.free_idle.ensures.purges

pub returns-clause-idle : goal.returns-clause-idle
returns-clause-idle g c = ok-map c.free_idle.result (λ idle. inr idle) c.free_idle.ensures.idle

pub returns-clause-stops : goal.returns-clause-stops
returns-clause-stops g c = ok-of c.free_idle.result (stops-kept (entries_of c.args.self.now.levels.parts.names.table / ROUND_PARTS) c.args.words c.args.entries c.args.self.now.levels.parts c.go_round.new.self.levels.parts c.free_idle.new.self.levels.parts c.in_ok-go_round.ensures.stops c.free_idle.ensures.bodies)
