use Rattle.probing.specs.Search.{IsPassed}
use Rattle.probing.specs.Homes.{home_of}
use Rattle.resident_table.specs.Inside.{name_at}
use Rattle.resident_table.proofs.resident.Resident.seek.Given as goal

abbrev pub invariant-loop-step : goal.invariant-loop-step
invariant-loop-step l = record { passed : IsPassed home_of (name_at l.self.slots.items) l.slots l.name l.step }
