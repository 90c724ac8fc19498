use Rattle.std.proofs.Common.{◌≡◌, ◌≤◌, ◌<◌, length}
use Rattle.probing.specs.Homes.{home_of}
use Rattle.probing.specs.Table.{used}
use Rattle.probing.proofs.ClosingLaws.{IsClosing}
use Rattle.resident_table.specs.Inside.{name_at, short_at}
use Rattle.resident_table.proofs.probe.close_up.Given as goal

abbrev pub invariant-loop-step : goal.invariant-loop-step
invariant-loop-step l =
    let f = name_at l.fn.slots.items in
    record {
      low : 1 ≤ l.gap;
      high : l.gap ≤ l._step;
      within : l.hole < l.size;
      same : length l.slots.items ≡ l.size;
      closing : IsClosing home_of f (name_at l.slots.items) (short_at l.fn.slots.items) (short_at l.slots.items) l.size (used f l.size) l.fn.at l.hole l.gap l._step;
    }
