use Rattle.std.proofs.Common.{◌≡◌, ◌-◌}
use Rattle.image_format.specs.Reading.{value_at, many_at}
use Rattle.image_format.proofs.Loop.{with_front}
use Rattle.image_format.proofs.reading.Unread.take_values.Given as goal

abbrev pub invariant-loop : goal.invariant-loop
invariant-loop l = with_front l.values (many_at value_at (l.count - l.counter) l.self.rest.now) ≡ many_at value_at l.count l.fn.self.rest.now
