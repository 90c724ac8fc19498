use Rattle.std.proofs.Common.{◌≡◌, ◌-◌, List}
use Rattle.long_names.specs.declared.value.Value.{Value}
use Rattle.image_format.specs.Reading.{value_at, many_at}
use Rattle.image_format.proofs.Loop.{with_front}
use Rattle.image_format.proofs.reading.Unread.skip_values.Given as goal

abbrev pub invariant-loop : goal.invariant-loop
invariant-loop l = (front : List Value) × (with_front front (many_at value_at (l.count - l.counter) l.self.rest.now) ≡ many_at value_at l.count l.fn.self.rest.now)
