use Rattle.std.proofs.Common.{◌≡◌, ◌-◌, List, ℕ}
use Rattle.std.specs.Int.{w16}
use Rattle.image_format.specs.Reading.{number_at, many_at}
use Rattle.image_format.proofs.Loop.{with_front}
use Rattle.image_format.proofs.reading.Unread.skip_words.Given as goal

abbrev pub invariant-loop : goal.invariant-loop
invariant-loop l = (front : List ℕ) × (with_front front (many_at (number_at w16) (l.count - l.counter) l.self.rest.now) ≡ many_at (number_at w16) l.count l.fn.self.rest.now)
