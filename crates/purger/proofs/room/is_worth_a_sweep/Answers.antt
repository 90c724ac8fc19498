use Rattle.std.proofs.Common.{inl, inr, arith}
use Rattle.purger.proofs.room.is_worth_a_sweep.Goals as goal

pub returns-then-has_room : goal.returns-then-has_room
returns-then-has_room c = record { no = λ no. inr (inl (c.has_room.ensures.has c.if-has_room.true)) }

pub returns-then-free_words-words : goal.returns-then-free_words-words
returns-then-free_words-words c = record { no = λ no. inr (inr (let low = c.if-free_words-words.true in let free = c.free_words.ensures in omega arith)) }

pub returns : goal.returns
returns c = record { no = λ no. inl (let high = c.if-behind-from.false in let wide = c.from.ensures in omega arith) }
