use Rattle.blue_model.proofs.RemainderLaws.{left_above, left_below}
use Rattle.blue_model.proofs.laws.quotient_and_remainder.Goals as goal

pub returns-clause-above : goal.returns-clause-above
returns-clause-above c a n h = left_above a n h

pub returns-clause-below : goal.returns-clause-below
returns-clause-below c a n h = left_below a n h
