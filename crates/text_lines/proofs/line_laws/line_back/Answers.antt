use Rattle.text_lines.proofs.LineBack.{head-back, object-back}
use Rattle.text_lines.proofs.line_laws.line_back.Goals as goal

pub returns-clause-object : goal.returns-clause-object
returns-clause-object c = λ line r is none e. object-back line r is none e

pub returns-clause-head : goal.returns-clause-head
returns-clause-head c = λ line h next clock display input timer tick e. head-back line h (next, clock, display, input, timer, tick) e
