use Rattle.std.proofs.Common.{arith}
use Rattle.text_lines.proofs.OneSpelling.{line_head_one, line_object_one}
use Rattle.text_lines.proofs.line_laws.one_line.Goals as goal

pub returns-clause-object : goal.returns-clause-object
returns-clause-object c = λ line r e low. (line_object_one line r e).line_is (omega (arith, low))

pub returns-clause-head : goal.returns-clause-head
returns-clause-head c = λ line h e. (line_head_one line h e).line_is
