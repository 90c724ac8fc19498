use Rattle.std.proofs.Common.{subst, sym}
use Rattle.std.specs.Str.{IsUtf8}
use Rattle.event_file.proofs.TextLaws.{line-utf8}
use Rattle.event_file.proofs.line.decode_line.Goals as goal

pub returns-in_default-clause-none : goal.returns-in_default-clause-none
returns-in_default-clause-none c = λ none l is same. c.in_default.ensures.cases.0 (subst IsUtf8 (sym same) (line-utf8 l is))
