use Rattle.std.proofs.Common.{◌≡◌, Bool, false, List, ap, sym, ◌∙◌}
use Rattle.st80_syntax.specs.declared.token.Token.{Token}
use Rattle.st80_parser.specs.declared.kinds.Joint.{Joint}
use Rattle.st80_parser.specs.Kinds.{joint_of, kind_at, same_joint}
use Rattle.st80_parser.proofs.CursorLaws.{is_joined, none_joined}
use Rattle.st80_parser.proofs.cursor.Cursor.joined.Goals as goal

pub returns-then-same_joint-clause-is : goal.returns-then-same_joint-clause-is
returns-then-same_joint-clause-is c = is_joined _ _ _ c.take.result c.take.ensures.some (ap (λ (j : Joint). same_joint j c.args.how) (sym c.joint.ensures) ∙ sym c.same_joint.ensures ∙ c.if-same_joint.true)

pub returns-then-same_joint-clause-other : goal.returns-then-same_joint-clause-other
returns-then-same_joint-clause-other c = none_joined _ c.take.result c.args.how c.take.ensures.end c.requires.real
