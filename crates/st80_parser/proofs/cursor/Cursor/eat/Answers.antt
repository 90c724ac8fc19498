use Rattle.std.proofs.Common.{◌≡◌, ap, sym, ◌∙◌}
use Rattle.st80_syntax.specs.declared.token.Kind.{Kind}
use Rattle.st80_parser.specs.Kinds.{same_kind}
use Rattle.st80_parser.proofs.CursorLaws.{is_eaten, none_eaten}
use Rattle.st80_parser.proofs.cursor.Cursor.eat.Goals as goal

pub returns-then-same_kind-clause-is : goal.returns-then-same_kind-clause-is
returns-then-same_kind-clause-is c = is_eaten _ _ _ c.take.result c.take.ensures.some (ap (λ (k : Kind). same_kind k c.args.kind) (sym c.peek.ensures) ∙ sym c.same_kind.ensures ∙ c.if-same_kind.true)

pub returns-then-same_kind-clause-other : goal.returns-then-same_kind-clause-other
returns-then-same_kind-clause-other c = none_eaten _ c.take.result c.args.kind c.take.ensures.end c.requires.real
