use Rattle.std.proofs.Common.{◌≡◌, ◌≤◌, ◌≢◌, ℕ, ◌-◌, ◌==◌, ◌&&◌, Bool, true, false, List, [], ◌∷◌, ◌++◌, length, Some, None, refl, sym, ap, subst, ◌∙◌, append_assoc, arith}
use Rattle.st80_syntax.specs.declared.token.Token.{Token}
use Rattle.st80_syntax.specs.declared.token.Kind.{Kind}
use Rattle.st80_syntax.specs.declared.token.Kind.TheVariants as kind
use Rattle.st80_parser.specs.declared.kinds.Opening.{Opening}
use Rattle.st80_parser.specs.declared.kinds.Opening.TheVariants as opening
use Rattle.st80_parser.specs.declared.kinds.Joint.{Joint}
use Rattle.st80_parser.specs.declared.kinds.Joint.TheVariants as joint
use Rattle.st80_parser.specs.declared.kinds.Item.TheVariants as item
use Rattle.st80_parser.specs.declared.tree.Expr.{Expr}
use Rattle.st80_parser.specs.Kinds.{item_of, joint_of, kind_at, opening_of, same_kind}
use Rattle.st80_parser.specs.Stands.{After, Argument, Behind, Binary, Body, Dot, Elements, First, Header, Keywords, Marks, Message, Named, Names, Nested, One, Operand, Others, Place, Plain, Primitive, Selector, Sent, State, Stopped, Symbol, Temporaries, Unary, Whole, after, begun, cascades, elements, inside, is_group, is_message, is_sent, keywords, message, others, run, selector, state_of, takes_names}
use Rattle.st80_parser.proofs.StandLaws as stand
use Rattle.st80_parser.proofs.StandLaws.{fails, left, memory, refuses, runs_behind, skips, took}
use Rattle.st80_parser.proofs.JoinLaws as join
use Rattle.st80_parser.proofs.cursor.Cursor.expect.Goals as goal

pub returns-in-Some-clause-runs : goal.returns-in-Some-clause-runs
returns-in-Some-clause-runs c = λ xs. took (One c.args.kind) [] xs _ _ _ c.in-Some.ensures.some (stand.one_takes c.args.kind _ c.in-Some.ensures.is)

pub returns-in-None-clause-runs : goal.returns-in-None-clause-runs
returns-in-None-clause-runs c = λ xs. refuses (One c.args.kind) xs _ (stand.one_refuses c.args.kind _ c.in-None.ensures.other) ∙ ap Stopped (sym c.in-None.ensures.none)
