use Rattle.std.proofs.Common.{◌≡◌, ◌≤◌, ◌≢◌, ℕ, ◌-◌, ◌==◌, ◌&&◌, Bool, true, false, List, [], ◌∷◌, ◌++◌, length, Some, None, refl, sym, ap, subst, ◌∙◌, append_assoc, arith}
use Rattle.st80_syntax.specs.declared.token.Token.{Token}
use Rattle.st80_syntax.specs.declared.token.Kind.{Kind}
use Rattle.st80_syntax.specs.declared.token.Kind.TheVariants as kind
use Rattle.st80_parser.specs.declared.kinds.Opening.{Opening}
use Rattle.st80_parser.specs.declared.kinds.Opening.TheVariants as opening
use Rattle.st80_parser.specs.declared.kinds.Joint.{Joint}
use Rattle.st80_parser.specs.declared.kinds.Joint.TheVariants as joint
use Rattle.st80_parser.specs.declared.kinds.Item.TheVariants as item
use Rattle.st80_parser.specs.declared.tree.Expr.{Expr}
use Rattle.st80_parser.specs.Kinds.{item_of, joint_of, kind_at, opening_of, same_kind}
use Rattle.st80_parser.specs.Stands.{After, Argument, Behind, Binary, Body, Dot, Elements, First, Header, Keywords, Marks, Message, Named, Names, Nested, One, Operand, Others, Place, Plain, Primitive, Selector, Sent, State, Stopped, Symbol, Temporaries, Unary, Whole, after, begun, cascades, elements, inside, is_group, is_message, is_sent, keywords, message, others, run, selector, state_of, takes_names}
use Rattle.st80_parser.proofs.StandLaws as stand
use Rattle.st80_parser.proofs.StandLaws.{fails, left, memory, refuses, runs_behind, skips, took}
use Rattle.st80_parser.proofs.JoinLaws as join
use Rattle.st80_parser.proofs.expressions.Grammar.other.Goals as goal

pub other_name-requires-clause-name : goal.other_name-requires-clause-name
other_name-requires-clause-name g c = (sym c.joint.ensures ∙ c.in-Name.is)

pub other_words-requires-clause-keyword : goal.other_words-requires-clause-keyword
other_words-requires-clause-keyword g c = (sym c.joint.ensures ∙ c.in-Keyword.is)

pub other_sign-requires-clause-operator : goal.other_sign-requires-clause-operator
other_sign-requires-clause-operator g c = (sym c.joint.ensures ∙ c.in-Operator.is)

pub returns-in_default-clause-runs : goal.returns-in_default-clause-runs
returns-in_default-clause-runs g c = λ xs. refuses (Message c.args.self.now.depth) xs _ (stand.message_is c.args.self.now.depth _ _ (sym c.joint.ensures) ∙ stand.message_refuses c.args.self.now.depth _ c.in_default.not-Name c.in_default.not-Operator c.in_default.not-Keyword)
