use Rattle.std.proofs.Common.{◌≡◌, ◌≤◌, ◌≢◌, ℕ, ◌-◌, ◌==◌, ◌&&◌, Bool, true, false, List, [], ◌∷◌, ◌++◌, length, Some, None, refl, sym, ap, subst, ◌∙◌, append_assoc, arith}
use Rattle.st80_syntax.specs.declared.token.Token.{Token}
use Rattle.st80_syntax.specs.declared.token.Kind.{Kind}
use Rattle.st80_syntax.specs.declared.token.Kind.TheVariants as kind
use Rattle.st80_parser.specs.declared.kinds.Opening.{Opening}
use Rattle.st80_parser.specs.declared.kinds.Opening.TheVariants as opening
use Rattle.st80_parser.specs.declared.kinds.Joint.{Joint}
use Rattle.st80_parser.specs.declared.kinds.Joint.TheVariants as joint
use Rattle.st80_parser.specs.declared.kinds.Item.TheVariants as item
use Rattle.st80_parser.specs.declared.tree.Expr.{Expr}
use Rattle.st80_parser.specs.Kinds.{item_of, joint_of, kind_at, opening_of, same_kind}
use Rattle.st80_parser.specs.Stands.{After, Argument, Behind, Binary, Body, Dot, Elements, First, Header, Keywords, Marks, Message, Named, Names, Nested, One, Operand, Others, Place, Plain, Primitive, Selector, Sent, State, Stopped, Symbol, Temporaries, Unary, Whole, after, begun, cascades, elements, inside, is_group, is_message, is_sent, keywords, message, others, run, selector, state_of, takes_names}
use Rattle.st80_parser.proofs.StandLaws as stand
use Rattle.st80_parser.proofs.StandLaws.{fails, left, memory, refuses, runs_behind, skips, took}
use Rattle.st80_parser.proofs.JoinLaws as join
use Rattle.st80_parser.proofs.expressions.Grammar.message.Goals as goal

pub returns-in_err-receiver-clause-runs : goal.returns-in_err-receiver-clause-runs
returns-in_err-receiver-clause-runs g c = λ xs. fails _ _ _ _ _ _ _ _ _ c.from_residual.ensures.1 (refl) (c.in_err-receiver.ensures.runs Whole xs stand.whole_other)

pub returns-in_err-given-in-Keyword-clause-runs : goal.returns-in_err-given-in-Keyword-clause-runs
returns-in_err-given-in-Keyword-clause-runs g c = λ xs. fails _ _ _ _ _ _ _ _ _ c.from_residual-in_err-given-in-Keyword.ensures.1 (c.in_ok-receiver.ensures.runs Whole xs stand.whole_other ∙ stand.to_keywords _ c.args.self.now.depth xs _ c.in_ok-receiver.ensures.unsent (sym c.joint.ensures ∙ c.in-Keyword.is)) (c.in_err-given-in-Keyword.ensures.runs (After Sent Whole c.args.self.now.depth ∷ xs))

pub returns-in_ok-made-in-Keyword-clause-runs : goal.returns-in_ok-made-in-Keyword-clause-runs
returns-in_ok-made-in-Keyword-clause-runs g c = λ xs. c.in_ok-receiver.ensures.runs Whole xs stand.whole_other ∙ stand.to_keywords _ c.args.self.now.depth xs _ c.in_ok-receiver.ensures.unsent (sym c.joint.ensures ∙ c.in-Keyword.is) ∙ c.in_ok-given-in-Keyword.ensures.runs (After Sent Whole c.args.self.now.depth ∷ xs) ∙ stand.same_state _ _ Whole c.args.self.now.depth xs _ (c.in_ok-made-in-Keyword.ensures.state)

pub returns-in_default-clause-runs : goal.returns-in_default-clause-runs
returns-in_default-clause-runs g c = λ xs. c.in_ok-receiver.ensures.runs Whole xs stand.whole_other

pub returns-in_default-clause-stops : goal.returns-in_default-clause-stops
returns-in_default-clause-stops g c = stand.ends_message _ _ c.in_ok-receiver.ensures.stops.0 c.in_ok-receiver.ensures.stops.1 (λ is. c.in_default.not-Keyword (c.joint.ensures ∙ is))
