use Rattle.std.proofs.Common.{◌≡◌, ◌≤◌, ◌≢◌, ℕ, ◌-◌, ◌==◌, ◌&&◌, Bool, true, false, List, [], ◌∷◌, ◌++◌, length, Some, None, refl, sym, ap, subst, ◌∙◌, append_assoc, arith}
use Rattle.st80_syntax.specs.declared.token.Token.{Token}
use Rattle.st80_syntax.specs.declared.token.Kind.{Kind}
use Rattle.st80_syntax.specs.declared.token.Kind.TheVariants as kind
use Rattle.st80_parser.specs.declared.kinds.Opening.{Opening}
use Rattle.st80_parser.specs.declared.kinds.Opening.TheVariants as opening
use Rattle.st80_parser.specs.declared.kinds.Joint.{Joint}
use Rattle.st80_parser.specs.declared.kinds.Joint.TheVariants as joint
use Rattle.st80_parser.specs.declared.kinds.Item.TheVariants as item
use Rattle.st80_parser.specs.declared.tree.Expr.{Expr}
use Rattle.st80_parser.specs.Kinds.{item_of, joint_of, kind_at, opening_of, same_kind}
use Rattle.st80_parser.specs.Stands.{After, Argument, Behind, Binary, Body, Dot, Elements, First, Header, Keywords, Marks, Message, Named, Names, Nested, One, Operand, Others, Place, Plain, Primitive, Selector, Sent, State, Stopped, Symbol, Temporaries, Unary, Whole, after, begun, cascades, elements, inside, is_group, is_message, is_sent, keywords, message, others, run, selector, state_of, takes_names}
use Rattle.st80_parser.proofs.StandLaws as stand
use Rattle.st80_parser.proofs.StandLaws.{fails, left, memory, refuses, runs_behind, skips, took}
use Rattle.st80_parser.proofs.JoinLaws as join
use Rattle.st80_parser.proofs.rules.pattern.Goals as goal

pub next-requires : goal.next-requires
next-requires c = stand.some_left _ joint.Name (sym c.joint.ensures ∙ c.in-Name.is) (λ e. cc)

pub next-selector-requires : goal.next-selector-requires
next-selector-requires c = stand.some_left _ joint.Operator (sym c.joint.ensures ∙ c.in-Operator.is) (λ e. cc)

pub returns-in-Name-clause-runs : goal.returns-in-Name-clause-runs
returns-in-Name-clause-runs c = λ xs. took Selector [] xs _ _ _ c.next.ensures (stand.selector_is _ joint.Name (stand.joint_taken _ _ _ _ c.next.ensures (sym c.joint.ensures ∙ c.in-Name.is)))

pub returns-in_err-name-in-Operator-clause-runs : goal.returns-in_err-name-in-Operator-clause-runs
returns-in_err-name-in-Operator-clause-runs c = λ xs. fails _ _ _ _ _ _ _ _ _ c.from_residual.ensures.1 (took Selector (One kind.Name ∷ []) xs _ _ _ c.next-selector.ensures (stand.selector_is _ joint.Operator (stand.joint_taken _ _ _ _ c.next-selector.ensures (sym c.joint.ensures ∙ c.in-Operator.is)))) (c.in_err-name-in-Operator.ensures.runs xs)

pub returns-in_ok-name-in-Operator-clause-runs : goal.returns-in_ok-name-in-Operator-clause-runs
returns-in_ok-name-in-Operator-clause-runs c = λ xs. took Selector (One kind.Name ∷ []) xs _ _ _ c.next-selector.ensures (stand.selector_is _ joint.Operator (stand.joint_taken _ _ _ _ c.next-selector.ensures (sym c.joint.ensures ∙ c.in-Operator.is))) ∙ c.in_ok-name-in-Operator.ensures.runs xs

pub returns-in_err-pairs_in-in-Keyword-clause-runs : goal.returns-in_err-pairs_in-in-Keyword-clause-runs
returns-in_err-pairs_in-in-Keyword-clause-runs c = λ xs. fails _ _ _ _ _ _ _ _ _ c.from_residual-in_err-pairs_in-in-Keyword.ensures.1 (stand.to_pairs xs _ (sym c.joint.ensures ∙ c.in-Keyword.is)) (c.in_err-pairs_in-in-Keyword.ensures.runs xs)

pub returns-in_ok-pairs_in-in-Keyword-clause-runs : goal.returns-in_ok-pairs_in-in-Keyword-clause-runs
returns-in_ok-pairs_in-in-Keyword-clause-runs c = λ xs. stand.to_pairs xs _ (sym c.joint.ensures ∙ c.in-Keyword.is) ∙ c.in_ok-pairs_in-in-Keyword.ensures.runs xs

pub returns-in_default-clause-runs : goal.returns-in_default-clause-runs
returns-in_default-clause-runs c = λ xs. refuses Selector xs _ (stand.selector_is _ _ (sym c.joint.ensures) ∙ stand.selector_refuses _ c.in_default.not-Name c.in_default.not-Operator c.in_default.not-Keyword)
