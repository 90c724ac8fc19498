use Rattle.std.proofs.Common.{◌≡◌, ◌≤◌, ◌≢◌, ℕ, ◌-◌, ◌==◌, ◌&&◌, Bool, true, false, List, [], ◌∷◌, ◌++◌, length, Some, None, refl, sym, ap, subst, ◌∙◌, append_assoc, arith}
use Rattle.st80_syntax.specs.declared.token.Token.{Token}
use Rattle.st80_syntax.specs.declared.token.Kind.{Kind}
use Rattle.st80_syntax.specs.declared.token.Kind.TheVariants as kind
use Rattle.st80_parser.specs.declared.kinds.Opening.{Opening}
use Rattle.st80_parser.specs.declared.kinds.Opening.TheVariants as opening
use Rattle.st80_parser.specs.declared.kinds.Joint.{Joint}
use Rattle.st80_parser.specs.declared.kinds.Joint.TheVariants as joint
use Rattle.st80_parser.specs.declared.kinds.Item.TheVariants as item
use Rattle.st80_parser.specs.declared.tree.Expr.{Expr}
use Rattle.st80_parser.specs.Kinds.{item_of, joint_of, kind_at, opening_of, same_kind}
use Rattle.st80_parser.specs.Stands.{After, Argument, Behind, Binary, Body, Dot, Elements, First, Header, Keywords, Marks, Message, Named, Names, Nested, One, Operand, Others, Place, Plain, Primitive, Selector, Sent, State, Stopped, Symbol, Temporaries, Unary, Whole, after, begun, cascades, elements, inside, is_group, is_message, is_sent, keywords, message, others, run, selector, state_of, takes_names}
use Rattle.st80_parser.proofs.StandLaws as stand
use Rattle.st80_parser.proofs.StandLaws.{fails, left, memory, refuses, runs_behind, skips, took}
use Rattle.st80_parser.proofs.JoinLaws as join
use Rattle.st80_parser.proofs.rules.header.Goals as goal

pub returns-clause-reads : goal.returns-clause-reads
returns-clause-reads c = join.join _ _ _ c.in_ok-arguments.ensures.reads c.in_ok-bar.ensures.reads

pub returns-then-not-same_kind-clause-runs : goal.returns-then-not-same_kind-clause-runs
returns-then-not-same_kind-clause-runs c = λ xs. skips Header xs _ (stand.header_skips _ (ap (λ (k : Kind). same_kind k kind.Colon) (sym c.peek.ensures) ∙ sym c.same_kind.ensures ∙ c.if-not-same_kind.true))

pub returns-in_err-arguments-clause-runs : goal.returns-in_err-arguments-clause-runs
returns-in_err-arguments-clause-runs c = λ xs. fails _ _ _ _ _ _ _ _ _ c.from_residual.ensures.1 (stand.to_marks xs _ (ap (λ (k : Kind). same_kind k kind.Colon) (sym c.peek.ensures) ∙ sym c.same_kind.ensures ∙ c.if-not-same_kind.false)) (c.in_err-arguments.ensures.runs (One kind.Bar ∷ xs))

pub returns-in_err-bar-clause-runs : goal.returns-in_err-bar-clause-runs
returns-in_err-bar-clause-runs c = λ xs. fails _ _ _ _ _ _ _ _ _ c.from_residual-in_err-bar.ensures.1 (stand.to_marks xs _ (ap (λ (k : Kind). same_kind k kind.Colon) (sym c.peek.ensures) ∙ sym c.same_kind.ensures ∙ c.if-not-same_kind.false) ∙ c.in_ok-arguments.ensures.runs (One kind.Bar ∷ xs)) (c.in_err-bar.ensures.runs xs)

pub returns-clause-runs : goal.returns-clause-runs
returns-clause-runs c = λ xs. stand.to_marks xs _ (ap (λ (k : Kind). same_kind k kind.Colon) (sym c.peek.ensures) ∙ sym c.same_kind.ensures ∙ c.if-not-same_kind.false) ∙ c.in_ok-arguments.ensures.runs (One kind.Bar ∷ xs) ∙ c.in_ok-bar.ensures.runs xs
