use Rattle.std.proofs.Common.{◌≡◌, ◌≤◌, ◌≢◌, ℕ, ◌-◌, ◌==◌, ◌&&◌, Bool, true, false, List, [], ◌∷◌, ◌++◌, length, Some, None, refl, sym, ap, subst, ◌∙◌, append_assoc, arith}
use Rattle.st80_syntax.specs.declared.token.Token.{Token}
use Rattle.st80_syntax.specs.declared.token.Kind.{Kind}
use Rattle.st80_syntax.specs.declared.token.Kind.TheVariants as kind
use Rattle.st80_parser.specs.declared.kinds.Opening.{Opening}
use Rattle.st80_parser.specs.declared.kinds.Opening.TheVariants as opening
use Rattle.st80_parser.specs.declared.kinds.Joint.{Joint}
use Rattle.st80_parser.specs.declared.kinds.Joint.TheVariants as joint
use Rattle.st80_parser.specs.declared.kinds.Item.TheVariants as item
use Rattle.st80_parser.specs.declared.tree.Expr.{Expr}
use Rattle.st80_parser.specs.Kinds.{item_of, joint_of, kind_at, opening_of, same_kind}
use Rattle.st80_parser.specs.Stands.{After, Argument, Behind, Binary, Body, Dot, Elements, First, Header, Keywords, Marks, Message, Named, Names, Nested, One, Operand, Others, Place, Plain, Primitive, Selector, Sent, State, Stopped, Symbol, Temporaries, Unary, Whole, after, begun, cascades, elements, inside, is_group, is_message, is_sent, keywords, message, others, run, selector, state_of, takes_names}
use Rattle.st80_parser.proofs.StandLaws as stand
use Rattle.st80_parser.proofs.StandLaws.{fails, left, memory, refuses, runs_behind, skips, took}
use Rattle.st80_parser.proofs.JoinLaws as join
use Rattle.st80_parser.specs.Written.{last_of}
use Rattle.st80_parser.proofs.expressions.Grammar.returned.Goals as goal

pub next-sign-requires : goal.next-sign-requires
next-sign-requires g c = stand.kind_left _ kind.Return (ap (λ (k : Kind). same_kind k kind.Return) (sym c.peek.ensures) ∙ sym c.same_kind.ensures ∙ c.if-not-same_kind.false) stand.return_real

pub returns-then-not-same_kind-clause-runs : goal.returns-then-not-same_kind-clause-runs
returns-then-not-same_kind-clause-runs g c = λ xs. stand.body_ends c.args.self.now.depth xs _ c.requires.other (ap (λ (k : Kind). same_kind k kind.Return) (sym c.peek.ensures) ∙ sym c.same_kind.ensures ∙ c.if-not-same_kind.true)

pub returns-then-self-eq0-clause-runs : goal.returns-then-self-eq0-clause-runs
returns-then-self-eq0-clause-runs g c = λ xs. stand.body_deep c.args.self.now.depth xs _ c.requires.other (ap (λ (k : Kind). same_kind k kind.Return) (sym c.peek.ensures) ∙ sym c.same_kind.ensures ∙ c.if-not-same_kind.false) c.if-self-eq0.true

pub returns-clause-reads : goal.returns-clause-reads
returns-clause-reads g c = join.replaced _ last_of _ _ _ c.value_returned.result c.next-sign.ensures c.value_returned.ensures.reads

pub returns-clause-runs : goal.returns-clause-runs
returns-clause-runs g c = λ xs. runs_behind _ _ _ _ _ _ _ c.value_returned.result (stand.body_returns c.args.self.now.depth xs _ _ _ c.next-sign.ensures c.requires.other (ap (λ (k : Kind). same_kind k kind.Return) (sym c.peek.ensures) ∙ sym c.same_kind.ensures ∙ c.if-not-same_kind.false) c.if-self-eq0.false) (c.value_returned.ensures.runs xs)
