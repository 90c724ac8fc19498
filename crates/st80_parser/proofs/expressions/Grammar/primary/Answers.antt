use Rattle.std.proofs.Common.{◌≡◌, ◌≤◌, ◌≢◌, ℕ, ◌-◌, ◌==◌, ◌&&◌, Bool, true, false, List, [], ◌∷◌, ◌++◌, length, Some, None, refl, sym, ap, subst, ◌∙◌, append_assoc, arith}
use Rattle.st80_syntax.specs.declared.token.Token.{Token}
use Rattle.st80_syntax.specs.declared.token.Kind.{Kind}
use Rattle.st80_syntax.specs.declared.token.Kind.TheVariants as kind
use Rattle.st80_parser.specs.declared.kinds.Opening.{Opening}
use Rattle.st80_parser.specs.declared.kinds.Opening.TheVariants as opening
use Rattle.st80_parser.specs.declared.kinds.Joint.{Joint}
use Rattle.st80_parser.specs.declared.kinds.Joint.TheVariants as joint
use Rattle.st80_parser.specs.declared.kinds.Item.TheVariants as item
use Rattle.st80_parser.specs.declared.tree.Expr.{Expr}
use Rattle.st80_parser.specs.Kinds.{item_of, joint_of, kind_at, opening_of, same_kind}
use Rattle.st80_parser.specs.Stands.{After, Argument, Behind, Binary, Body, Dot, Elements, First, Header, Keywords, Marks, Message, Named, Names, Nested, One, Operand, Others, Place, Plain, Primitive, Selector, Sent, State, Stopped, Symbol, Temporaries, Unary, Whole, after, begun, cascades, elements, inside, is_group, is_message, is_sent, keywords, message, others, run, selector, state_of, takes_names}
use Rattle.st80_parser.proofs.StandLaws as stand
use Rattle.st80_parser.proofs.StandLaws.{fails, left, memory, refuses, runs_behind, skips, took}
use Rattle.st80_parser.proofs.JoinLaws as join
use Rattle.st80_parser.specs.Written.{expr}
use Rattle.st80_parser.proofs.expressions.Grammar.primary.Goals as goal

pub next-token-requires : goal.next-token-requires
next-token-requires g c = stand.opened_left _ _ (ap opening_of (sym c.peek.ensures) ∙ sym c.opening_of.ensures ∙ c.in-Some.is)

pub returns-in-None-clause-runs : goal.returns-in-None-clause-runs
returns-in-None-clause-runs g c = λ place xs. stand.first_none place c.args.self.now.depth xs _ (ap opening_of (sym c.peek.ensures) ∙ sym c.opening_of.ensures ∙ c.in-None.is)

pub returns-then-is_too_deep-clause-runs : goal.returns-then-is_too_deep-clause-runs
returns-then-is_too_deep-clause-runs g c = λ place xs. stand.first_deep place c.args.self.now.depth xs _ _ (ap opening_of (sym c.peek.ensures) ∙ sym c.opening_of.ensures ∙ c.in-Some.is) (sym c.is_too_deep.ensures ∙ c.if-is_too_deep.true)

pub returns-else-is_too_deep-clause-runs : goal.returns-else-is_too_deep-clause-runs
returns-else-is_too_deep-clause-runs g c = λ place xs. stand.begun_runs place c.args.self.now.depth xs _ _ _ _ _ c.next-token.ensures (ap opening_of (sym c.peek.ensures) ∙ sym c.opening_of.ensures ∙ c.in-Some.is) (sym c.is_too_deep.ensures ∙ c.if-is_too_deep.false) c.begun.result c.begun.ensures.state (c.begun.ensures.runs (After (begun _) place c.args.self.now.depth ∷ xs))

pub returns-else-is_too_deep-clause-reads : goal.returns-else-is_too_deep-clause-reads
returns-else-is_too_deep-clause-reads g c = join.replaced _ expr _ _ _ c.begun.result c.next-token.ensures c.begun.ensures.reads

pub returns-else-is_too_deep-clause-names : goal.returns-else-is_too_deep-clause-names
returns-else-is_too_deep-clause-names g c = stand.names_by _ c.begun.result c.begun.ensures.state
