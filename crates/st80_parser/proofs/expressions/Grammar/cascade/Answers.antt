use Rattle.std.proofs.Common.{◌≡◌, ◌≤◌, ◌≢◌, ℕ, ◌-◌, ◌==◌, ◌&&◌, Bool, true, false, List, [], ◌∷◌, ◌++◌, length, Some, None, refl, sym, ap, subst, ◌∙◌, append_assoc, arith}
use Rattle.st80_syntax.specs.declared.token.Token.{Token}
use Rattle.st80_syntax.specs.declared.token.Kind.{Kind}
use Rattle.st80_syntax.specs.declared.token.Kind.TheVariants as kind
use Rattle.st80_parser.specs.declared.kinds.Opening.{Opening}
use Rattle.st80_parser.specs.declared.kinds.Opening.TheVariants as opening
use Rattle.st80_parser.specs.declared.kinds.Joint.{Joint}
use Rattle.st80_parser.specs.declared.kinds.Joint.TheVariants as joint
use Rattle.st80_parser.specs.declared.kinds.Item.TheVariants as item
use Rattle.st80_parser.specs.declared.tree.Expr.{Expr}
use Rattle.st80_parser.specs.Kinds.{item_of, joint_of, kind_at, opening_of, same_kind}
use Rattle.st80_parser.specs.Stands.{After, Argument, Behind, Binary, Body, Dot, Elements, First, Header, Keywords, Marks, Message, Named, Names, Nested, One, Operand, Others, Place, Plain, Primitive, Selector, Sent, State, Stopped, Symbol, Temporaries, Unary, Whole, after, begun, cascades, elements, inside, is_group, is_message, is_sent, keywords, message, others, run, selector, state_of, takes_names}
use Rattle.st80_parser.proofs.StandLaws as stand
use Rattle.st80_parser.proofs.StandLaws.{fails, left, memory, refuses, runs_behind, skips, took}
use Rattle.st80_parser.proofs.JoinLaws as join
use Rattle.st80_parser.proofs.expressions.Grammar.cascade.Goals as goal

pub returns-clause-reads : goal.returns-clause-reads
returns-clause-reads g c = join.joined _ _ _ c.in_ok-made.ensures.is c.in_ok-first.ensures.reads c.in_ok-more.ensures.reads

pub returns-in_err-first-clause-runs : goal.returns-in_err-first-clause-runs
returns-in_err-first-clause-runs g c = λ xs. fails _ _ _ _ _ _ _ _ _ c.from_residual.ensures.1 (refl) (c.in_err-first.ensures.runs xs)

pub returns-then-not-is_cascade-clause-runs : goal.returns-then-not-is_cascade-clause-runs
returns-then-not-is_cascade-clause-runs g c = λ xs. c.in_ok-first.ensures.runs xs

pub returns-then-not-is_cascade-clause-stops : goal.returns-then-not-is_cascade-clause-stops
returns-then-not-is_cascade-clause-stops g c = stand.ends_cascade _ _ c.in_ok-first.ensures.stops (stand.cascade_by _ _ _ _ _ c.joint.ensures c.is_cascade.ensures c.if-not-is_cascade.true)

pub returns-in_err-more-clause-runs : goal.returns-in_err-more-clause-runs
returns-in_err-more-clause-runs g c = λ xs. fails _ _ _ _ _ _ _ _ _ c.from_residual-in_err-more.ensures.1 (c.in_ok-first.ensures.runs xs ∙ stand.to_others _ c.args.self.now.depth xs _ (stand.cascade_at _ _ (stand.cascade_by _ _ _ _ _ c.joint.ensures c.is_cascade.ensures c.if-not-is_cascade.false)).1 (stand.cascade_at _ _ (stand.cascade_by _ _ _ _ _ c.joint.ensures c.is_cascade.ensures c.if-not-is_cascade.false)).0) (c.in_err-more.ensures.runs xs)

pub returns-in_err-made-clause-runs : goal.returns-in_err-made-clause-runs
returns-in_err-made-clause-runs g c = λ xs. memory _ _ _ _ _ _ _ c.from_residual-in_err-made.ensures.1

pub returns-clause-runs : goal.returns-clause-runs
returns-clause-runs g c = λ xs. c.in_ok-first.ensures.runs xs ∙ stand.to_others _ c.args.self.now.depth xs _ (stand.cascade_at _ _ (stand.cascade_by _ _ _ _ _ c.joint.ensures c.is_cascade.ensures c.if-not-is_cascade.false)).1 (stand.cascade_at _ _ (stand.cascade_by _ _ _ _ _ c.joint.ensures c.is_cascade.ensures c.if-not-is_cascade.false)).0 ∙ c.in_ok-more.ensures.runs xs ∙ sym (stand.sent_ends c.args.self.now.depth xs _ c.in_ok-more.ensures.stops) ∙ stand.same_state _ _ Whole c.args.self.now.depth xs _ (c.in_ok-made.ensures.state)

pub returns-clause-stops : goal.returns-clause-stops
returns-clause-stops g c = stand.ends_others _ _ c.in_ok-made.ensures.state c.in_ok-more.ensures.stops
