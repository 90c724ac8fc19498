use Rattle.std.proofs.Common.{◌≡◌, ◌≤◌, ◌≢◌, ℕ, ◌-◌, ◌==◌, ◌&&◌, Bool, true, false, List, [], ◌∷◌, ◌++◌, length, Some, None, refl, sym, ap, subst, ◌∙◌, append_assoc, arith}
use Rattle.st80_syntax.specs.declared.token.Token.{Token}
use Rattle.st80_syntax.specs.declared.token.Kind.{Kind}
use Rattle.st80_syntax.specs.declared.token.Kind.TheVariants as kind
use Rattle.st80_parser.specs.declared.kinds.Opening.{Opening}
use Rattle.st80_parser.specs.declared.kinds.Opening.TheVariants as opening
use Rattle.st80_parser.specs.declared.kinds.Joint.{Joint}
use Rattle.st80_parser.specs.declared.kinds.Joint.TheVariants as joint
use Rattle.st80_parser.specs.declared.kinds.Item.TheVariants as item
use Rattle.st80_parser.specs.declared.tree.Expr.{Expr}
use Rattle.st80_parser.specs.Kinds.{item_of, joint_of, kind_at, opening_of, same_kind}
use Rattle.st80_parser.specs.Stands.{After, Argument, Behind, Binary, Body, Dot, Elements, First, Header, Keywords, Marks, Message, Named, Names, Nested, One, Operand, Others, Place, Plain, Primitive, Selector, Sent, State, Stopped, Symbol, Temporaries, Unary, Whole, after, begun, cascades, elements, inside, is_group, is_message, is_sent, keywords, message, others, run, selector, state_of, takes_names}
use Rattle.st80_parser.proofs.StandLaws as stand
use Rattle.st80_parser.proofs.StandLaws.{fails, left, memory, refuses, runs_behind, skips, took}
use Rattle.st80_parser.proofs.JoinLaws as join
use Rattle.st80_parser.proofs.expressions.Grammar.unary.Goals as goal

pub each-init : goal.each-init
each-init g c = (c.in_ok-found.ensures.reads, c.in_ok-found.ensures.within, λ place xs. c.in_ok-found.ensures.runs place xs, c.in_ok-found.ensures.names)

pub each-preserved : goal.each-preserved
each-preserved g c = (join.joined _ _ _ c.in_ok-longer.ensures.is c.each.invariant.0 c.in-Some.ensures.some, omega (arith, c.each.invariant.1, c.in-Some.ensures.within), λ place xs. c.each.invariant.2 place xs ∙ took (After _ place c.args.self.now.depth) (After Unary place c.args.self.now.depth ∷ []) xs _ _ _ c.in-Some.ensures.some (stand.after_is _ place c.args.self.now.depth _ joint.Name c.in-Some.ensures.is ∙ stand.name_takes _ place c.args.self.now.depth c.each.invariant.3) ∙ stand.same_state _ _ place c.args.self.now.depth xs _ (c.in_ok-longer.ensures.state), ap takes_names c.in_ok-longer.ensures.state)

pub returns-in_err-found-clause-runs : goal.returns-in_err-found-clause-runs
returns-in_err-found-clause-runs g c = λ place xs. fails _ _ _ _ _ _ _ _ _ c.from_residual.ensures.1 (refl) (c.in_err-found.ensures.runs place xs)

pub returns-in_err-longer-clause-runs : goal.returns-in_err-longer-clause-runs
returns-in_err-longer-clause-runs g c = λ place xs. memory _ _ _ _ _ _ _ c.from_residual-in_err-longer.ensures.1

pub returns-clause-runs : goal.returns-clause-runs
returns-clause-runs g c = λ place xs. c.each.invariant.2 place xs ∙ left _ _ _ c.in_default.ensures.none

pub returns-clause-unsent : goal.returns-clause-unsent
returns-clause-unsent g c = stand.name_unsent _ c.each.invariant.3

pub returns-clause-stops : goal.returns-clause-stops
returns-clause-stops g c = stand.not_joint _ _ joint.Name c.in_default.ensures.none c.in_default.ensures.other
