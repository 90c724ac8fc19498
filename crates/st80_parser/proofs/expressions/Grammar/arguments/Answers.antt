use Rattle.std.proofs.Common.{◌≡◌, ◌≤◌, ◌≢◌, ℕ, ◌-◌, ◌==◌, ◌&&◌, Bool, true, false, List, [], ◌∷◌, ◌++◌, length, Some, None, refl, sym, ap, subst, ◌∙◌, append_assoc, arith}
use Rattle.st80_syntax.specs.declared.token.Token.{Token}
use Rattle.st80_syntax.specs.declared.token.Kind.{Kind}
use Rattle.st80_syntax.specs.declared.token.Kind.TheVariants as kind
use Rattle.st80_parser.specs.declared.kinds.Opening.{Opening}
use Rattle.st80_parser.specs.declared.kinds.Opening.TheVariants as opening
use Rattle.st80_parser.specs.declared.kinds.Joint.{Joint}
use Rattle.st80_parser.specs.declared.kinds.Joint.TheVariants as joint
use Rattle.st80_parser.specs.declared.kinds.Item.TheVariants as item
use Rattle.st80_parser.specs.declared.tree.Expr.{Expr}
use Rattle.st80_parser.specs.Kinds.{item_of, joint_of, kind_at, opening_of, same_kind}
use Rattle.st80_parser.specs.Stands.{After, Argument, Behind, Binary, Body, Dot, Elements, First, Header, Keywords, Marks, Message, Named, Names, Nested, One, Operand, Others, Place, Plain, Primitive, Selector, Sent, State, Stopped, Symbol, Temporaries, Unary, Whole, after, begun, cascades, elements, inside, is_group, is_message, is_sent, keywords, message, others, run, selector, state_of, takes_names}
use Rattle.st80_parser.proofs.StandLaws as stand
use Rattle.st80_parser.proofs.StandLaws.{fails, left, memory, refuses, runs_behind, skips, took}
use Rattle.st80_parser.proofs.JoinLaws as join
use Rattle.st80_parser.proofs.expressions.Grammar.arguments.Goals as goal

pub each-init : goal.each-init
each-init g c = (refl, omega arith, λ xs. refl)

pub each-preserved : goal.each-preserved
each-preserved g c = (join.around _ _ _ _ c.in_ok-longer.ensures c.each.invariant.0 c.in-Some.ensures.some c.in_ok-argument.ensures.reads, omega (arith, c.each.invariant.1, c.in-Some.ensures.within, c.in_ok-argument.ensures.within), λ xs. c.each.invariant.2 xs ∙ took (Keywords c.args.self.now.depth) (First Argument c.args.self.now.depth ∷ Keywords c.args.self.now.depth ∷ []) xs _ _ _ c.in-Some.ensures.some (stand.keywords_is c.args.self.now.depth _ joint.Keyword c.in-Some.ensures.is) ∙ c.in_ok-argument.ensures.runs (Keywords c.args.self.now.depth ∷ xs))

pub returns-in_err-argument-clause-runs : goal.returns-in_err-argument-clause-runs
returns-in_err-argument-clause-runs g c = λ xs. fails _ _ _ _ _ _ _ _ _ c.from_residual.ensures.1 (c.each.invariant.2 xs ∙ took (Keywords c.args.self.now.depth) (First Argument c.args.self.now.depth ∷ Keywords c.args.self.now.depth ∷ []) xs _ _ _ c.in-Some.ensures.some (stand.keywords_is c.args.self.now.depth _ joint.Keyword c.in-Some.ensures.is)) (c.in_err-argument.ensures.runs (Keywords c.args.self.now.depth ∷ xs))

pub returns-in_err-longer-clause-runs : goal.returns-in_err-longer-clause-runs
returns-in_err-longer-clause-runs g c = λ xs. memory _ _ _ _ _ _ _ c.from_residual-in_err-longer.ensures.1

pub returns-clause-runs : goal.returns-clause-runs
returns-clause-runs g c = λ xs. c.each.invariant.2 xs ∙ stand.keywords_end c.args.self.now.depth xs _ _ c.in_default.ensures.none c.in_default.ensures.other
