use Rattle.std.proofs.Common.{◌≡◌, ◌≤◌, ◌≢◌, ℕ, ◌-◌, ◌==◌, ◌&&◌, Bool, true, false, List, [], ◌∷◌, ◌++◌, length, Some, None, refl, sym, ap, subst, ◌∙◌, append_assoc, arith}
use Rattle.st80_syntax.specs.declared.token.Token.{Token}
use Rattle.st80_syntax.specs.declared.token.Kind.{Kind}
use Rattle.st80_syntax.specs.declared.token.Kind.TheVariants as kind
use Rattle.st80_parser.specs.declared.kinds.Opening.{Opening}
use Rattle.st80_parser.specs.declared.kinds.Opening.TheVariants as opening
use Rattle.st80_parser.specs.declared.kinds.Joint.{Joint}
use Rattle.st80_parser.specs.declared.kinds.Joint.TheVariants as joint
use Rattle.st80_parser.specs.declared.kinds.Item.TheVariants as item
use Rattle.st80_parser.specs.declared.tree.Expr.{Expr}
use Rattle.st80_parser.specs.Kinds.{item_of, joint_of, kind_at, opening_of, same_kind}
use Rattle.st80_parser.specs.Stands.{After, Argument, Behind, Binary, Body, Dot, Elements, First, Header, Keywords, Marks, Message, Named, Names, Nested, One, Operand, Others, Place, Plain, Primitive, Selector, Sent, State, Stopped, Symbol, Temporaries, Unary, Whole, after, begun, cascades, elements, inside, is_group, is_message, is_sent, keywords, message, others, run, selector, state_of, takes_names}
use Rattle.st80_parser.proofs.StandLaws as stand
use Rattle.st80_parser.proofs.StandLaws.{fails, left, memory, refuses, runs_behind, skips, took}
use Rattle.st80_parser.proofs.JoinLaws as join
use Rattle.st80_parser.proofs.expressions.Grammar.body.Goals as goal

pub each-init : goal.each-init
each-init g c = (refl, omega arith, λ xs. refl)

pub each-preserved : goal.each-preserved
each-preserved g c = (join.closed _ _ _ c.in_ok-longer-in-Some-eat.ensures c.each.invariant.0 c.in_ok-value.ensures.reads c.in-Some-eat.ensures.some, omega (arith, c.each.invariant.1, c.in_ok-value.ensures.within, c.in-Some-eat.ensures.within), λ xs. c.each.invariant.2 xs ∙ stand.body_first c.args.self.now.depth xs _ _ (ap opening_of (sym c.peek.ensures) ∙ sym c.opening_of.ensures ∙ c.in-Some.is) ∙ c.in_ok-value.ensures.runs (Behind c.args.self.now.depth ∷ xs) ∙ took (Behind c.args.self.now.depth) (Body c.args.self.now.depth ∷ []) xs _ _ _ c.in-Some-eat.ensures.some (stand.behind_takes c.args.self.now.depth _ c.in-Some-eat.ensures.is))

pub returns-in-None-clause-reads : goal.returns-in-None-clause-reads
returns-in-None-clause-reads g c = join.stopped _ _ _ c.in_ok-last-in-None.ensures c.each.invariant.0 c.in_ok-value.ensures.reads c.in-None.ensures.none

pub returns-clause-reads : goal.returns-clause-reads
returns-clause-reads g c = join.join _ _ _ c.each.invariant.0 c.in_ok-last.ensures.reads

pub returns-in_err-value-clause-runs : goal.returns-in_err-value-clause-runs
returns-in_err-value-clause-runs g c = λ xs. fails _ _ _ _ _ _ _ _ _ c.from_residual.ensures.1 (c.each.invariant.2 xs ∙ stand.body_first c.args.self.now.depth xs _ _ (ap opening_of (sym c.peek.ensures) ∙ sym c.opening_of.ensures ∙ c.in-Some.is)) (c.in_err-value.ensures.runs (Behind c.args.self.now.depth ∷ xs))

pub returns-in_err-last-clause-runs : goal.returns-in_err-last-clause-runs
returns-in_err-last-clause-runs g c = λ xs. fails _ _ _ _ _ _ _ _ _ c.from_residual-in_err-last.ensures.1 (c.each.invariant.2 xs) (c.in_err-last.ensures.runs xs)

pub returns-in-None-clause-runs : goal.returns-in-None-clause-runs
returns-in-None-clause-runs g c = λ xs. c.each.invariant.2 xs ∙ stand.body_first c.args.self.now.depth xs _ _ (ap opening_of (sym c.peek.ensures) ∙ sym c.opening_of.ensures ∙ c.in-Some.is) ∙ c.in_ok-value.ensures.runs (Behind c.args.self.now.depth ∷ xs) ∙ skips (Behind c.args.self.now.depth) xs _ (stand.behind_skips c.args.self.now.depth _ c.in-None.ensures.other) ∙ left xs _ _ c.in-None.ensures.none

pub returns-clause-runs : goal.returns-clause-runs
returns-clause-runs g c = λ xs. c.each.invariant.2 xs ∙ c.in_ok-last.ensures.runs xs
