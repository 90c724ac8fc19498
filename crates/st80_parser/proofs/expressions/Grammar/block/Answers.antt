use Rattle.std.proofs.Common.{◌≡◌, ◌≤◌, ◌≢◌, ℕ, ◌-◌, ◌==◌, ◌&&◌, Bool, true, false, List, [], ◌∷◌, ◌++◌, length, Some, None, refl, sym, ap, subst, ◌∙◌, append_assoc, arith}
use Rattle.st80_syntax.specs.declared.token.Token.{Token}
use Rattle.st80_syntax.specs.declared.token.Kind.{Kind}
use Rattle.st80_syntax.specs.declared.token.Kind.TheVariants as kind
use Rattle.st80_parser.specs.declared.kinds.Opening.{Opening}
use Rattle.st80_parser.specs.declared.kinds.Opening.TheVariants as opening
use Rattle.st80_parser.specs.declared.kinds.Joint.{Joint}
use Rattle.st80_parser.specs.declared.kinds.Joint.TheVariants as joint
use Rattle.st80_parser.specs.declared.kinds.Item.TheVariants as item
use Rattle.st80_parser.specs.declared.tree.Expr.{Expr}
use Rattle.st80_parser.specs.Kinds.{item_of, joint_of, kind_at, opening_of, same_kind}
use Rattle.st80_parser.specs.Stands.{After, Argument, Behind, Binary, Body, Dot, Elements, First, Header, Keywords, Marks, Message, Named, Names, Nested, One, Operand, Others, Place, Plain, Primitive, Selector, Sent, State, Stopped, Symbol, Temporaries, Unary, Whole, after, begun, cascades, elements, inside, is_group, is_message, is_sent, keywords, message, others, run, selector, state_of, takes_names}
use Rattle.st80_parser.proofs.StandLaws as stand
use Rattle.st80_parser.proofs.StandLaws.{fails, left, memory, refuses, runs_behind, skips, took}
use Rattle.st80_parser.proofs.JoinLaws as join
use Rattle.st80_parser.proofs.expressions.Grammar.block.Goals as goal

pub returns-clause-reads : goal.returns-clause-reads
returns-clause-reads g c = join.blocked _ _ _ _ c.in_ok-made.ensures.is refl c.in_ok-arguments.ensures.reads c.in_ok-inner.ensures.reads c.in_ok-close.ensures.reads

pub returns-in_err-arguments-clause-runs : goal.returns-in_err-arguments-clause-runs
returns-in_err-arguments-clause-runs g c = λ xs. fails _ _ _ _ _ _ _ _ _ c.from_residual.ensures.1 (refl) (c.in_err-arguments.ensures.runs (Body c.args.self.now.depth ∷ One kind.CloseBlock ∷ xs))

pub returns-in_err-inner-clause-runs : goal.returns-in_err-inner-clause-runs
returns-in_err-inner-clause-runs g c = λ xs. fails _ _ _ _ _ _ _ _ _ c.from_residual-in_err-inner.ensures.1 (c.in_ok-arguments.ensures.runs (Body c.args.self.now.depth ∷ One kind.CloseBlock ∷ xs)) (c.in_err-inner.ensures.runs (One kind.CloseBlock ∷ xs))

pub returns-in_err-close-clause-runs : goal.returns-in_err-close-clause-runs
returns-in_err-close-clause-runs g c = λ xs. fails _ _ _ _ _ _ _ _ _ c.from_residual-in_err-close.ensures.1 (c.in_ok-arguments.ensures.runs (Body c.args.self.now.depth ∷ One kind.CloseBlock ∷ xs) ∙ c.in_ok-inner.ensures.runs (One kind.CloseBlock ∷ xs)) (c.in_err-close.ensures.runs xs)

pub returns-in_err-made-clause-runs : goal.returns-in_err-made-clause-runs
returns-in_err-made-clause-runs g c = λ xs. memory _ _ _ _ _ _ _ c.from_residual-in_err-made.ensures.1

pub returns-clause-runs : goal.returns-clause-runs
returns-clause-runs g c = λ xs. c.in_ok-arguments.ensures.runs (Body c.args.self.now.depth ∷ One kind.CloseBlock ∷ xs) ∙ c.in_ok-inner.ensures.runs (One kind.CloseBlock ∷ xs) ∙ c.in_ok-close.ensures.runs xs
