use Rattle.std.proofs.Common.{◌≡◌, ◌≤◌, ◌≢◌, ℕ, ◌-◌, ◌==◌, ◌&&◌, Bool, true, false, List, [], ◌∷◌, ◌++◌, length, Some, None, refl, sym, ap, subst, ◌∙◌, append_assoc, arith}
use Rattle.st80_syntax.specs.declared.token.Token.{Token}
use Rattle.st80_syntax.specs.declared.token.Kind.{Kind}
use Rattle.st80_syntax.specs.declared.token.Kind.TheVariants as kind
use Rattle.st80_parser.specs.declared.kinds.Opening.{Opening}
use Rattle.st80_parser.specs.declared.kinds.Opening.TheVariants as opening
use Rattle.st80_parser.specs.declared.kinds.Joint.{Joint}
use Rattle.st80_parser.specs.declared.kinds.Joint.TheVariants as joint
use Rattle.st80_parser.specs.declared.kinds.Item.TheVariants as item
use Rattle.st80_parser.specs.declared.tree.Expr.{Expr}
use Rattle.st80_parser.specs.Kinds.{item_of, joint_of, kind_at, opening_of, same_kind}
use Rattle.st80_parser.specs.Stands.{After, Argument, Behind, Binary, Body, Dot, Elements, First, Header, Keywords, Marks, Message, Named, Names, Nested, One, Operand, Others, Place, Plain, Primitive, Selector, Sent, State, Stopped, Symbol, Temporaries, Unary, Whole, after, begun, cascades, elements, inside, is_group, is_message, is_sent, keywords, message, others, run, selector, state_of, takes_names}
use Rattle.st80_parser.proofs.StandLaws as stand
use Rattle.st80_parser.proofs.StandLaws.{fails, left, memory, refuses, runs_behind, skips, took}
use Rattle.st80_parser.proofs.JoinLaws as join
use Rattle.st80_parser.proofs.expressions.Grammar.value_returned.Goals as goal

pub returns-in_ok-made-in-Some-clause-reads : goal.returns-in_ok-made-in-Some-clause-reads
returns-in_ok-made-in-Some-clause-reads g c = join.enclosed _ _ _ c.in_ok-made-in-Some.ensures refl c.in_ok-value.ensures.reads c.in-Some.ensures.some

pub returns-in_ok-made-in-None-clause-reads : goal.returns-in_ok-made-in-None-clause-reads
returns-in_ok-made-in-None-clause-reads g c = join.headed _ _ _ c.in_ok-made-in-None.ensures refl (join.left_there _ c.in-None.ensures.none c.in_ok-value.ensures.reads)

pub returns-in_err-value-clause-runs : goal.returns-in_err-value-clause-runs
returns-in_err-value-clause-runs g c = λ xs. fails _ _ _ _ _ _ _ _ _ c.from_residual.ensures.1 (refl) (c.in_err-value.ensures.runs (Dot ∷ xs))

pub returns-in_err-made-in-Some-clause-runs : goal.returns-in_err-made-in-Some-clause-runs
returns-in_err-made-in-Some-clause-runs g c = λ xs. memory _ _ _ _ _ _ _ c.from_residual-in_err-made-in-Some.ensures.1

pub returns-in_err-made-in-None-clause-runs : goal.returns-in_err-made-in-None-clause-runs
returns-in_err-made-in-None-clause-runs g c = λ xs. memory _ _ _ _ _ _ _ c.from_residual-in_err-made-in-None.ensures.1

pub returns-in_ok-made-in-Some-clause-runs : goal.returns-in_ok-made-in-Some-clause-runs
returns-in_ok-made-in-Some-clause-runs g c = λ xs. c.in_ok-value.ensures.runs (Dot ∷ xs) ∙ took Dot [] xs _ _ _ c.in-Some.ensures.some (stand.dot_takes _ c.in-Some.ensures.is)

pub returns-in_ok-made-in-None-clause-runs : goal.returns-in_ok-made-in-None-clause-runs
returns-in_ok-made-in-None-clause-runs g c = λ xs. c.in_ok-value.ensures.runs (Dot ∷ xs) ∙ skips Dot xs _ (stand.dot_skips _ c.in-None.ensures.other) ∙ left xs _ _ c.in-None.ensures.none
