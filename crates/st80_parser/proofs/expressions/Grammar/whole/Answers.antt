use Rattle.std.proofs.Common.{◌≡◌, ◌≤◌, ◌≢◌, ℕ, ◌-◌, ◌==◌, ◌&&◌, Bool, true, false, List, [], ◌∷◌, ◌++◌, length, Some, None, refl, sym, ap, subst, ◌∙◌, append_assoc, arith}
use Rattle.st80_syntax.specs.declared.token.Token.{Token}
use Rattle.st80_syntax.specs.declared.token.Kind.{Kind}
use Rattle.st80_syntax.specs.declared.token.Kind.TheVariants as kind
use Rattle.st80_parser.specs.declared.kinds.Opening.{Opening}
use Rattle.st80_parser.specs.declared.kinds.Opening.TheVariants as opening
use Rattle.st80_parser.specs.declared.kinds.Joint.{Joint}
use Rattle.st80_parser.specs.declared.kinds.Joint.TheVariants as joint
use Rattle.st80_parser.specs.declared.kinds.Item.TheVariants as item
use Rattle.st80_parser.specs.declared.tree.Expr.{Expr}
use Rattle.st80_parser.specs.Kinds.{item_of, joint_of, kind_at, opening_of, same_kind}
use Rattle.st80_parser.specs.Stands.{After, Argument, Behind, Binary, Body, Dot, Elements, First, Header, Keywords, Marks, Message, Named, Names, Nested, One, Operand, Others, Place, Plain, Primitive, Selector, Sent, State, Stopped, Symbol, Temporaries, Unary, Whole, after, begun, cascades, elements, inside, is_group, is_message, is_sent, keywords, message, others, run, selector, state_of, takes_names}
use Rattle.st80_parser.proofs.StandLaws as stand
use Rattle.st80_parser.proofs.StandLaws.{fails, left, memory, refuses, runs_behind, skips, took}
use Rattle.st80_parser.proofs.JoinLaws as join
use Rattle.st80_parser.specs.Written.{expr}
use Rattle.st80_parser.proofs.expressions.Grammar.whole.Goals as goal

pub assigned-requires-clause-sign : goal.assigned-requires-clause-sign
assigned-requires-clause-sign g c = (sym c.joint.ensures ∙ c.in-Assign.is)

pub returns-in_err-first-clause-runs : goal.returns-in_err-first-clause-runs
returns-in_err-first-clause-runs g c = λ xs. fails _ _ _ _ _ _ _ _ _ c.from_residual.ensures.1 (refl) (c.in_err-first.ensures.runs xs)

pub returns-in-Assign-clause-runs : goal.returns-in-Assign-clause-runs
returns-in-Assign-clause-runs g c = λ xs. runs_behind _ _ _ _ _ _ _ c.assigned.result (c.in_ok-first.ensures.runs xs) (c.assigned.ensures.runs xs)

pub returns-in-Assign-clause-reads : goal.returns-in-Assign-clause-reads
returns-in-Assign-clause-reads g c = join.replaced _ expr _ _ _ c.assigned.result c.in_ok-first.ensures.reads c.assigned.ensures.reads

pub returns-in_default-clause-runs : goal.returns-in_default-clause-runs
returns-in_default-clause-runs g c = λ xs. c.in_ok-first.ensures.runs xs ∙ stand.whole_ends _ c.args.self.now.depth xs _ c.in_ok-first.ensures.stops (λ is. c.in_default.not-Assign (c.joint.ensures ∙ is))
