use Rattle.std.proofs.Common.{◌≡◌, ◌≤◌, ◌≢◌, ℕ, ◌-◌, ◌==◌, ◌&&◌, Bool, true, false, List, [], ◌∷◌, ◌++◌, length, Some, None, refl, sym, ap, subst, ◌∙◌, append_assoc, arith}
use Rattle.st80_syntax.specs.declared.token.Token.{Token}
use Rattle.st80_syntax.specs.declared.token.Kind.{Kind}
use Rattle.st80_syntax.specs.declared.token.Kind.TheVariants as kind
use Rattle.st80_parser.specs.declared.kinds.Opening.{Opening}
use Rattle.st80_parser.specs.declared.kinds.Opening.TheVariants as opening
use Rattle.st80_parser.specs.declared.kinds.Joint.{Joint}
use Rattle.st80_parser.specs.declared.kinds.Joint.TheVariants as joint
use Rattle.st80_parser.specs.declared.kinds.Item.TheVariants as item
use Rattle.st80_parser.specs.declared.tree.Expr.{Expr}
use Rattle.st80_parser.specs.Kinds.{item_of, joint_of, kind_at, opening_of, same_kind}
use Rattle.st80_parser.specs.Stands.{After, Argument, Behind, Binary, Body, Dot, Elements, First, Header, Keywords, Marks, Message, Named, Names, Nested, One, Operand, Others, Place, Plain, Primitive, Selector, Sent, State, Stopped, Symbol, Temporaries, Unary, Whole, after, begun, cascades, elements, inside, is_group, is_message, is_sent, keywords, message, others, run, selector, state_of, takes_names}
use Rattle.st80_parser.proofs.StandLaws as stand
use Rattle.st80_parser.proofs.StandLaws.{fails, left, memory, refuses, runs_behind, skips, took}
use Rattle.st80_parser.proofs.JoinLaws as join
use Rattle.st80_parser.specs.Stands.{start}
use Rattle.st80_parser.specs.Written.{method}
use Rattle.st80_parser.proofs.methods.whole.Goals as goal

pub returns-in_err-found-clause-runs : goal.returns-in_err-found-clause-runs
returns-in_err-found-clause-runs c = fails _ _ _ _ _ _ _ _ _ c.from_residual.ensures.1 (ap (λ (b : Bool). run (start b) c.args.cursor.now.rest.now) c.if-is_method.true) (c.in_err-found.ensures.runs (start false))

pub returns-then-is_method-clause-runs : goal.returns-then-is_method-clause-runs
returns-then-is_method-clause-runs c = runs_behind _ _ _ _ _ _ _ c.behind.result (ap (λ (b : Bool). run (start b) c.args.cursor.now.rest.now) c.if-is_method.true ∙ c.in_ok-found.ensures.runs (start false)) c.behind.ensures.runs

pub returns-clause-runs : goal.returns-clause-runs
returns-clause-runs c = runs_behind _ _ _ _ _ _ _ c.behind-2.result (ap (λ (b : Bool). run (start b) c.args.cursor.now.rest.now) c.if-is_method.false) c.behind-2.ensures.runs

pub returns-then-is_method-clause-reads : goal.returns-then-is_method-clause-reads
returns-then-is_method-clause-reads c = join.replaced _ method _ _ _ c.behind.result c.in_ok-found.ensures.reads c.behind.ensures.reads
