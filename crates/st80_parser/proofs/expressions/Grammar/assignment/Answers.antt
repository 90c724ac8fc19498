use Rattle.std.proofs.Common.{◌≡◌, ◌≤◌, ◌≢◌, ℕ, ◌-◌, ◌==◌, ◌&&◌, Bool, true, false, List, [], ◌∷◌, ◌++◌, length, Some, None, refl, sym, ap, subst, ◌∙◌, append_assoc, arith}
use Rattle.st80_syntax.specs.declared.token.Token.{Token}
use Rattle.st80_syntax.specs.declared.token.Kind.{Kind}
use Rattle.st80_syntax.specs.declared.token.Kind.TheVariants as kind
use Rattle.st80_parser.specs.declared.kinds.Opening.{Opening}
use Rattle.st80_parser.specs.declared.kinds.Opening.TheVariants as opening
use Rattle.st80_parser.specs.declared.kinds.Joint.{Joint}
use Rattle.st80_parser.specs.declared.kinds.Joint.TheVariants as joint
use Rattle.st80_parser.specs.declared.kinds.Item.TheVariants as item
use Rattle.st80_parser.specs.declared.tree.Expr.{Expr}
use Rattle.st80_parser.specs.Kinds.{item_of, joint_of, kind_at, opening_of, same_kind}
use Rattle.st80_parser.specs.Stands.{After, Argument, Behind, Binary, Body, Dot, Elements, First, Header, Keywords, Marks, Message, Named, Names, Nested, One, Operand, Others, Place, Plain, Primitive, Selector, Sent, State, Stopped, Symbol, Temporaries, Unary, Whole, after, begun, cascades, elements, inside, is_group, is_message, is_sent, keywords, message, others, run, selector, state_of, takes_names}
use Rattle.st80_parser.proofs.StandLaws as stand
use Rattle.st80_parser.proofs.StandLaws.{fails, left, memory, refuses, runs_behind, skips, took}
use Rattle.st80_parser.proofs.JoinLaws as join
use Rattle.st80_parser.proofs.expressions.Grammar.assignment.Goals as goal

pub next-sign-requires : goal.next-sign-requires
next-sign-requires g c = stand.some_left _ joint.Assign c.requires.sign (λ e. cc)

pub returns-then-self-eq0-clause-runs : goal.returns-then-self-eq0-clause-runs
returns-then-self-eq0-clause-runs g c = λ xs. refuses (After Named Whole c.args.self.now.depth) xs _ (stand.after_is Named Whole c.args.self.now.depth _ joint.Assign c.requires.sign ∙ stand.deeper_none c.args.self.now.depth (Nested c.args.self.now.depth ∷ []) c.if-self-eq0.true)

pub returns-clause-reads : goal.returns-clause-reads
returns-clause-reads g c = join.assigned _ _ _ _ c.in_ok-made.ensures refl c.next-sign.ensures c.in_ok-value.ensures.reads

pub returns-in_err-value-clause-runs : goal.returns-in_err-value-clause-runs
returns-in_err-value-clause-runs g c = λ xs. fails _ _ _ _ _ _ _ _ _ c.from_residual.ensures.1 (took (After Named Whole c.args.self.now.depth) (Nested c.args.self.now.depth ∷ []) xs _ _ _ c.next-sign.ensures (stand.after_is Named Whole c.args.self.now.depth _ joint.Assign (stand.joint_taken _ _ _ _ c.next-sign.ensures c.requires.sign) ∙ stand.deeper_some c.args.self.now.depth (Nested c.args.self.now.depth ∷ []) c.if-self-eq0.false)) (c.in_err-value.ensures.runs xs)

pub returns-in_err-made-clause-runs : goal.returns-in_err-made-clause-runs
returns-in_err-made-clause-runs g c = λ xs. memory _ _ _ _ _ _ _ c.from_residual-in_err-made.ensures.1

pub returns-clause-runs : goal.returns-clause-runs
returns-clause-runs g c = λ xs. took (After Named Whole c.args.self.now.depth) (Nested c.args.self.now.depth ∷ []) xs _ _ _ c.next-sign.ensures (stand.after_is Named Whole c.args.self.now.depth _ joint.Assign (stand.joint_taken _ _ _ _ c.next-sign.ensures c.requires.sign) ∙ stand.deeper_some c.args.self.now.depth (Nested c.args.self.now.depth ∷ []) c.if-self-eq0.false) ∙ c.in_ok-value.ensures.runs xs
