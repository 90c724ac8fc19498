use Rattle.std.proofs.Common.{◌≡◌, ◌≤◌, ◌≢◌, ℕ, ◌-◌, ◌==◌, ◌&&◌, Bool, true, false, List, [], ◌∷◌, ◌++◌, length, Some, None, refl, sym, ap, subst, ◌∙◌, append_assoc, arith}
use Rattle.st80_syntax.specs.declared.token.Token.{Token}
use Rattle.st80_syntax.specs.declared.token.Kind.{Kind}
use Rattle.st80_syntax.specs.declared.token.Kind.TheVariants as kind
use Rattle.st80_parser.specs.declared.kinds.Opening.{Opening}
use Rattle.st80_parser.specs.declared.kinds.Opening.TheVariants as opening
use Rattle.st80_parser.specs.declared.kinds.Joint.{Joint}
use Rattle.st80_parser.specs.declared.kinds.Joint.TheVariants as joint
use Rattle.st80_parser.specs.declared.kinds.Item.TheVariants as item
use Rattle.st80_parser.specs.declared.tree.Expr.{Expr}
use Rattle.st80_parser.specs.Kinds.{item_of, joint_of, kind_at, opening_of, same_kind}
use Rattle.st80_parser.specs.Stands.{After, Argument, Behind, Binary, Body, Dot, Elements, First, Header, Keywords, Marks, Message, Named, Names, Nested, One, Operand, Others, Place, Plain, Primitive, Selector, Sent, State, Stopped, Symbol, Temporaries, Unary, Whole, after, begun, cascades, elements, inside, is_group, is_message, is_sent, keywords, message, others, run, selector, state_of, takes_names}
use Rattle.st80_parser.proofs.StandLaws as stand
use Rattle.st80_parser.proofs.StandLaws.{fails, left, memory, refuses, runs_behind, skips, took}
use Rattle.st80_parser.proofs.JoinLaws as join
use Rattle.st80_parser.proofs.arrays.+elements_in.Goals as goal

pub next-token-requires : goal.next-token-requires
next-token-requires t c = stand.item_left _ _ (ap item_of (sym c.peek.ensures) ∙ sym c.item_of.ensures ∙ c.in-Some.is ∙ ap Some c.in-One.is)

pub next-opening-requires : goal.next-opening-requires
next-opening-requires t c = stand.item_left _ _ (ap item_of (sym c.peek.ensures) ∙ sym c.item_of.ensures ∙ c.in-Some.is ∙ ap Some c.in-Nested.is)

pub each-preserved-in-One : goal.each-preserved-in-One
each-preserved-in-One t c = (join.joined _ _ _ c.in_ok-longer-in-One.ensures c.each.invariant.0 c.next-token.ensures, stand.shorter _ _ _ _ c.next-token.ensures c.each.invariant.1, λ xs. c.each.invariant.2 xs ∙ took (Elements c.args.depth) (Elements c.args.depth ∷ []) xs _ _ _ c.next-token.ensures (stand.elements_is c.args.depth _ (Some item.One) (stand.item_taken _ _ _ _ c.next-token.ensures (ap item_of (sym c.peek.ensures) ∙ sym c.item_of.ensures ∙ c.in-Some.is ∙ ap Some c.in-One.is))))

pub returns-then-depth-eq0-clause-runs : goal.returns-then-depth-eq0-clause-runs
returns-then-depth-eq0-clause-runs t c = λ xs. c.each.invariant.2 xs ∙ refuses (Elements c.args.depth) xs _ (stand.elements_is c.args.depth _ (Some item.Nested) (ap item_of (sym c.peek.ensures) ∙ sym c.item_of.ensures ∙ c.in-Some.is ∙ ap Some c.in-Nested.is) ∙ stand.deeper_none c.args.depth (Elements (c.args.depth - 1) ∷ One kind.Close ∷ Elements c.args.depth ∷ []) c.if-depth-eq0.true)

pub returns-in_err-inner-in-Nested-clause-runs : goal.returns-in_err-inner-in-Nested-clause-runs
returns-in_err-inner-in-Nested-clause-runs t c = λ xs. fails _ _ _ _ _ _ _ _ _ c.from_residual-in_err-inner-in-Nested.ensures.1 (c.each.invariant.2 xs ∙ took (Elements c.args.depth) (Elements (c.args.depth - 1) ∷ One kind.Close ∷ Elements c.args.depth ∷ []) xs _ _ _ c.next-opening.ensures (stand.elements_is c.args.depth _ (Some item.Nested) (stand.item_taken _ _ _ _ c.next-opening.ensures (ap item_of (sym c.peek.ensures) ∙ sym c.item_of.ensures ∙ c.in-Some.is ∙ ap Some c.in-Nested.is)) ∙ stand.deeper_some c.args.depth (Elements (c.args.depth - 1) ∷ One kind.Close ∷ Elements c.args.depth ∷ []) c.if-depth-eq0.false)) (c.in_err-inner-in-Nested.ensures.runs (One kind.Close ∷ Elements c.args.depth ∷ xs))

pub returns-in_err-close-in-Nested-clause-runs : goal.returns-in_err-close-in-Nested-clause-runs
returns-in_err-close-in-Nested-clause-runs t c = λ xs. fails _ _ _ _ _ _ _ _ _ c.from_residual-in_err-close-in-Nested.ensures.1 (c.each.invariant.2 xs ∙ took (Elements c.args.depth) (Elements (c.args.depth - 1) ∷ One kind.Close ∷ Elements c.args.depth ∷ []) xs _ _ _ c.next-opening.ensures (stand.elements_is c.args.depth _ (Some item.Nested) (stand.item_taken _ _ _ _ c.next-opening.ensures (ap item_of (sym c.peek.ensures) ∙ sym c.item_of.ensures ∙ c.in-Some.is ∙ ap Some c.in-Nested.is)) ∙ stand.deeper_some c.args.depth (Elements (c.args.depth - 1) ∷ One kind.Close ∷ Elements c.args.depth ∷ []) c.if-depth-eq0.false) ∙ c.in_ok-inner-in-Nested.ensures.runs (One kind.Close ∷ Elements c.args.depth ∷ xs)) (c.in_err-close-in-Nested.ensures.runs (Elements c.args.depth ∷ xs))

pub each-preserved : goal.each-preserved
each-preserved t c = (join.nested _ _ _ _ c.in_ok-longer-in-Nested.ensures c.each.invariant.0 c.next-opening.ensures c.in_ok-inner-in-Nested.ensures.reads c.in_ok-close-in-Nested.ensures.reads, stand.shorter_by _ _ _ _ _ _ c.next-opening.ensures c.in_ok-inner-in-Nested.ensures.within c.in_ok-close-in-Nested.ensures.within c.each.invariant.1, λ xs. c.each.invariant.2 xs ∙ took (Elements c.args.depth) (Elements (c.args.depth - 1) ∷ One kind.Close ∷ Elements c.args.depth ∷ []) xs _ _ _ c.next-opening.ensures (stand.elements_is c.args.depth _ (Some item.Nested) (stand.item_taken _ _ _ _ c.next-opening.ensures (ap item_of (sym c.peek.ensures) ∙ sym c.item_of.ensures ∙ c.in-Some.is ∙ ap Some c.in-Nested.is)) ∙ stand.deeper_some c.args.depth (Elements (c.args.depth - 1) ∷ One kind.Close ∷ Elements c.args.depth ∷ []) c.if-depth-eq0.false) ∙ c.in_ok-inner-in-Nested.ensures.runs (One kind.Close ∷ Elements c.args.depth ∷ xs) ∙ c.in_ok-close-in-Nested.ensures.runs (Elements c.args.depth ∷ xs))

pub returns-clause-runs : goal.returns-clause-runs
returns-clause-runs t c = λ xs. c.each.invariant.2 xs ∙ skips (Elements c.args.depth) xs _ (stand.elements_is c.args.depth _ None (ap item_of (sym c.peek.ensures) ∙ sym c.item_of.ensures ∙ c.in_default.is))
