use Rattle.std.proofs.Common.{◌+◌, Bool, drop, ap, sym, ◌∙◌, arith}
use Rattle.st80_syntax.specs.Bytes.{more, quoted_by}
use Rattle.st80_syntax.proofs.RunLaws.{quoted_ends, quoted_fails, quoted_init, quoted_other, quoted_quote, quoted_stops}
use Rattle.st80_syntax.proofs.bytes.quoted.Goals as goal
use Rattle.st80_syntax.proofs.bytes.quoted.Goals.{then-text-count-eq39, else-text-count-eq39+else-ended}

pub each-init : goal.each-init
each-init c = (quoted_init _ _, omega arith)

pub returns-then-ended-clause-is : goal.returns-then-ended-clause-is
returns-then-ended-clause-is c = quoted_stops _ _ _ _ c.each-test.true c.if-text-count-eq39.false c.if-ended.true c.each.invariant.0

pub each-preserved : goal.each-preserved
each-preserved c = (
  elim c.if-text-count-eq39.branch [
    | then-text-count-eq39 w ↦ quoted_quote _ _ _ _ c.each-test.true w.if-text-count-eq39.true c.each.invariant.0
        ∙ ap (λ (t : Bool). more (c.each.count + 1) (quoted_by t (drop (c.each.count + 1) c.args.text.now))) (sym w.ended-is)
    | else-text-count-eq39+else-ended w ↦ quoted_other _ _ _ _ c.each-test.true w.if-text-count-eq39.false w.if-ended.false c.each.invariant.0
        ∙ ap (λ (t : Bool). more (c.each.count + 1) (quoted_by t (drop (c.each.count + 1) c.args.text.now))) (sym w.ended-is)
  ],
  omega (arith, c.each-test.true),
)

pub returns-then-ended-2-clause-is : goal.returns-then-ended-2-clause-is
returns-then-ended-2-clause-is c = quoted_ends _ _ _ _ c.each-test.false c.if-ended-2.true c.each.invariant.0

pub returns-else-ended-2-clause-is : goal.returns-else-ended-2-clause-is
returns-else-ended-2-clause-is c = quoted_fails _ _ _ _ c.each-test.false c.if-ended-2.false c.each.invariant.0
