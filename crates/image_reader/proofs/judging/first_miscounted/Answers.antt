use Rattle.std.proofs.Common.{get_or, refl, sym, ◌∙◌, arith}
use Rattle.image_reader.proofs.JudgeLaws.{failing-none, many-of, miscounted-here, miscounted-next, tested}
use Rattle.image_format.specs.Rules.{is_counted, words_in}
use Rattle.image_reader.proofs.judging.first_miscounted.Goals as goal

pub returns-then-not-is_exact : goal.returns-then-not-is_exact
returns-then-not-is_exact c = record {
  miscounted = λ recs next old are fresh raised.
      let x = tested c.args.tally.now.names c.args.stated.now recs next c.loop-i.i c.name-name.result old c.args.tally.now c.name-name.ensures are fresh raised in
      sym (c.loop-i.invariant recs next old are fresh raised ∙ miscounted-here recs c.loop-i.i c.name-name.result _ x (sym (c.is_exact.ensures c.name-name.result c.name-name.ensures) ∙ c.if-not-is_exact.true));
}

pub loop-i-preserved : goal.loop-i-preserved
loop-i-preserved c = λ recs next old are fresh raised.
    let x = tested c.args.tally.now.names c.args.stated.now recs next c.loop-i.i c.name-name.result old c.args.tally.now c.name-name.ensures are fresh raised in
    c.loop-i.invariant recs next old are fresh raised ∙ miscounted-next recs c.loop-i.i c.name-name.result _ x (sym (c.is_exact.ensures c.name-name.result c.name-name.ensures) ∙ c.if-not-is_exact.false)

pub returns : goal.returns
returns c = record {
  miscounted = λ recs next old are fresh raised.
      sym (c.loop-i.invariant recs next old are fresh raised ∙ failing-none 11 (is_counted (words_in recs)) recs c.loop-i.i (omega (arith, many-of c.args.tally.now.names recs are.names_are)));
}
