use Rattle.std.proofs.Common.{◌≡◌, ◌+◌, ◌∙◌, refl, arith}
use Rattle.contexts.proofs.ServesLaws.{exits}
use Rattle.contexts.proofs.Steps.{each_none, each_more, each_stop}
use Rattle.send_lookup.proofs.activation.pass_all.Goals as goal

pub loop-k-init : goal.loop-k-init
loop-k-init g c = record {
  passed = each_none _ c.requires.fit.ready;
  regs = λ r apart. refl;
  fit = record { sound = c.requires.fit.sound; ready = c.requires.fit.ready };
  lender = refl;
  outside = refl;
}

pub returns-in_err-pass-clause-serves : goal.returns-in_err-pass-clause-serves
returns-in_err-pass-clause-serves g c =
    let here = c.loop-k.invariant in
    let context = here.regs 16 (λ e. absurd (omega arith)) in
    exits _ c.from_residual.ensures.1 (each_stop _ (c.loop-k.k + 1) (c.args.n + 1) (omega (arith, c.loop-k-test.true)) (each_more _ c.loop-k.k here.passed (rw context at c.in_err-pass.ensures.serves)))

pub loop-k-preserved : goal.loop-k-preserved
loop-k-preserved g c =
    let here = c.loop-k.invariant in
    let passed = c.in_ok-pass.ensures in
    let context = here.regs 16 (λ e. absurd (omega arith)) in
    record {
      passed = each_more _ c.loop-k.k here.passed (rw context at passed.serves);
      regs = λ r apart. passed.regs r apart ∙ here.regs r apart;
      fit = record { sound = passed.fit.sound; ready = passed.fit.ready };
      lender = passed.fit.lender ∙ here.lender;
      outside = passed.fit.outside ∙ here.outside;
    }

pub returns-clause-serves : goal.returns-clause-serves
returns-clause-serves g c =
    let here = c.loop-k.invariant in
    let all : c.loop-k.k ≡ c.args.n + 1 = omega (arith, c.loop-k-test.false, c.loop-k.auto.k-end) in
    rw all at here.passed
