use Rattle.std.proofs.Common.{◌≡◌, ◌+◌, ◌∙◌, Ok, Err, refl, arith}
use Rattle.contexts.proofs.ServesLaws.{exits}
use Rattle.contexts.proofs.Steps.{each_none, each_more, each_stop}
use Rattle.send_lookup.proofs.MessageLaws.{unequal}
use Rattle.prims_control.proofs.values.pass_arguments.Goals as goal

pub loop-k-init : goal.loop-k-init
loop-k-init g c = record {
  serves = each_none _ c.requires.fit.ready;
  regs = λ r off. refl;
  fit = record { sound = c.requires.fit.sound; ready = c.requires.fit.ready };
  lender = refl;
  outside = refl;
}

pub loop-k-preserved : goal.loop-k-preserved
loop-k-preserved g c =
    let here = c.loop-k.invariant in
    let block = here.regs 10 (unequal 10 19 refl) in
    let passed = c.in_ok-pass_argument.ensures in
    record {
      serves = each_more _ c.loop-k.k {answer = Ok tt} here.serves (rw (block) at (c.in_ok-pass_argument.ensures.serves));
      regs = λ r off. passed.regs r off ∙ here.regs r off;
      fit = record { sound = passed.fit.sound; ready = passed.fit.ready };
      lender = passed.fit.lender ∙ here.lender;
      outside = passed.fit.outside ∙ here.outside;
    }

pub returns-in_err-pass_argument-clause-serves : goal.returns-in_err-pass_argument-clause-serves
returns-in_err-pass_argument-clause-serves g c =
    let here = c.loop-k.invariant in
    let block = here.regs 10 (unequal 10 19 refl) in
    exits _ c.from_residual.ensures.1
    (each_stop _ (c.loop-k.k + 1) c.args.n (omega (arith, c.loop-k-test.true)) (each_more _ c.loop-k.k {answer = Err _} here.serves (rw (block) at (c.in_err-pass_argument.ensures.serves))))

pub returns-clause-serves : goal.returns-clause-serves
returns-clause-serves g c =
    let here = c.loop-k.invariant in
    let all : c.loop-k.k ≡ c.args.n = omega (arith, c.loop-k-test.false, c.loop-k.auto.k-end) in
    rw all at here.serves
