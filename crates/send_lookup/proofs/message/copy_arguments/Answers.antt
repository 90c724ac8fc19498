use Rattle.std.proofs.Common.{◌+◌, refl, ◌∙◌, arith}
use Rattle.contexts.proofs.ServesLaws.{exits}
use Rattle.contexts.proofs.Steps.{each_none, each_more, each_stop}
use Rattle.send_lookup.proofs.MessageLaws.{unequal}
use Rattle.send_lookup.proofs.message.copy_arguments.Goals as goal

pub loop-i-init : goal.loop-i-init
loop-i-init g c = record {
  serves = each_none _ c.requires.fit.ready;
  regs = λ r apart. refl;
  fit = record { sound = c.requires.fit.sound; ready = c.requires.fit.ready };
  lender = refl;
  outside = refl;
}

pub loop-i-preserved : goal.loop-i-preserved
loop-i-preserved g c =
    let here = c.loop-i.invariant in
    let copied = c.in_ok-copy_argument.ensures in
    let array = here.regs 16 (unequal 16 17 refl) in
    record {
      serves = each_more _ c.loop-i.i here.serves (rw array at copied.serves);
      regs = λ r apart. copied.regs r apart ∙ here.regs r apart;
      fit = record { sound = copied.fit.sound; ready = copied.fit.ready };
      lender = copied.fit.lender ∙ here.lender;
      outside = copied.fit.outside ∙ here.outside;
    }

pub returns-in_err-copy_argument-clause-serves : goal.returns-in_err-copy_argument-clause-serves
returns-in_err-copy_argument-clause-serves g c =
    let here = c.loop-i.invariant in
    let array = here.regs 16 (unequal 16 17 refl) in
    exits _ c.from_residual.ensures.1
    (each_stop _ (c.loop-i.i + 1) c.args.n (omega (arith, c.loop-i-test.true)) (each_more _ c.loop-i.i here.serves (rw array at c.in_err-copy_argument.ensures.serves)))
