use Rattle.std.proofs.Common.{◌≡◌, ◌+◌, ◌<◌, ◌∙◌, Ok, Err, refl, sym, ap, subst, length, arith}
use Rattle.contexts.proofs.ServesLaws.{exits}
use Rattle.contexts.proofs.Steps.{each_none, each_more, each_stop}
use Rattle.blue_model.specs.LargeInts.{put_bytes, fewest_bytes}
use Rattle.large_ints.proofs.AnswerLaws.{left_first, left_next, left_none, next_byte, next_low, has_size}
use Rattle.large_ints.proofs.answers.put_bytes.Goals as goal

pub loop-rest-init : goal.loop-rest-init
loop-rest-init g c = record {
  serves = λ cpu. each_none _ c.requires.fit.ready;
  regs = refl;
  there = c.requires.there;
  left = left_first c.args.n c.ranges.n.fits;
  fit = record { sound = c.requires.fit.sound; ready = c.requires.fit.ready };
  lender = refl;
  outside = refl;
}

pub put_byte-requires-clause-there : goal.put_byte-requires-clause-there
put_byte-requires-clause-there g c =
    let here = c.loop-rest.invariant in
    let low = next_low c.args.n c.loop-rest.i c.loop-rest.rest c.loop-rest-test.true here.left in
    has_size (λ k. k ≡ length (fewest_bytes c.args.n)) (λ k. c.loop-rest.i < k) (λ k same. subst (λ j. c.loop-rest.i < j) (sym same) low) here.there

pub loop-rest-preserved : goal.loop-rest-preserved
loop-rest-preserved g c =
    let here = c.loop-rest.invariant in
    let object = ap (λ f. f 12) here.regs in
    let byte = next_byte c.args.n c.loop-rest.i c.loop-rest.rest c.loop-rest-test.true here.left in
    let put = c.in_ok-put_byte.ensures in
    record {
      serves = λ cpu. each_more _ c.loop-rest.i {answer = Ok tt} (here.serves cpu) (rw (object, sym byte) at (put.serves cpu));
      regs = put.regs ∙ here.regs;
      there = put.size _ here.there;
      left = left_next c.args.n c.loop-rest.i c.loop-rest.rest c.loop-rest-test.true here.left;
      fit = record { sound = put.fit.sound; ready = put.fit.ready };
      lender = put.fit.lender ∙ here.lender;
      outside = put.fit.outside ∙ here.outside;
    }

pub returns-in_err-put_byte-clause-serves : goal.returns-in_err-put_byte-clause-serves
unfolding put_bytes
returns-in_err-put_byte-clause-serves g c = λ cpu.
    let here = c.loop-rest.invariant in
    let object = ap (λ f. f 12) here.regs in
    let byte = next_byte c.args.n c.loop-rest.i c.loop-rest.rest c.loop-rest-test.true here.left in
    let low = next_low c.args.n c.loop-rest.i c.loop-rest.rest c.loop-rest-test.true here.left in
    exits _ c.from_residual.ensures.1
    (each_stop _ (c.loop-rest.i + 1) (length (fewest_bytes c.args.n)) (omega arith) (each_more _ c.loop-rest.i {answer = Err _} (here.serves cpu) (rw (object, sym byte) at (c.in_err-put_byte.ensures.serves cpu))))

pub returns-clause-serves : goal.returns-clause-serves
unfolding put_bytes
returns-clause-serves g c = λ cpu.
    let here = c.loop-rest.invariant in
    rw (left_none c.args.n c.loop-rest.i c.loop-rest.rest (omega (arith, c.loop-rest-test.false)) here.left) at (here.serves cpu)
