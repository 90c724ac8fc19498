use Rattle.std.proofs.Common.{◌≡◌, suc, ◌+◌, ◌-◌, refl, sym, ◌∙◌, arith}
use Rattle.contexts.proofs.ReadLaws.{exits_with}
use Rattle.process_sched.proofs.WakeLaws.{wake_none, wake_lost, wake_torn, wake_here, wake_on}
use Rattle.process_sched.proofs.scheduler.wake_among.Goals as goal

pub loop-turn-init : goal.loop-turn-init
loop-turn-init g c =
    let all : c.args.count - 0 ≡ c.args.count = omega arith in
    record {
      whole = λ cpu new answer s. (rw all at s);
      fit = record { sound = c.requires.fit.sound; ready = c.requires.fit.ready };
      lender = refl;
      outside = refl;
    }

pub loop-turn-preserved : goal.loop-turn-preserved
loop-turn-preserved g c =
    let here = c.loop-turn.invariant in
    let list = c.in_ok-field.ensures in
    let first = c.in_ok-field-2.ensures in
    let more : c.args.count - c.loop-turn.turn ≡ suc (c.args.count - 1 - c.loop-turn.turn) = omega (arith, c.loop-turn-test.true) in
    let next : c.args.count - (c.loop-turn.turn + 1) ≡ c.args.count - 1 - c.loop-turn.turn = omega arith in
    let lists = first.looks.regs 15 refl ∙ list.looks.regs 15 refl in
    record {
      whole = λ cpu new answer s. here.whole cpu new answer (wake_on _ _ _ _ _ _ more next (list.serves cpu) (first.serves cpu) (sym c.is.ensures ∙ c.if-not-is.false) (rw lists at s));
      fit = record { sound = first.fit.sound; ready = first.fit.ready };
      lender = first.fit.lender ∙ list.fit.lender ∙ here.lender;
      outside = first.fit.outside ∙ list.fit.outside ∙ here.outside;
    }

pub returns-in_err-field-clause-serves : goal.returns-in_err-field-clause-serves
returns-in_err-field-clause-serves g c = λ cpu.
    let here = c.loop-turn.invariant in
    let more : c.args.count - c.loop-turn.turn ≡ suc (c.args.count - 1 - c.loop-turn.turn) = omega (arith, c.loop-turn-test.true) in
    exits_with _ _ c.from_residual.ensures.1 (here.whole cpu _ _ (wake_lost _ _ _ more (c.in_err-field.ensures.serves cpu)))

pub returns-in_err-field-2-clause-serves : goal.returns-in_err-field-2-clause-serves
returns-in_err-field-2-clause-serves g c = λ cpu.
    let here = c.loop-turn.invariant in
    let more : c.args.count - c.loop-turn.turn ≡ suc (c.args.count - 1 - c.loop-turn.turn) = omega (arith, c.loop-turn-test.true) in
    exits_with _ _ c.from_residual-in_err-field-2.ensures.1 (here.whole cpu _ _ (wake_torn _ _ _ _ more (c.in_ok-field.ensures.serves cpu) (c.in_err-field-2.ensures.serves cpu)))

pub returns-then-not-is-clause-serves : goal.returns-then-not-is-clause-serves
returns-then-not-is-clause-serves g c = λ cpu.
    let here = c.loop-turn.invariant in
    let more : c.args.count - c.loop-turn.turn ≡ suc (c.args.count - 1 - c.loop-turn.turn) = omega (arith, c.loop-turn-test.true) in
    let list = c.in_ok-field-2.ensures.looks.regs 11 refl in
    here.whole cpu _ _ (wake_here _ _ _ _ _ more (c.in_ok-field.ensures.serves cpu) (c.in_ok-field-2.ensures.serves cpu) (sym c.is.ensures ∙ c.if-not-is.true) (rw list at c.take.ensures.serves cpu))

pub returns-clause-serves : goal.returns-clause-serves
returns-clause-serves g c = λ cpu.
    let here = c.loop-turn.invariant in
    let none : c.args.count - c.loop-turn.turn ≡ 0 = omega (arith, c.loop-turn-test.false) in
    here.whole cpu _ _ (wake_none _ _ none)
