use Rattle.std.proofs.Common.{sym, ◌∙◌}
use Rattle.blue_model.specs.Devices.{events_due}
use Rattle.contexts.proofs.ServesLaws.{serves_then, serves_exit}
use Rattle.contexts.proofs.Steps.{numbers_then}
use Rattle.devices.proofs.DueLaws.{lines_none, lines_more}
use Rattle.devices.proofs.events.events_due.Goals as goal

pub lines-preserved : goal.lines-preserved
lines-preserved g c =
    let here = c.lines.invariant in
    let due = c.lines-test.true in
    let taken = c.in_ok-take_line.ensures in
    record {
      whole = λ new now answer s. here.whole new now answer (lines_more _ _ _ _ c.item.ensures (sym c.is_due.ensures.due ∙ due) (c.is_due.ensures.there due) (serves_then _ taken.serves s));
      fit = record { sound = taken.fit.sound; ready = taken.fit.ready };
      lender = taken.fit.lender ∙ here.lender;
      outside = taken.fit.outside ∙ here.outside;
    }

pub returns-in_err-take_line-clause-serves : goal.returns-in_err-take_line-clause-serves
unfolding events_due
returns-in_err-take_line-clause-serves g c =
    let here = c.lines.invariant in
    let due = c.lines-test.true in
    numbers_then _ (here.whole _ _ _ (lines_more _ _ _ _ c.item.ensures (sym c.is_due.ensures.due ∙ due) (c.is_due.ensures.there due)
    (serves_exit _ _ c.in_err-take_line.ensures.serves c.from_residual.ensures.1)))

pub returns-clause-serves : goal.returns-clause-serves
unfolding events_due
returns-clause-serves g c =
    let here = c.lines.invariant in
    numbers_then _ (here.whole _ _ _ (lines_none c.args.cpu.now.ran c.lines.place c.args.events.now here.fit.ready (sym c.is_due.ensures.due ∙ c.lines-test.false)))
