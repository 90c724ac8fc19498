use Rattle.contexts.proofs.TrialLaws.{failed_serves}
use Rattle.large_ints.proofs.TableLaws.{tabled, with_one, with_others}
use Rattle.large_ints.proofs.primitives.run.Goals as goal

pub returns-in_default-clause-serves : goal.returns-in_default-clause-serves
returns-in_default-clause-serves g c = tabled c.in_default.ensures (failed_serves c.requires.fit.ready)

pub returns-then-cpu-ne1-clause-serves : goal.returns-then-cpu-ne1-clause-serves
returns-then-cpu-ne1-clause-serves g c = tabled c.in-Some.ensures (with_others _ _ c.if-cpu-ne1.true c.requires.fit.ready)

pub returns-in-Number-clause-serves : goal.returns-in-Number-clause-serves
returns-in-Number-clause-serves g c = tabled (rw c.in-Number.is at c.in-Some.ensures) (with_one _ _ c.if-cpu-ne1.false c.arithmetic.ensures.serves)

pub returns-in-Truth-clause-serves : goal.returns-in-Truth-clause-serves
returns-in-Truth-clause-serves g c = tabled (rw c.in-Truth.is at c.in-Some.ensures) (with_one _ _ c.if-cpu-ne1.false c.comparison.ensures.serves)

pub returns-in-Shift-clause-serves : goal.returns-in-Shift-clause-serves
returns-in-Shift-clause-serves g c = tabled (rw c.in-Shift.is at c.in-Some.ensures) (with_one _ _ c.if-cpu-ne1.false c.shift.ensures.serves)
