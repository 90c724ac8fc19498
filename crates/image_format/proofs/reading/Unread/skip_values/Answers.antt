use Rattle.std.proofs.Common.{[], ◌∷◌, ◌++◌}
use Rattle.std.proofs.lemmas.Result.{err_from_is_err_and}
use Rattle.image_format.specs.Reading.{value_at, many_at}
use Rattle.image_format.proofs.Loop.{goes_on, ends, is_done}
use Rattle.image_format.proofs.reading.Unread.skip_values.Goals as goal

pub returns-in_err-take_value : goal.returns-in_err-take_value
returns-in_err-take_value c =
    let p = err_from_is_err_and c.from_residual.result c.from_residual.ensures.1 in
    rw (p.1, p.2) (ends value_at c.in_err-take_value.field-0.0 c.loop.invariant.0 c.args.count c.loop.counter c.loop.self.rest.now (many_at value_at c.args.count c.args.self.now.rest.now) c.loop-test.true c.in_err-take_value.ensures c.loop.invariant.1)

pub loop-preserved : goal.loop-preserved
loop-preserved c = (
  c.loop.invariant.0 ++ c.in_ok-take_value.field-0 ∷ [],
  goes_on value_at c.loop.invariant.0 c.args.count c.loop.counter c.loop.self.rest.now c.in_ok-take_value.field-0 c.take_value.new.self.rest.now (many_at value_at c.args.count c.args.self.now.rest.now) c.loop-test.true c.in_ok-take_value.ensures c.loop.invariant.1,
)

pub returns : goal.returns
returns c = (c.loop.invariant.0, is_done value_at c.loop.invariant.0 c.args.count c.loop.counter c.loop.self.rest.now (many_at value_at c.args.count c.args.self.now.rest.now) c.loop-test.false c.loop.invariant.1)
