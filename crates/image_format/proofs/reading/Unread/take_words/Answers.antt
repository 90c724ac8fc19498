use Rattle.std.proofs.lemmas.Result.{err_from_is_err_and}
use Rattle.std.specs.Int.{w16}
use Rattle.image_format.specs.Reading.{number_at, many_at}
use Rattle.image_format.proofs.Loop.{goes_on, ends, is_done}
use Rattle.image_format.proofs.reading.Unread.take_words.Goals as goal

pub returns-in_err-word : goal.returns-in_err-word
returns-in_err-word c =
    let p = err_from_is_err_and c.from_residual.result c.from_residual.ensures.1 in
    rw (p.1, p.2) (ends (number_at w16) c.in_err-word.field-0.0 c.loop.words c.args.count c.loop.counter c.loop.self.rest.now (many_at (number_at w16) c.args.count c.args.self.now.rest.now) c.loop-test.true c.in_err-word.ensures c.loop.invariant)

pub loop-preserved : goal.loop-preserved
loop-preserved c =
    rw c.in_ok-push.ensures.ok (goes_on (number_at w16) c.loop.words c.args.count c.loop.counter c.loop.self.rest.now c.in_ok-word.word c.take_u16.new.self.rest.now (many_at (number_at w16) c.args.count c.args.self.now.rest.now) c.loop-test.true c.in_ok-word.ensures c.loop.invariant)

pub returns : goal.returns
returns c = is_done (number_at w16) c.loop.words c.args.count c.loop.counter c.loop.self.rest.now (many_at (number_at w16) c.args.count c.args.self.now.rest.now) c.loop-test.false c.loop.invariant
