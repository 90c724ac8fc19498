use Rattle.image_reader.specs.Tally.{counted}
use Rattle.image_reader.proofs.TallyLaws.{beside-none, search-ends}
use Rattle.image_reader.proofs.tally.Tally.place.Goals as goal

pub returns-clause-none : goal.returns-clause-none
unfolding counted
returns-clause-none c =
    let t = c.args.self.now in
    let loop = c.loop-low in
    beside-none t.names t.counts.items c.args.word (search-ends t.names loop.low loop.high c.args.word c.loop-low-test.false loop.invariant.before loop.invariant.behind)
