use Rattle.std.proofs.Common.{◌<◌, length, refl, sym, arith}
use Rattle.std.proofs.lemmas.Option.{slice_get_read, slice_get_within}
use Rattle.image_reader.specs.Tally.{counted}
use Rattle.image_reader.proofs.TallyLaws.{beside-here}
use Rattle.image_reader.proofs.tally.Tally.count.Goals as goal

pub returns : goal.returns
unfolding counted
returns c =
    let t = c.args.self.now in
    let i = c.in_ok-i.i in
    let there = c.in_ok-i.ensures.there in
    let low : i < length t.counts.items = omega (arith, slice_get_within t.names i c.args.word there, t.beside) in
    let at = slice_get_read t.counts.items (length t.counts.items) i c.index.result.now refl low c.index.ensures in
    sym (beside-here t.names t.counts.items i c.args.word c.index.result.now t.rising there at)
