use Rattle.std.proofs.Common.{◌∙◌, ap}
use Rattle.std.specs.Vec.Iter.{into_iter_items, into_iter_len}
use Rattle.std.proofs.lemmas.Iterator.{items_from_collect}
use Rattle.std.proofs.lemmas.Iterator.Adapters.{YieldsList-from_skip, YieldsList-from_vec}
use Rattle.loom_cli.proofs.words_of.Goals as goal

pub returns-in-Ok-clause-words : goal.returns-in-Ok-clause-words
returns-in-Ok-clause-words c =
    let source = c.skip.ensures.source in
    let words = YieldsList-from_vec (into_iter_items c.in-Ok.args) (ap into_iter_items source) (ap into_iter_len source ∙ c.in-Ok.args.rest.ok.0) in
    rw c.in-Ok.is (items_from_collect _ c.collect.ensures.ran (YieldsList-from_skip 1 words c.skip.ensures.count))
