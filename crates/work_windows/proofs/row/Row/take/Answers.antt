use Rattle.std.proofs.Common.{sym, subst, ◌∙◌, ◌<◌, length}
use Rattle.work_windows.proofs.KeptLaws.{unread-place, shown-place, set-shown, turned-kept}
use Rattle.work_windows.proofs.ListLaws.{taken-show}
use Rattle.work_windows.proofs.WindowLaws.{page-of}
use Rattle.work_windows.proofs.row.Row.take.Goals as goal

pub returns : goal.returns
returns g c =
    let ws = c.args.self.now.items.items in
    let vs = c.args.other.now.items.items in
    let i = c.index_of-index.result in
    let v = c.take.new.self in
    let w = c.index_mut.result.now in
    let o = c.index.result.now in
    let below : i < length ws = subst (λ n. n < length ws) (sym c.index_of-index.ensures) c.requires.there in
    let at = rw c.index_of.ensures at c.index.ensures in
    let place = shown-place g.row.OTHER vs c.args.place o c.requires.from at in
    record {
      shown = set-shown g.row.COUNT ws i c.args.place v below c.index_of-index.ensures (c.take.ensures.place ∙ place);
      shows = λ all from shows. taken-show g.row.COUNT g.row.OTHER all ws vs i _ _ o v shows from (page-of g.row.COUNT c.args.place i c.index_of-index.ensures c.ranges.place.fits) c.requires.from.there at place c.take.ensures.place c.take.ensures.bytes;
      kept = λ unread k none. turned-kept g.row.COUNT ws i w v below c.index_mut.ensures.value (unread-place ws _ w unread (rw c.index_of-index.ensures at c.index_mut.ensures.value)) k none;
    }
