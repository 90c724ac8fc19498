use Rattle.std.proofs.Common.{Ok, sym, subst, ◌<◌, length, []}
use Rattle.work_windows.proofs.KeptLaws.{unread-place, set-shown, turned-kept}
use Rattle.work_windows.proofs.ListLaws.{turned-show}
use Rattle.work_windows.proofs.WindowLaws.{page-of}
use Rattle.work_windows.proofs.row.Row.blank.Goals as goal

pub returns : goal.returns
returns g c =
    let ws = c.args.self.now.items.items in
    let i = c.index_of-index.result in
    let v = c.blank.new.self in
    let w = c.index_mut.result.now in
    let below : i < length ws = subst (λ n. n < length ws) (sym c.index_of-index.ensures) c.requires.there in
    record {
      shown = set-shown g.row.COUNT ws i c.args.place v below c.index_of-index.ensures c.blank.ensures.place;
      shows = λ all same shows. turned-show {T = Unit {0}} {E = Unit {0}} (Ok tt) g.row.COUNT [] all ws i _ v shows (page-of g.row.COUNT c.args.place i c.index_of-index.ensures c.ranges.place.fits) c.blank.ensures.place tt c.blank.ensures.bytes same;
      kept = λ unread k none. turned-kept g.row.COUNT ws i w v below c.index_mut.ensures.value (unread-place ws _ w unread (rw c.index_of-index.ensures at c.index_mut.ensures.value)) k none;
    }
