use Rattle.std.proofs.Common.{sym, subst, ◌<◌, length}
use Rattle.loom_host.specs.Work.{work_of}
use Rattle.work_windows.proofs.KeptLaws.{unread-place, turned-kept, fetched-shown}
use Rattle.work_windows.proofs.ListLaws.{turned-show}
use Rattle.work_windows.proofs.WindowLaws.{page-of}
use Rattle.work_windows.proofs.row.Row.fetch.Goals as goal

pub returns-clause-shown : goal.returns-clause-shown
returns-clause-shown g c = fetched-shown g.row.COUNT c.fetch.result c.args.self.now.items.items c.index_of-index.result c.args.place c.fetch.new.self c.requires.there c.index_of-index.ensures c.fetch.ensures.place

pub returns-clause-shows : goal.returns-clause-shows
returns-clause-shows g c = λ told all same shows.
    turned-show c.fetch.result g.row.COUNT (work_of g.H.Host c.args.host.now) all c.args.self.now.items.items c.index_of-index.result _ c.fetch.new.self shows (page-of g.row.COUNT c.args.place c.index_of-index.result c.index_of-index.ensures c.ranges.place.fits) c.fetch.ensures.place c.fetch.ensures.none (c.fetch.ensures.bytes told) same

pub returns-clause-kept : goal.returns-clause-kept
returns-clause-kept g c = λ unread k none.
    let ws = c.args.self.now.items.items in
    let i = c.index_of-index.result in
    let w = c.index_mut.result.now in
    let below : i < length ws = subst (λ n. n < length ws) (sym c.index_of-index.ensures) c.requires.there in
    turned-kept g.row.COUNT ws i w c.fetch.new.self below c.index_mut.ensures.value (unread-place ws _ w unread (rw c.index_of-index.ensures at c.index_mut.ensures.value)) k none
