use Rattle.std.proofs.Common.{◌≡◌, ◌+◌, ◌-◌, ◌%◌, length, subst, arith}
use Rattle.loom_host.specs.Bytes.{window}
use Rattle.work_windows.proofs.ListLaws.{at-shows}
use Rattle.work_windows.proofs.WindowLaws.{piece-shown}
use Rattle.work_windows.proofs.KeptLaws.{shown-place}
use Rattle.work_windows.proofs.row.Row.give.Goals as goal

pub returns : goal.returns
returns g c = λ all shows.
    let ws = c.args.self.now.items.items in
    let w = c.index-window.result.now in
    let place = c.args.place in
    let is = rw c.index_of.ensures at c.index-window.ensures in
    let shown = at-shows g.row.COUNT all ws _ w shows c.requires.shown.there is (place - place % 4096) (shown-place g.row.COUNT ws place w c.requires.shown is) in
    let begins : place - place % 4096 + place % 4096 ≡ place = omega arith in
    subst (λ p. c.copy_from_slice.new.self ≡ window all p (length c.args.buf.now)) begins
    (piece-shown all w.bytes c.copy_from_slice.new.self (place - place % 4096) (place % 4096) (length c.args.buf.now) shown.1 c.requires.within c.copy_from_slice.ensures.after)
