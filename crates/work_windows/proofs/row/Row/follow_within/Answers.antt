use Rattle.std.proofs.Common.{◌∙◌, ◌+◌, ◌-◌, ◌%◌, ◌≡◌, subst, arith}
use Rattle.loom_host.specs.Bytes.{overwritten}
use Rattle.work_windows.proofs.WindowLaws.{page-of}
use Rattle.work_windows.proofs.ListLaws.{at-shows, followed-show, unfollowed-show}
use Rattle.work_windows.proofs.KeptLaws.{followed-kept, shown-place, set-shown}
use Rattle.work_windows.specs.Windows.{Shows}
use Rattle.work_windows.proofs.row.Row.follow_within.Goals as goal

pub returns-then-index-len-clause-shows : goal.returns-then-index-len-clause-shows
returns-then-index-len-clause-shows g c = λ work shows.
    let i = c.index_of-index.result in
    let place = c.args.place in
    let was : Shows g.row.COUNT work i c.index_mut.result.now = at-shows g.row.COUNT work c.args.self.now.items.items i c.index_mut.result.now shows (omega (arith, c.if-index-len.true, c.len.ensures)) c.index_mut.ensures.value in
    let shown = c.follow.ensures.shows g.row.COUNT work i i (page-of g.row.COUNT place i c.index_of-index.ensures c.ranges.place.fits) was in
    let begins : place - place % 4096 + place % 4096 ≡ place = omega arith in
    followed-show g.row.COUNT work place c.args.piece.now c.args.self.now.items.items i c.follow.new.self c.requires.within c.index_of-index.ensures shows (subst (λ p. Shows g.row.COUNT (overwritten work p c.args.piece.now) i c.follow.new.self) begins shown)

pub returns-else-index-len-clause-shows : goal.returns-else-index-len-clause-shows
returns-else-index-len-clause-shows g c = λ work shows. unfollowed-show g.row.COUNT work c.args.place c.args.piece.now c.args.self.now.items.items c.requires.within (omega (arith, c.if-index-len.false, c.len.ensures, c.index_of-index.ensures)) shows

pub returns-then-index-len-clause-kept : goal.returns-then-index-len-clause-kept
returns-then-index-len-clause-kept g c = λ k none.
    followed-kept g.row.COUNT c.args.self.now.items.items c.index_of-index.result c.index_mut.result.now c.follow.new.self (omega (arith, c.if-index-len.true, c.len.ensures)) c.index_mut.ensures.value c.follow.ensures.place k none

pub returns-then-index-len-clause-shown : goal.returns-then-index-len-clause-shown
returns-then-index-len-clause-shown g c = λ is.
    let i = c.index_of-index.result in
    let w = c.index_mut.result.now in
    let at = rw c.index_of-index.ensures at c.index_mut.ensures.value in
    set-shown g.row.COUNT c.args.self.now.items.items i c.args.place c.follow.new.self (omega (arith, c.if-index-len.true, c.len.ensures)) c.index_of-index.ensures (c.follow.ensures.place ∙ shown-place g.row.COUNT c.args.self.now.items.items c.args.place w is at)
