use Rattle.std.proofs.Common.{◌+◌, ◌∙◌, ap, Some, length}
use Rattle.std.proofs.lemmas.Bool.{iff_false}
use Rattle.work_windows.proofs.WindowLaws.{one-place, pages-apart, shows-apart, put-shows}
use Rattle.work_windows.proofs.window.Window.follow.Goals as goal

pub returns-then-is_at-clause-shows : goal.returns-then-is_at-clause-shows
returns-then-is_at-clause-shows c = λ count work i j page shows x at.
    let shown = shows x at in
    let here = one-place c.args.self.now.place x c.args.place at (c.is_at.ensures.0 c.if-is_at.true) in
    (shown.0, put-shows work c.args.self.now.bytes c.copy_from_slice.new.self c.args.place c.args.from x c.args.piece.now shown.1 c.copy_from_slice.ensures.after c.requires here)

pub returns-else-is_at-clause-shows : goal.returns-else-is_at-clause-shows
returns-else-is_at-clause-shows c = λ count work i j page shows.
    shows-apart count work j c.args.self.now (c.args.place + c.args.from) c.args.piece.now (λ own at.
    pages-apart own c.args.place c.args.from (length c.args.piece.now) (shows own at).0.0 page.0 c.requires (λ e. iff_false c.is_at.ensures c.if-is_at.false (at ∙ ap Some e))) shows
