use Rattle.std.proofs.Common.{length, ◌∙◌}
use Rattle.std.proofs.lemmas.Bool.{iff_false}
use Rattle.work_windows.proofs.OverLaws.{away-inside}
use Rattle.work_windows.proofs.windows.Windows.cover_within.Goals as goal

pub returns-then-has : goal.returns-then-has
returns-then-has c = λ work all over is. c.give.ensures all over.shows

pub returns-else-has : goal.returns-else-has
returns-else-has c = λ work all over is.
    is ∙ away-inside work all c.args.self.now.written.items.items c.args.self.now.limit c.args.place (length c.args.buf.now) over (iff_false c.has.ensures c.if-has.false) c.requires
