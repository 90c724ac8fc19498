use Rattle.std.proofs.Common.{◌+◌}
use Rattle.checkpoint.specs.History.{IsItsImage}
use Rattle.checkpoint.specs.Keeping.{serial_of}
use Rattle.checkpoint.proofs.HistoryLaws.{keeps-more, keeps-refused, keeps-still}
use Rattle.checkpoint.proofs.laws.each_keep_goes_on_with_what_was_kept.Goals as goal

pub returns-clause-begins : goal.returns-clause-begins
returns-clause-begins c told image s last is = keeps-still s last (IsItsImage told image) is

pub returns-clause-answered : goal.returns-clause-answered
returns-clause-answered c told image old mid new last point keeps was extends stops is up =
    keeps-more old mid new last point (IsItsImage told image) (IsItsImage told image (serial_of last + 1)) keeps was extends stops is up (λ text given. given)

pub returns-clause-refused : goal.returns-clause-refused
returns-clause-refused c told image old mid new last keeps was extends stops =
    keeps-refused old mid new last (IsItsImage told image) (IsItsImage told image (serial_of last + 1)) keeps was extends stops (λ text given. given)
