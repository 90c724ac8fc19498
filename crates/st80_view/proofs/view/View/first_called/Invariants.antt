use Rattle.std.proofs.Common.{◌≡◌, drop}
use Rattle.st80_view.specs.Names.{first_called}
use Rattle.st80_view.specs.Viewed.{recs_of}
use Rattle.st80_view.proofs.view.View.first_called.Given as goal

abbrev pub invariant-loop-rec : goal.invariant-loop-rec
invariant-loop-rec l = first_called (recs_of l.self) l.text l.recs ≡ first_called (recs_of l.self) l.text (drop l.rec-index l.recs)
