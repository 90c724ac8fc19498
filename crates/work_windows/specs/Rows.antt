-- Both rows of windows over Work.
use Rattle.std.specs.Prelude.{ℕ, List}
use Rattle.work_windows.specs.Blanks.{AreBlank}
use Rattle.work_windows.specs.Windows.{AllShow, Over}
use Rattle.work_windows.specs.declared.windows.TheConstants.{READ}
use Rattle.work_windows.specs.declared.windows.Windows.{Windows}

-- Where the host inside holds `work`, Work holds `all`: both rows show that, and the one of written pages keeps back what isn't inside. Pages
-- that were never written hold nothing inside.
pub record Stands (work : List ℕ) (w : Windows) (all : List ℕ) : Type 0 where
  pub over : Over work w.written.items.items w.limit all
  pub read : AllShow READ all w.read.items.items
  pub blank : AreBlank work w.blanks
