use Rattle.std.proofs.Common.{refl}
use Rattle.work_windows.proofs.BlankLaws.{unknown-may}
use Rattle.work_windows.proofs.blanks.Blanks.unknown.Goals as goal

pub returns : goal.returns
returns c = λ page. unknown-may _ page refl
