use Rattle.std.proofs.Common.{refl}
use Rattle.work_directory.proofs.PieceLaws.{empty-piece}
use Rattle.work_directory.proofs.piece.Piece.new.Goals as goal

pub returns : goal.returns
returns c = λ work. empty-piece work _ refl
