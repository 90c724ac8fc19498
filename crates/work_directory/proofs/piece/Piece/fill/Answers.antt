use Rattle.std.proofs.Common.{◌≡◌, length, refl, rules, arith}
use Rattle.loom_host.specs.Work.{work_of}
use Rattle.work_directory.proofs.PieceLaws.{empty-piece, filled-piece}
use Rattle.work_directory.proofs.piece.Piece.fill.Goals as goal

pub returns-in-Ok-clause-piece : goal.returns-in-Ok-clause-piece
returns-in-Ok-clause-piece g c told =
    let size : length c.args.self.now.bytes ≡ 4080 = search rules in
    filled-piece (work_of g.H.Host c.args.host.now) _ c.place_of.result refl (omega arith) c.place_of.ensures (rw size at c.in-Ok.ensures.bytes told)

pub returns-in-Err-clause-piece : goal.returns-in-Err-clause-piece
returns-in-Err-clause-piece g c told = empty-piece (work_of g.H.Host c.args.host.now) _ refl
