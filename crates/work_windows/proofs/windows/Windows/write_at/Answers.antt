use Rattle.std.proofs.Common.{◌≤◌, ◌-◌, ◌%◌, length, arith}
use Rattle.work_windows.proofs.RowLaws.{two-parts, ok-stands}
use Rattle.work_windows.proofs.windows.Windows.write_at.Goals as goal

pub returns-clause-stands : goal.returns-clause-stands
returns-clause-stands g c = λ told all st.
    let room = 4096 - c.args.place % 4096 in
    let fits : room ≤ length c.args.piece.now = omega (arith, c.if-n-room.false) in
    let first = c.in_ok-write_within.ensures.stands told all st in
    ok-stands c.write_within-3.result _ _ _ _ (two-parts all c.args.place room c.args.piece.now fits) (c.write_within-3.ensures.stands told _ first)
