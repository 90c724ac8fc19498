use Rattle.std.proofs.Common.{length}
use Rattle.work_windows.proofs.RowLaws.{ok-parts}
use Rattle.work_windows.proofs.windows.Windows.read_over.Goals as goal

pub returns-clause-bytes : goal.returns-clause-bytes
returns-clause-bytes g c = λ told all st.
    let mid = c.in_ok-read_within.ensures.stands told all st in
    ok-parts c.read_within-2.result all c.args.place c.args.room (length c.args.buf.now) _ _ c.read_within.new.buf c.read_within-2.new.buf (c.in_ok-read_within.ensures.bytes told all st) c.split_at_mut-front.ensures.front_len c.split_at_mut-front.ensures.back_len (c.read_within-2.ensures.bytes told all mid)
