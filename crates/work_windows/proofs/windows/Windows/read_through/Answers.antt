use Rattle.std.proofs.Common.{◌≡◌, ◌∙◌, ap, sym, length}
use Rattle.loom_host.specs.Bytes.{window}
use Rattle.loom_host.specs.Work.{work_of}
use Rattle.loom_host.proofs.Windows.{length-window}
use Rattle.work_windows.proofs.windows.Windows.read_through.Goals as goal

pub returns-clause-bytes : goal.returns-clause-bytes
returns-clause-bytes g c = λ told all st.
    let n = length c.args.buf.now in
    let work = work_of g.H.Host c.args.host.now in
    let was = c.in_ok-read_at.ensures.bytes told in
    let long : length c.read_at.new.buf ≡ n = ap length was ∙ length-window work c.args.place n in
    c.cover.ensures work all st.over (was ∙ ap (window work c.args.place) (sym long)) ∙ ap (window all c.args.place) long
