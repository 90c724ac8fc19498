use Rattle.std.proofs.Common.{refl}
use Rattle.loom_host.specs.Work.{work_of}
use Rattle.loom_host.proofs.WorkLaws.{work-same}
use Rattle.work_windows.proofs.BlankLaws.{blank-same}
use Rattle.work_windows.proofs.OverLaws.{page-inside, over-moved}
use Rattle.work_windows.proofs.windows.Windows.shows.Goals as goal

pub returns-in_err-fetch-clause-stands : goal.returns-in_err-fetch-clause-stands
returns-in_err-fetch-clause-stands g c = λ told all st.
    let w = c.args.self.now in
    let same = page-inside (work_of g.H.Host c.args.host.now) all w.written.items.items w.limit c.args.place st.over c.requires in
    record { over = over-moved _ _ all w.written.items.items w.limit w.limit st.over (work-same g.H.Host _ _ c.in_err-fetch.ensures.read) refl; read = c.in_err-fetch.ensures.shows told all same (c.reach.ensures.shows all st.read); blank = blank-same _ _ w.blanks (work-same g.H.Host _ _ c.in_err-fetch.ensures.read) st.blank }

pub returns-clause-stands : goal.returns-clause-stands
returns-clause-stands g c = λ told all st.
    let w = c.args.self.now in
    let same = page-inside (work_of g.H.Host c.args.host.now) all w.written.items.items w.limit c.args.place st.over c.requires in
    record { over = over-moved _ _ all w.written.items.items w.limit w.limit st.over (work-same g.H.Host _ _ c.in_ok-fetch.ensures.read) refl; read = c.in_ok-fetch.ensures.shows told all same (c.reach.ensures.shows all st.read); blank = blank-same _ _ w.blanks (work-same g.H.Host _ _ c.in_ok-fetch.ensures.read) st.blank }
