use Rattle.std.proofs.Common.{refl, sym, ◌∙◌}
use Rattle.loom_host.specs.Work.{work_of}
use Rattle.loom_host.proofs.WorkLaws.{work-same}
use Rattle.work_windows.proofs.KeptLaws.{unread-away}
use Rattle.work_windows.proofs.BlankLaws.{blank-same, blank-page}
use Rattle.work_windows.proofs.OverLaws.{over-kept, over-moved, page-inside}
use Rattle.work_windows.proofs.RowLaws.{ok-always, read-as}
use Rattle.work_windows.specs.declared.windows.TheConstants.{WRITTEN}
use Rattle.work_windows.proofs.windows.Windows.turn.Goals as goal

pub returns-clause-stands : goal.returns-clause-stands
returns-clause-stands g c = λ told all st.
    let work = work_of g.H.Host c.save.new.host in
    let w = c.save.new.self in
    let ws = w.written.items.items in
    let vs = c.fetch.new.self.items.items in
    let saved = c.in_ok-save.ensures.over told all st.over in
    let same = page-inside work all ws w.limit c.args.place saved (unread-away WRITTEN ws c.args.place c.in_ok-save.ensures.unread) in
    let shows = c.fetch.ensures.shows told all same saved.shows in
    let over = over-kept work all ws vs w.limit saved shows (c.fetch.ensures.kept c.in_ok-save.ensures.unread) in
    ok-always c.fetch.result (record { over = over-moved work _ all vs w.limit w.limit over (work-same g.H.Host _ _ c.fetch.ensures.read) refl; read = read-as all _ _ c.in_ok-save.ensures.read st.read; blank = blank-same work _ w.blanks (work-same g.H.Host _ _ c.fetch.ensures.read) (c.in_ok-save.ensures.blank told st.blank) })

pub returns-then-has-2-clause-stands : goal.returns-then-has-2-clause-stands
returns-then-has-2-clause-stands g c = λ told all st.
    let work = work_of g.H.Host c.save.new.host in
    let w = c.save.new.self in
    let ws = w.written.items.items in
    let vs = c.blank.new.self.items.items in
    let saved = c.in_ok-save.ensures.over told all st.over in
    let still = c.in_ok-save.ensures.blank told st.blank in
    let same = blank-page work w.blanks c.args.place still (sym c.has-2.ensures ∙ c.if-has-2.true) ∙ page-inside work all ws w.limit c.args.place saved (unread-away WRITTEN ws c.args.place c.in_ok-save.ensures.unread) in
    record { over = over-kept work all ws vs w.limit saved (c.blank.ensures.shows all same saved.shows) (c.blank.ensures.kept c.in_ok-save.ensures.unread); read = read-as all _ _ c.in_ok-save.ensures.read st.read; blank = still }
