use Rattle.std.proofs.Common.{refl, ap}
use Rattle.loom_host.specs.Outside.{RoleState}
use Rattle.loom_host.specs.Work.{work_of}
use Rattle.work_windows.proofs.BlankLaws.{blank-same, written-blank}
use Rattle.work_windows.proofs.OverLaws.{straight-over, over-moved}
use Rattle.work_windows.proofs.windows.Windows.write_through.Goals as goal

pub returns-clause-stands : goal.returns-clause-stands
returns-clause-stands g c = λ told all st.
    let w = c.args.self.now in
    let vs = c.follow.new.self.items.items in
    let there = straight-over (work_of g.H.Host c.args.host.now) all w.written.items.items vs w.limit c.args.place c.args.piece.now st.over (c.follow.ensures.shows all st.over.shows) c.follow.ensures.kept in
    record { over = over-moved _ _ _ vs w.limit w.limit there (ap (λ (s : RoleState). s.contents) (c.in_ok-write_at.ensures.contents told)) refl; read = c.follow-2.ensures.shows all st.read; blank = blank-same _ _ _ (ap (λ (s : RoleState). s.contents) (c.in_ok-write_at.ensures.contents told)) (written-blank _ c.args.place c.args.piece.now w.blanks c.note.new.self c.note.ensures.kept c.note.ensures.noted st.blank) }
