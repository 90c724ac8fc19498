use Rattle.loom_host.specs.Work.{work_of}
use Rattle.work_windows.proofs.RowLaws.{asked-stands}
use Rattle.work_windows.proofs.windows.Windows.write_within.Goals.{then-not-has+in_ok-turn, else-not-has}
use Rattle.work_windows.proofs.windows.Windows.write_within.Goals as goal

pub returns-clause-stands : goal.returns-clause-stands
returns-clause-stands g c = λ told all st.
    let asked = asked-stands (work_of g.H.Host c.args.host.now) all c.args.self.now c.reach.new.self st (c.reach.ensures.shows all st.over.shows) c.reach.ensures.kept in
    c.put.ensures (work_of g.H.Host c.if-not-has.host) all (elim c.if-not-has.branch [
      | then-not-has+in_ok-turn w ↦ rw (w.host-is, w.self-is) (w.in_ok-turn.ensures.stands told all asked)
      | else-not-has w ↦ rw (w.host-is, w.self-is) asked
    ])
