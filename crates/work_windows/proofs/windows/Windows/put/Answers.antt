use Rattle.std.proofs.Common.{subst, sym}
use Rattle.loom_host.specs.Bytes.{overwritten}
use Rattle.work_windows.proofs.OverLaws.{put-over}
use Rattle.work_windows.specs.Windows.{Over}
use Rattle.work_windows.proofs.windows.Windows.put.Goals as goal

pub returns : goal.returns
returns c = λ work all st.
    let w = c.args.self.now in
    let vs = c.follow_within.new.self.items.items in
    record {
      over = subst (λ n. Over work vs n (overwritten all c.args.place c.args.piece.now)) (sym c.max-self.ensures) (put-over work all w.written.items.items vs w.limit c.args.place c.args.piece.now st.over (c.follow_within.ensures.shows all st.over.shows) c.follow_within.ensures.kept (c.follow_within.ensures.shown c.requires.shown) c.requires.within);
      read = c.follow_within-2.ensures.shows all st.read;
      blank = st.blank;
    }
