use Rattle.std.proofs.Common.{◌+◌, ◌^◌, inl, inr, take, arith}
use Rattle.loom_host.proofs.Windows.{below_or_past}
use Rattle.loom_host.specs.Bytes.{overwritten}
use Rattle.work_windows.proofs.ListLaws.{nothing-shows, next-show, whole-show, beyond-show}
use Rattle.work_windows.proofs.row.Row.follow.Goals as goal

pub loop-done-init : goal.loop-done-init
loop-done-init g c = (omega arith, λ work shows. nothing-shows g.row.COUNT work c.args.place c.args.piece.now c.args.self.now.items.items shows, λ k none. none)

pub loop-done-preserved : goal.loop-done-preserved
loop-done-preserved g c = (
  omega (arith, c.min.ensures, c.loop-done.invariant.0),
  λ work shows.
      let written = overwritten work c.args.place (take c.loop-done.done c.args.piece.now) in
      next-show g.row.COUNT work c.args.piece.now c.follow_within.new.self.items.items c.args.place c.loop-done.done c.min.result c.in-Some.at c.loop-done.invariant.0 c.in-Some.ensures.1 (c.follow_within.ensures.shows written (c.loop-done.invariant.1 work shows)),
  λ k none. c.loop-done.invariant.2 k (c.follow_within.ensures.kept k none),
)

pub returns : goal.returns
returns g c = record {
  shows = λ work shows. whole-show g.row.COUNT work c.args.piece.now c.loop-done.self.items.items c.args.place c.loop-done.done c.loop-done-test.false (c.loop-done.invariant.1 work shows);
  kept = c.loop-done.invariant.2;
}

pub returns-in_default-clause-shows : goal.returns-in_default-clause-shows
returns-in_default-clause-shows g c = λ all shows. beyond-show g.row.COUNT all c.args.piece.now c.loop-done.self.items.items c.args.place c.loop-done.done c.loop-done.invariant.0 (elim (below_or_past (c.args.place + c.loop-done.done) (2 ^ 64)) [ inl low ↦ absurd (c.in_default.ensures low) | inr high ↦ high ]) (c.loop-done.invariant.1 all shows)
