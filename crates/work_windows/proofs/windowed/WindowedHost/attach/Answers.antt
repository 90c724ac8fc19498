use Rattle.std.proofs.Common.{inl, inr, IsTrue, sym, ap, subst, ◌∙◌}
use Rattle.loom_host.specs.declared.outside.Role.{Role}
use Rattle.loom_host.specs.Outside.{RoleState, IsFresh, holds}
use Rattle.loom_host.specs.Work.{work_of}
use Rattle.loom_host.specs.declared.outside.Role.TheVariants.{Work}
use Rattle.work_windows.proofs.OverLaws.{over-is}
use Rattle.work_windows.proofs.HostLaws.{work-or, emptied, fresh-over, on-ok, same-told, told-same}
use Rattle.work_windows.proofs.RowLaws.{stands-current}
use Rattle.work_windows.specs.Windowed.{inside, contents_over}
use Rattle.work_windows.specs.Rows.{Stands}
use Rattle.work_windows.specs.Windows.{overlaid}
use Rattle.work_windows.specs.declared.windows.Windows.{Windows}
use Rattle.work_windows.proofs.windowed.WindowedHost.attach.Goals as goal

pub invariant_of-self : goal.invariant_of-self
invariant_of-self g c = record {
  current = λ told. elim (work-or c.args.role) [
    | inl here ↦ stands-current _ _ _ (c.began.ensures.stands (work_of g.H.Host c.attach-went.new.self) _ (λ went work. emptied c.attach-went.result c.is_ok.result (g.H.Host.roles c.attach-went.new.self c.args.role) (g.H.Host.roles c.attach-went.new.self Work) c.is_ok.ensures.value went (ap (g.H.Host.roles c.attach-went.new.self) work) (c.attach-went.ensures.fresh (subst (λ (r : Role). IsTrue (g.H.Host.tells r)) (sym work) told))) (c.attached.ensures.anew here (work_of g.H.Host c.attach-went.new.self)))
    | inr other ↦ stands-current _ _ _ (c.began.ensures.stands (work_of g.H.Host c.attach-went.new.self) (overlaid (work_of g.H.Host c.attach-went.new.self) c.args.self.now.windows.written.items.items c.args.self.now.windows.limit) (λ went work. absurd (other work)) (rw (c.attached.ensures.same other) (subst (λ (s : RoleState). Stands s.contents c.args.self.now.windows (overlaid s.contents c.args.self.now.windows.written.items.items c.args.self.now.windows.limit)) (sym (c.attach-went.ensures.others Work (λ e. other (sym e)))) (c.args.self.now.current told))))
  ];
}

pub returns-clause-fresh : goal.returns-clause-fresh
unfolding inside contents_over
returns-clause-fresh g c = λ told.
    let now = c.attached.new.self in
    let f = g.H.Host.roles c.attach-went.new.self in
    rw (c.began.ensures.written, c.began.ensures.limit) (on-ok {P = IsFresh (f c.args.role)} c.attach-went.result (fresh-over f now.written.items.items now.limit c.args.role (λ here. sym (over-is _ _ _ _ (c.attached.ensures.anew here (work_of g.H.Host c.attach-went.new.self)).over))) (c.attach-went.ensures.fresh told))

pub returns-clause-others : goal.returns-clause-others
unfolding inside contents_over
returns-clause-others g c = λ r other.
    let now = c.attached.new.self in
    let w = c.args.self.now in
    let f = g.H.Host.roles c.attach-went.new.self in
    let h = g.H.Host.roles w.inner in
    rw (c.began.ensures.written, c.began.ensures.limit) (told-same f h now.written.items.items w.windows.written.items.items now.limit w.windows.limit r
    (λ work.
    ap (λ (v : Windows). holds (overlaid (f Work).contents v.written.items.items v.limit) (f Work)) (c.attached.ensures.same (λ e. other (work ∙ sym e)))
    ∙ same-told (f Work) (h Work) w.windows.written.items.items w.windows.limit (c.attach-went.ensures.others Work (λ e. other (work ∙ e))))
    (λ away. c.attach-went.ensures.others r other))
