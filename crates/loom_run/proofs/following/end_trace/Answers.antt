-- Saved stays without an end, or is ended, or couldn't be.
use Rattle.std.proofs.Common.{refl, sym, ◌∙◌}
use Rattle.loom_run.specs.Meanings.{meanings}
use Rattle.loom_run.proofs.TracedEnds.{cut-by, left-by, stop-by, through-by, trace-cut, trace-stopped, trace-through, trace-unended}
use Rattle.loom_run.proofs.following.end_trace.Goals as goal

pub returns-then-is_cut : goal.returns-then-is_cut
returns-then-is_cut g c = record {
  ends = λ before row words heap lines f.
      trace-cut g.H.Host.tells before row (meanings g.H.Host c.args.host.now) c.args.status lines words heap f (cut-by c.args.status (sym c.is_cut.ensures ∙ c.if-is_cut.true));
}

pub returns-then-not-is_through : goal.returns-then-not-is_through
returns-then-not-is_through g c = record {
  ends = λ before row words heap lines f.
      let end = c.end_saved-ended.ensures in
      trace-stopped g.H.Host.tells before row (meanings g.H.Host c.args.host.now) c.args.status lines words heap f (meanings g.H.Host c.end_saved-ended.new.host) end.others end.other_faults end.cause.later end.writes
      (stop-by c.args.status (sym c.is_cut.ensures ∙ c.if-is_cut.false) (sym c.is_through.ensures ∙ c.if-not-is_through.true) f.refusal.answer)
      (λ told. left-by c.end_saved-ended.result (end.ended told) (end.still told) end.cause.rose);
}

pub returns-in-Ok : goal.returns-in-Ok
returns-in-Ok g c = record {
  ends = λ before row words heap lines f.
      let end = c.end_saved-ended.ensures in
      trace-through g.H.Host.tells before row (meanings g.H.Host c.args.host.now) c.args.status lines words heap f (meanings g.H.Host c.end_saved-ended.new.host) end.others end.other_faults end.cause.later end.writes
      (through-by c.args.status (sym c.is_through.ensures ∙ c.if-not-is_through.false)) c.in-Ok.ensures.ended;
}

pub returns-in-Err : goal.returns-in-Err
returns-in-Err g c = record {
  ends = λ before row words heap lines f.
      let end = c.end_saved-ended.ensures in
      trace-unended g.H.Host.tells before row (meanings g.H.Host c.args.host.now) c.args.status lines words heap f (meanings g.H.Host c.end_saved-ended.new.host) end.others end.other_faults end.cause.later c.fault_count.result end.writes
      (through-by c.args.status (sym c.is_through.ensures ∙ c.if-not-is_through.false)) (c.fault_count.ensures, (rw c.in-Err.is at end.cause.rose) refl) c.in-Err.ensures.still;
}
