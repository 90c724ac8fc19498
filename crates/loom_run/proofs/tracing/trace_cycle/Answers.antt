use Rattle.std.proofs.Common.{ℕ, inl, inr, sym, ◌∙◌, ap, subst, arith}
use Rattle.std.specs.Prelude.{IfErr, Ok, Err}
use Rattle.object_memory.proofs.LaterLaws.{IsLater-trans}
use Rattle.object_memory.specs.Contract.{IsLater}
use Rattle.object_memory.specs.Told.{Told, IsReady}
use Rattle.blue_model.specs.declared.step.Step.{Step}
use Rattle.contexts.specs.Serves.{HasRest}
use Rattle.contexts.specs.declared.stop.Stop.TheVariants.{Mem}
use Rattle.loom_host.specs.Outside.{RoleState, puts}
use Rattle.loom_host.specs.declared.outside.Role.TheVariants.{Saved}
use Rattle.loom_memory.specs.Memory.{loom_outside, loom_told}
use Rattle.loom_words.specs.Trace.{trace_text}
use Rattle.machine_run.specs.Run.{Reaches}
use Rattle.machine_run.specs.declared.tracing.Traced.{Traced}
use Rattle.machine_run.proofs.RunningLaws.{faulted, faults_earlier, rest_stays, settled_stands, settling_faulted, stops_after, stops_in}
use Rattle.loom_run.specs.Traces.{EndsBy, HasTraced, IsUnwritten, PutsText, TraceFit, TracesAs}
use Rattle.loom_run.specs.declared.tracing.TraceStop.TheVariants.{Stop}
use Rattle.loom_run.proofs.TraceLaws.{cut-by, cut-line, cuts-in, cycle-reaches, exit-by, faults-left, fit-behind, fit-cut, fit-stopped, no-line, one-line, role-left, tells-work}
use Rattle.loom_run.proofs.tracing.trace_cycle.Goals as goal

pub settle-requires : goal.settle-requires
settle-requires g c = record {
  fit = record {
    sound = c.in_ok-put_line.ensures.sound;
    ready = subst (λ (t : Told). IsReady t) (sym c.in_ok-put_line.ensures.told) c.in_ok-traced.ensures.fit.ready;
  };
}

-- ---- the cycle stopped

pub returns-in_err-traced-clause-traces : goal.returns-in_err-traced-clause-traces
returns-in_err-traced-clause-traces g c = λ work m st.
    let host = g.H.Host in
    exit-by (λ r. TracesAs c.args.events.now (loom_told host c.args.m.now) (loom_told host c.traced_cycle.new.m) c.traced_cycle.new.cpu 1 m r) _ c.from_residual.result c.from_residual.ensures.1
    (inl (stops_in _ _ _ _ _ m _ (tells-work host c.args.m.now work) c.requires.fit.ready c.requires.rest c.in_err-traced.ensures.kept st c.in_err-traced.ensures.serves))

pub returns-in_err-traced-clause-lines : goal.returns-in_err-traced-clause-lines
returns-in_err-traced-clause-lines g c = λ work saved m st.
    let host = g.H.Host in
    exit-by (λ r. HasTraced c.args.events.now r c.args.cpu.now.ran c.traced_cycle.new.cpu.ran m (loom_outside host c.args.m.now Saved).role (loom_outside host c.traced_cycle.new.m Saved).role) _ c.from_residual.result c.from_residual.ensures.1
    (no-line _ c.in_err-traced.field-0.0 _ _ m _ _ (role-left host c.args.m.now c.traced_cycle.new.m c.in_err-traced.ensures.fit.outside Saved) c.in_err-traced.ensures.kept)

pub returns-in_err-traced-clause-cause : goal.returns-in_err-traced-clause-cause
returns-in_err-traced-clause-cause g c =
    let host = g.H.Host in
    let old = c.args.m.now in
    let new = c.traced_cycle.new.m in
    let stop = c.in_err-traced.field-0.0 in
    exit-by (λ r. IfErr r (EndsBy (loom_told host old) (loom_told host new) (loom_outside host old Saved).faults (loom_outside host new Saved).faults)) _ c.from_residual.result c.from_residual.ensures.1
    (faulted Step (loom_told host old) (loom_told host new) stop c.in_err-traced.ensures.serves.reason)

pub returns-in_err-traced-clause-few : goal.returns-in_err-traced-clause-few
returns-in_err-traced-clause-few g c = let kept = c.in_err-traced.ensures.kept in omega arith

pub returns-in_err-traced-clause-later : goal.returns-in_err-traced-clause-later
returns-in_err-traced-clause-later g c = c.in_err-traced.ensures.serves.later

pub returns-in_err-traced-clause-fit : goal.returns-in_err-traced-clause-fit
returns-in_err-traced-clause-fit g c =
    let host = g.H.Host in
    let fit = c.in_err-traced.ensures.fit in
    exit-by (λ r. TraceFit host c.args.m.now c.traced_cycle.new.m r) _ c.from_residual.result c.from_residual.ensures.1
    (fit-stopped host c.args.m.now c.traced_cycle.new.m Traced c.in_err-traced.field-0.0 fit.sound fit.outside fit.lender)

-- ---- its line couldn't be put

pub returns-in_err-put_line-clause-traces : goal.returns-in_err-put_line-clause-traces
returns-in_err-put_line-clause-traces g c = λ work m st.
    let host = g.H.Host in
    exit-by (λ r. TracesAs c.args.events.now (loom_told host c.args.m.now) (loom_told host c.put_line.new.m) c.traced_cycle.new.cpu 1 m r) _ c.from_residual-in_err-put_line.result c.from_residual-in_err-put_line.ensures.1
    (cuts-in c.args.events.now (loom_told host c.args.m.now) (loom_told host c.traced_cycle.new.m) (loom_told host c.put_line.new.m) _ _ m (loom_outside host c.traced_cycle.new.m Saved).faults (loom_outside host c.put_line.new.m Saved).faults c.in_err-put_line.field-0.0 c.in_err-put_line.ensures.cause c.in_err-put_line.ensures.told (cycle-reaches _ _ _ _ _ _ m (tells-work host c.args.m.now work) st c.in_ok-traced.ensures.serves))

pub returns-in_err-put_line-clause-lines : goal.returns-in_err-put_line-clause-lines
returns-in_err-put_line-clause-lines g c = λ work saved m st.
    let host = g.H.Host in
    let told = tells-work host c.args.m.now work in
    let e = c.in_err-put_line.field-0.0 in
    let did = c.in_ok-traced.ensures in
    let seen = c.in_ok-traced.traced.sight in
    let before = (loom_outside host c.args.m.now Saved).role in
    let now = (loom_outside host c.put_line.new.m Saved).role in
    let text = trace_text c.traced_cycle.new.cpu.ran seen.context seen.ip seen.byte in
    exit-by (λ r. HasTraced c.args.events.now r c.args.cpu.now.ran c.traced_cycle.new.cpu.ran m before now) _ c.from_residual-in_err-put_line.result c.from_residual-in_err-put_line.ensures.1
    (one-line _ _ _ _ _ _ seen m (Err e) before now told st did.serves (did.sees told m st) did.counted
    (cut-line (loom_outside host c.traced_cycle.new.m Saved).faults (loom_outside host c.put_line.new.m Saved).faults e text before now c.in_err-put_line.ensures.cause (subst (λ (s : RoleState). PutsText {A = Unit {0}} (Err e) text s now) (role-left host c.args.m.now c.traced_cycle.new.m did.fit.outside Saved) (c.in_err-put_line.ensures.line saved))))

pub returns-in_err-put_line-clause-cause : goal.returns-in_err-put_line-clause-cause
returns-in_err-put_line-clause-cause g c =
    let host = g.H.Host in
    let old = c.args.m.now in
    let new = c.put_line.new.m in
    let e = c.in_err-put_line.field-0.0 in
    let faults = (loom_outside host new Saved).faults in
    exit-by (λ r. IfErr r (EndsBy (loom_told host old) (loom_told host new) (loom_outside host old Saved).faults faults)) _ c.from_residual-in_err-put_line.result c.from_residual-in_err-put_line.ensures.1
    (cut-by (loom_told host old) (loom_told host new) (loom_outside host old Saved).faults faults e (subst (λ (n : ℕ). IsUnwritten n faults e) (faults-left host old c.traced_cycle.new.m c.in_ok-traced.ensures.fit.outside) c.in_err-put_line.ensures.cause))

pub returns-in_err-put_line-clause-few : goal.returns-in_err-put_line-clause-few
returns-in_err-put_line-clause-few g c = let counted = c.in_ok-traced.ensures.counted in omega arith

pub returns-in_err-put_line-clause-later : goal.returns-in_err-put_line-clause-later
returns-in_err-put_line-clause-later g c = subst (λ (t : Told). IsLater (loom_told g.H.Host c.args.m.now) t) (sym c.in_err-put_line.ensures.told) c.in_ok-traced.ensures.serves.later

pub returns-in_err-put_line-clause-fit : goal.returns-in_err-put_line-clause-fit
returns-in_err-put_line-clause-fit g c =
    let host = g.H.Host in
    let fit = c.in_ok-traced.ensures.fit in
    let line = c.in_err-put_line.ensures in
    exit-by (λ r. TraceFit host c.args.m.now c.put_line.new.m r) _ c.from_residual-in_err-put_line.result c.from_residual-in_err-put_line.ensures.1
    (fit-cut host c.args.m.now c.traced_cycle.new.m c.put_line.new.m fit.outside fit.lender line.others line.faults line.lender line.only (loom_outside host c.traced_cycle.new.m Saved).faults (loom_outside host c.put_line.new.m Saved).faults c.in_err-put_line.field-0.0 line.cause line.sound)

-- ---- the memory couldn't settle

pub returns-in_err-settle-clause-traces : goal.returns-in_err-settle-clause-traces
returns-in_err-settle-clause-traces g c = λ work m st.
    let host = g.H.Host in
    let next = subst (λ (t : Told). Reaches c.args.events.now t c.traced_cycle.new.cpu c.in_ok-traced.traced.end 1 m) (sym c.in_ok-put_line.ensures.told) (cycle-reaches _ _ _ _ _ _ m (tells-work host c.args.m.now work) st c.in_ok-traced.ensures.serves) in
    exit-by (λ r. TracesAs c.args.events.now (loom_told host c.args.m.now) (loom_told host c.settle.new.m) c.traced_cycle.new.cpu 1 m r) _ c.from_residual-in_err-settle.result c.from_residual-in_err-settle.ensures.1
    (inr (stops_after _ _ _ _ _ m c.in_err-settle.field-0.0 (tells-work host c.put_line.new.m work) next c.in_err-settle.ensures.called))

pub returns-in_err-settle-clause-lines : goal.returns-in_err-settle-clause-lines
returns-in_err-settle-clause-lines g c = λ work saved m st.
    let host = g.H.Host in
    let told = tells-work host c.args.m.now work in
    let did = c.in_ok-traced.ensures in
    let seen = c.in_ok-traced.traced.sight in
    let before = (loom_outside host c.args.m.now Saved).role in
    let now = (loom_outside host c.settle.new.m Saved).role in
    let text = trace_text c.traced_cycle.new.cpu.ran seen.context seen.ip seen.byte in
    exit-by (λ r. HasTraced c.args.events.now r c.args.cpu.now.ran c.traced_cycle.new.cpu.ran m before now) _ c.from_residual-in_err-settle.result c.from_residual-in_err-settle.ensures.1
    (one-line _ _ _ _ _ _ seen m (Err (Stop (Mem c.in_err-settle.field-0.0))) before now told st did.serves (did.sees told m st) did.counted
    (role-left host c.put_line.new.m c.settle.new.m c.in_err-settle.ensures.fit.outside Saved ∙ c.in_ok-put_line.ensures.line saved ∙ ap (puts text) (role-left host c.args.m.now c.traced_cycle.new.m did.fit.outside Saved)))

pub returns-in_err-settle-clause-cause : goal.returns-in_err-settle-clause-cause
returns-in_err-settle-clause-cause g c =
    let host = g.H.Host in
    let old = c.args.m.now in
    let mid = c.put_line.new.m in
    let new = c.settle.new.m in
    let fault = c.in_err-settle.field-0.0 in
    let later = subst (λ (t : Told). IsLater (loom_told host old) t) (sym c.in_ok-put_line.ensures.told) c.in_ok-traced.ensures.serves.later in
    exit-by (λ r. IfErr r (EndsBy (loom_told host old) (loom_told host new) (loom_outside host old Saved).faults (loom_outside host new Saved).faults)) _ c.from_residual-in_err-settle.result c.from_residual-in_err-settle.ensures.1
    (faults_earlier (loom_told host old) (loom_told host mid) (loom_told host new) (Mem fault) later (settling_faulted _ _ fault c.in_err-settle.ensures.called))

pub returns-in_err-settle-clause-few : goal.returns-in_err-settle-clause-few
returns-in_err-settle-clause-few g c = let counted = c.in_ok-traced.ensures.counted in omega arith

pub returns-in_err-settle-clause-later : goal.returns-in_err-settle-clause-later
returns-in_err-settle-clause-later g c = IsLater-trans _ _ _ (subst (λ (t : Told). IsLater (loom_told g.H.Host c.args.m.now) t) (sym c.in_ok-put_line.ensures.told) c.in_ok-traced.ensures.serves.later) c.in_err-settle.ensures.called.later

pub returns-in_err-settle-clause-fit : goal.returns-in_err-settle-clause-fit
returns-in_err-settle-clause-fit g c =
    let host = g.H.Host in
    let fit = c.in_ok-traced.ensures.fit in
    let line = c.in_ok-put_line.ensures in
    let settled = c.in_err-settle.ensures.fit in
    exit-by (λ r. TraceFit host c.args.m.now c.settle.new.m r) _ c.from_residual-in_err-settle.result c.from_residual-in_err-settle.ensures.1
    (fit-behind host c.args.m.now c.traced_cycle.new.m c.put_line.new.m fit.outside fit.lender line.others line.faults line.lender line.only c.settle.new.m (Err (Stop (Mem c.in_err-settle.field-0.0))) settled.outside settled.lender settled.sound tt)

-- ---- all three went through

pub returns-clause-traces : goal.returns-clause-traces
returns-clause-traces g c = λ work m st.
    let host = g.H.Host in
    let did = c.in_ok-traced.ensures in
    let settled = c.in_ok-settle.ensures in
    let same = c.in_ok-put_line.ensures.told in
    let next = subst (λ (t : Told). Reaches c.args.events.now t c.traced_cycle.new.cpu c.in_ok-traced.traced.end 1 m) (sym same) (cycle-reaches _ _ _ _ _ _ m (tells-work host c.args.m.now work) st did.serves) in
    record { machine = next.machine; ran = next.ran; stands = settled_stands _ _ _ next.machine (subst (λ (t : Told). IsReady t) (sym same) did.fit.ready) settled.fit.ready settled.called (tells-work host c.put_line.new.m work) next.stands }

pub returns-clause-lines : goal.returns-clause-lines
returns-clause-lines g c = λ work saved m st.
    let host = g.H.Host in
    let told = tells-work host c.args.m.now work in
    let did = c.in_ok-traced.ensures in
    let seen = c.in_ok-traced.traced.sight in
    let before = (loom_outside host c.args.m.now Saved).role in
    let now = (loom_outside host c.settle.new.m Saved).role in
    let text = trace_text c.traced_cycle.new.cpu.ran seen.context seen.ip seen.byte in
    one-line _ _ _ _ _ _ seen m (Ok c.in_ok-traced.traced.end) before now told st did.serves (did.sees told m st) did.counted
    (role-left host c.put_line.new.m c.settle.new.m c.in_ok-settle.ensures.fit.outside Saved ∙ c.in_ok-put_line.ensures.line saved ∙ ap (puts text) (role-left host c.args.m.now c.traced_cycle.new.m did.fit.outside Saved))

pub returns-clause-few : goal.returns-clause-few
returns-clause-few g c = let counted = c.in_ok-traced.ensures.counted in omega arith

pub returns-clause-vault : goal.returns-clause-vault
returns-clause-vault g c = c.in_ok-traced.ensures.serves.vault

pub returns-clause-keeps : goal.returns-clause-keeps
returns-clause-keeps g c = c.in_ok-traced.ensures.keeps

pub returns-clause-later : goal.returns-clause-later
returns-clause-later g c = IsLater-trans _ _ _ (subst (λ (t : Told). IsLater (loom_told g.H.Host c.args.m.now) t) (sym c.in_ok-put_line.ensures.told) c.in_ok-traced.ensures.serves.later) c.in_ok-settle.ensures.called.later

pub returns-clause-rest : goal.returns-clause-rest
returns-clause-rest g c = rest_stays _ _ c.in_ok-settle.ensures.called.ok.regs (subst (λ (t : Told). HasRest t) (sym c.in_ok-put_line.ensures.told) c.in_ok-traced.ensures.rest)

pub returns-clause-fit : goal.returns-clause-fit
returns-clause-fit g c =
    let host = g.H.Host in
    let fit = c.in_ok-traced.ensures.fit in
    let line = c.in_ok-put_line.ensures in
    let settled = c.in_ok-settle.ensures.fit in
    fit-behind host c.args.m.now c.traced_cycle.new.m c.put_line.new.m fit.outside fit.lender line.others line.faults line.lender line.only c.settle.new.m (Ok c.in_ok-traced.traced.end) settled.outside settled.lender settled.sound settled.ready
