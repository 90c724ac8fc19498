use Rattle.std.proofs.Common.{◌≡◌, ◌+◌, Ok, Err, sym, subst, arith}
use Rattle.loom_host.specs.declared.outside.Role.TheVariants.{Saved}
use Rattle.blue_model.specs.Endings.{HasCounted}
use Rattle.machine_run.specs.Run.{FaultsBy}
use Rattle.machine_run.specs.States.{model_state}
use Rattle.loom_memory.specs.Memory.{loom_now, loom_outside, loom_told}
use Rattle.loom_words.specs.Command.{row_for}
use Rattle.loom_run.specs.Following.{EndsFollowed, FollowsAs, IsTraceRefusal}
use Rattle.loom_run.specs.Meanings.{meanings}
use Rattle.loom_run.specs.Traces.{HasTraced}
use Rattle.loom_run.specs.declared.tracing.TraceStop.TheVariants.{Stop as Stopping, Write}
use Rattle.loom_run.proofs.FollowLaws.{start-follows, trace-follows}
use Rattle.loom_run.proofs.FollowSteps.{follow-file, follow-leaves, followed-all, followed-by, kept-shut, same-all, same-then, unkept-end}
use Rattle.loom_run.proofs.MachineLaws.{bounds-later}
use Rattle.loom_run.proofs.MemoryLaws.{begins-run, keeps-state}
use Rattle.loom_run.proofs.TraceLaws.{faults-left, role-left, tells-work}
use Rattle.object_memory.proofs.LaterLaws.{IsLater-trans}
use Rattle.loom_run.proofs.following.trace_machine.Goals as goal

pub begin-requires-clause-state : goal.begin-requires-clause-state
unfolding loom_told
begin-requires-clause-state g c = λ told. let b = c.requires.begins told in keeps-state b.0 c.args.state.now (loom_told g.H.Host c.args.memory.now) b.1 c.requires.ready told

-- ---- the start was refused

pub returns-in-Err-clause-follows : goal.returns-in-Err-clause-follows
returns-in-Err-clause-follows g c = λ work h begins.
    let host = g.H.Host in
    let m = c.args.memory.now in
    let old = loom_told host m in
    let new = loom_told host c.begin.new.m in
    let row = row_for c.args.command.now in
    let state = model_state c.args.state.now in
    subst (λ status. FollowsAs old new row status c.args.events.now state h (host.tells Saved) (loom_outside host m Saved).role (loom_outside host c.begin.new.m Saved).role) (sym c.stopped.ensures)
    (start-follows c.args.events.now row state h old (tells-work host m work) (begins-run h c.args.state.now old begins) c.requires.bounds (host.tells Saved) (loom_outside host m Saved).role (loom_outside host c.begin.new.m Saved).role new c.at_rest-cpu.result c.begin.new.cpu c.in-Err.stop c.in-Err.ensures.serves c.in-Err.ensures.ran c.in-Err.ensures.fault (role-left host m c.begin.new.m c.in-Err.ensures.fit.outside Saved))

pub returns-in-Err-clause-file : goal.returns-in-Err-clause-file
returns-in-Err-clause-file g c = follow-file g.H.Host c.args.memory.now c.begin.new.m (same-all g.H.Host c.args.memory.now c.begin.new.m c.in-Err.ensures.fit.outside)

pub returns-in-Err-clause-others : goal.returns-in-Err-clause-others
returns-in-Err-clause-others g c =
    let left = faults-left g.H.Host c.args.memory.now c.begin.new.m c.in-Err.ensures.fit.outside in
    follow-leaves g.H.Host c.args.memory.now c.begin.new.m (same-all g.H.Host c.args.memory.now c.begin.new.m c.in-Err.ensures.fit.outside) c.in-Err.ensures.serves.later.bounds (omega (arith, left))

pub returns-in-Err-clause-answer : goal.returns-in-Err-clause-answer
returns-in-Err-clause-answer g c =
    let host = g.H.Host in
    let m = c.args.memory.now in
    let n = c.begin.new.m in
    let row = row_for c.args.command.now in
    let fresh = c.in-Err.ensures.ran in
    subst (λ status. IsTraceRefusal host.tells (meanings host (loom_now m)) (meanings host (loom_now n)) row EndsFollowed status) (sym c.stopped.ensures)
    (followed-by host m n row c.begin.new.cpu.ran (omega (arith, fresh)) (bounds-later row (loom_told host m).bounds (loom_told host n).bounds c.requires.bounds c.in-Err.ensures.serves.later.bounds) c.in-Err.stop c.in-Err.ensures.fault)

-- ---- the trace went through

pub returns-in-Ok-clause-follows : goal.returns-in-Ok-clause-follows
returns-in-Ok-clause-follows g c = λ work h begins.
    let host = g.H.Host in
    let m = c.args.memory.now in
    let old = loom_told host m in
    let mid = loom_told host c.begin.new.m in
    let new = loom_told host c.trace.new.m in
    let row = row_for c.args.command.now in
    let state = model_state c.args.state.now in
    let fresh = c.in_default.ensures.ran in
    let few = c.trace.ensures.few in
    subst (λ status. FollowsAs old new row status c.args.events.now state h (host.tells Saved) (loom_outside host m Saved).role (loom_outside host c.trace.new.m Saved).role) (sym c.status_of_trace.ensures)
    (trace-follows c.args.events.now row state h old (tells-work host m work) (begins-run h c.args.state.now old begins) c.requires.bounds (host.tells Saved) (loom_outside host m Saved).role (loom_outside host c.trace.new.m Saved).role mid new c.at_rest-cpu.result c.begin.new.cpu c.trace.new.cpu c.in_default.ensures.serves fresh c.in_default.ensures.fit.ready c.in_default.ensures.rest c.trace.ensures.later (omega (arith, fresh, few))
    (Ok c.in-Ok.end) (λ end e. unkept-end c.in-Ok.end end e (kept-shut c.in-Ok.end c.at_rest-cpu.result c.begin.new.cpu c.at_rest-cpu.ensures c.in_default.ensures.serves.vault c.in-Ok.ensures.keeps)) (λ stop e. absurd (cc)) (λ machine st. c.in-Ok.ensures.traces work machine st)
    (λ saved machine st. subst (λ s. HasTraced c.args.events.now (Ok c.in-Ok.end) c.begin.new.cpu.ran c.trace.new.cpu.ran machine s (loom_outside host c.trace.new.m Saved).role) (role-left host m c.begin.new.m c.in_default.ensures.fit.outside Saved) (c.in-Ok.ensures.lines work saved machine st)))

pub returns-in-Ok-clause-file : goal.returns-in-Ok-clause-file
returns-in-Ok-clause-file g c = follow-file g.H.Host c.args.memory.now c.trace.new.m (same-then g.H.Host c.args.memory.now c.begin.new.m c.trace.new.m c.in_default.ensures.fit.outside c.trace.ensures.fit.others)

pub returns-in-Ok-clause-others : goal.returns-in-Ok-clause-others
returns-in-Ok-clause-others g c =
    let host = g.H.Host in
    let m = c.args.memory.now in
    let left = faults-left host m c.begin.new.m c.in_default.ensures.fit.outside in
    let more = c.trace.ensures.fit.faults in
    follow-leaves host m c.trace.new.m (same-then host m c.begin.new.m c.trace.new.m c.in_default.ensures.fit.outside c.trace.ensures.fit.others)
    (IsLater-trans (loom_told host m) (loom_told host c.begin.new.m) (loom_told host c.trace.new.m) c.in_default.ensures.serves.later c.trace.ensures.later).bounds (omega (arith, left, more))

pub returns-in-Ok-clause-answer : goal.returns-in-Ok-clause-answer
returns-in-Ok-clause-answer g c =
    let host = g.H.Host in
    let m = c.args.memory.now in
    let mid = c.begin.new.m in
    let n = c.trace.new.m in
    let row = row_for c.args.command.now in
    let fresh = c.in_default.ensures.ran in
    let few = c.trace.ensures.few in
    subst (λ status. IsTraceRefusal host.tells (meanings host (loom_now m)) (meanings host (loom_now n)) row EndsFollowed status) (sym c.status_of_trace.ensures)
    (followed-all host m n row c.trace.new.cpu.ran (omega (arith, fresh, few)) (bounds-later row (loom_told host m).bounds (loom_told host n).bounds c.requires.bounds (IsLater-trans (loom_told host m) (loom_told host mid) (loom_told host n) c.in_default.ensures.serves.later c.trace.ensures.later).bounds)
    mid c.in_default.ensures.fit.outside c.in_default.ensures.serves.later (Ok c.in-Ok.end) (let all : c.begin.new.cpu.ran + c.args.command.now.steps ≡ c.args.command.now.steps = omega (arith, fresh) in subst (λ n. HasCounted c.in-Ok.end c.trace.new.cpu.ran n) all c.in-Ok.ensures.counted) (kept-shut c.in-Ok.end c.at_rest-cpu.result c.begin.new.cpu c.at_rest-cpu.ensures c.in_default.ensures.serves.vault c.in-Ok.ensures.keeps) tt)

-- ---- it was stopped

pub returns-in-Err-Stop-clause-follows : goal.returns-in-Err-Stop-clause-follows
returns-in-Err-Stop-clause-follows g c = λ work h begins.
    let host = g.H.Host in
    let m = c.args.memory.now in
    let old = loom_told host m in
    let mid = loom_told host c.begin.new.m in
    let new = loom_told host c.trace.new.m in
    let row = row_for c.args.command.now in
    let state = model_state c.args.state.now in
    let fresh = c.in_default.ensures.ran in
    let few = c.trace.ensures.few in
    subst (λ status. FollowsAs old new row status c.args.events.now state h (host.tells Saved) (loom_outside host m Saved).role (loom_outside host c.trace.new.m Saved).role) (sym c.stopped-in-Err-Stop.ensures)
    (trace-follows c.args.events.now row state h old (tells-work host m work) (begins-run h c.args.state.now old begins) c.requires.bounds (host.tells Saved) (loom_outside host m Saved).role (loom_outside host c.trace.new.m Saved).role mid new c.at_rest-cpu.result c.begin.new.cpu c.trace.new.cpu c.in_default.ensures.serves fresh c.in_default.ensures.fit.ready c.in_default.ensures.rest c.trace.ensures.later (omega (arith, fresh, few))
    (Err (Stopping c.in-Err-Stop.stop)) (λ end e. absurd (cc)) (λ stop e. let same : c.in-Err-Stop.stop ≡ stop = cc in subst (λ s. FaultsBy mid new s) same (rw c.in-Err-Stop.field-0-is at c.in-Err-Stop.ensures.cause)) (λ machine st. rw c.in-Err-Stop.field-0-is at (c.in-Err-Stop.ensures.traces work machine st))
    (λ saved machine st. subst (λ s. HasTraced c.args.events.now (Err (Stopping c.in-Err-Stop.stop)) c.begin.new.cpu.ran c.trace.new.cpu.ran machine s (loom_outside host c.trace.new.m Saved).role) (role-left host m c.begin.new.m c.in_default.ensures.fit.outside Saved) (rw c.in-Err-Stop.field-0-is at (c.in-Err-Stop.ensures.lines work saved machine st))))

pub returns-in-Err-Stop-clause-file : goal.returns-in-Err-Stop-clause-file
returns-in-Err-Stop-clause-file g c = follow-file g.H.Host c.args.memory.now c.trace.new.m (same-then g.H.Host c.args.memory.now c.begin.new.m c.trace.new.m c.in_default.ensures.fit.outside c.trace.ensures.fit.others)

pub returns-in-Err-Stop-clause-others : goal.returns-in-Err-Stop-clause-others
returns-in-Err-Stop-clause-others g c =
    let host = g.H.Host in
    let m = c.args.memory.now in
    let left = faults-left host m c.begin.new.m c.in_default.ensures.fit.outside in
    let more = c.trace.ensures.fit.faults in
    follow-leaves host m c.trace.new.m (same-then host m c.begin.new.m c.trace.new.m c.in_default.ensures.fit.outside c.trace.ensures.fit.others)
    (IsLater-trans (loom_told host m) (loom_told host c.begin.new.m) (loom_told host c.trace.new.m) c.in_default.ensures.serves.later c.trace.ensures.later).bounds (omega (arith, left, more))

pub returns-in-Err-Stop-clause-answer : goal.returns-in-Err-Stop-clause-answer
returns-in-Err-Stop-clause-answer g c =
    let host = g.H.Host in
    let m = c.args.memory.now in
    let mid = c.begin.new.m in
    let n = c.trace.new.m in
    let row = row_for c.args.command.now in
    let fresh = c.in_default.ensures.ran in
    let few = c.trace.ensures.few in
    subst (λ status. IsTraceRefusal host.tells (meanings host (loom_now m)) (meanings host (loom_now n)) row EndsFollowed status) (sym c.stopped-in-Err-Stop.ensures)
    (followed-all host m n row c.trace.new.cpu.ran (omega (arith, fresh, few)) (bounds-later row (loom_told host m).bounds (loom_told host n).bounds c.requires.bounds (IsLater-trans (loom_told host m) (loom_told host mid) (loom_told host n) c.in_default.ensures.serves.later c.trace.ensures.later).bounds)
    mid c.in_default.ensures.fit.outside c.in_default.ensures.serves.later (Err (Stopping c.in-Err-Stop.stop)) tt tt (rw c.in-Err-Stop.field-0-is at c.in-Err-Stop.ensures.cause))

-- ---- a line couldn't be put

pub returns-in-Err-Write-clause-follows : goal.returns-in-Err-Write-clause-follows
returns-in-Err-Write-clause-follows g c = λ work h begins.
    let host = g.H.Host in
    let m = c.args.memory.now in
    let old = loom_told host m in
    let mid = loom_told host c.begin.new.m in
    let new = loom_told host c.trace.new.m in
    let row = row_for c.args.command.now in
    let state = model_state c.args.state.now in
    let fresh = c.in_default.ensures.ran in
    let few = c.trace.ensures.few in
    (trace-follows c.args.events.now row state h old (tells-work host m work) (begins-run h c.args.state.now old begins) c.requires.bounds (host.tells Saved) (loom_outside host m Saved).role (loom_outside host c.trace.new.m Saved).role mid new c.at_rest-cpu.result c.begin.new.cpu c.trace.new.cpu c.in_default.ensures.serves fresh c.in_default.ensures.fit.ready c.in_default.ensures.rest c.trace.ensures.later (omega (arith, fresh, few))
    (Err (Write c.in-Err-Write.count)) (λ end e. absurd (cc)) (λ stop e. absurd (cc)) (λ machine st. rw c.in-Err-Write.field-0-is at (c.in-Err-Write.ensures.traces work machine st))
    (λ saved machine st. subst (λ s. HasTraced c.args.events.now (Err (Write c.in-Err-Write.count)) c.begin.new.cpu.ran c.trace.new.cpu.ran machine s (loom_outside host c.trace.new.m Saved).role) (role-left host m c.begin.new.m c.in_default.ensures.fit.outside Saved) (rw c.in-Err-Write.field-0-is at (c.in-Err-Write.ensures.lines work saved machine st))))

pub returns-in-Err-Write-clause-file : goal.returns-in-Err-Write-clause-file
returns-in-Err-Write-clause-file g c = follow-file g.H.Host c.args.memory.now c.trace.new.m (same-then g.H.Host c.args.memory.now c.begin.new.m c.trace.new.m c.in_default.ensures.fit.outside c.trace.ensures.fit.others)

pub returns-in-Err-Write-clause-others : goal.returns-in-Err-Write-clause-others
returns-in-Err-Write-clause-others g c =
    let host = g.H.Host in
    let m = c.args.memory.now in
    let left = faults-left host m c.begin.new.m c.in_default.ensures.fit.outside in
    let more = c.trace.ensures.fit.faults in
    follow-leaves host m c.trace.new.m (same-then host m c.begin.new.m c.trace.new.m c.in_default.ensures.fit.outside c.trace.ensures.fit.others)
    (IsLater-trans (loom_told host m) (loom_told host c.begin.new.m) (loom_told host c.trace.new.m) c.in_default.ensures.serves.later c.trace.ensures.later).bounds (omega (arith, left, more))

pub returns-in-Err-Write-clause-answer : goal.returns-in-Err-Write-clause-answer
returns-in-Err-Write-clause-answer g c =
    let host = g.H.Host in
    let m = c.args.memory.now in
    let mid = c.begin.new.m in
    let n = c.trace.new.m in
    let row = row_for c.args.command.now in
    let fresh = c.in_default.ensures.ran in
    let few = c.trace.ensures.few in
    (followed-all host m n row c.trace.new.cpu.ran (omega (arith, fresh, few)) (bounds-later row (loom_told host m).bounds (loom_told host n).bounds c.requires.bounds (IsLater-trans (loom_told host m) (loom_told host mid) (loom_told host n) c.in_default.ensures.serves.later c.trace.ensures.later).bounds)
    mid c.in_default.ensures.fit.outside c.in_default.ensures.serves.later (Err (Write c.in-Err-Write.count)) tt tt (rw c.in-Err-Write.field-0-is at c.in-Err-Write.ensures.cause))
