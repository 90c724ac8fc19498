use Rattle.std.proofs.Common.{sym, subst}
use Rattle.blue_model.specs.Guarded.{Guarded}
use Rattle.machine_run.specs.States.{model_state}
use Rattle.guarded_run.specs.Legs.{Starts}
use Rattle.loom_guard.specs.Legs.{SetsOut}
use Rattle.loom_guard.proofs.LegLaws.{goes-on-from}
use Rattle.loom_guard.proofs.MomentLaws.{serial-first-leg, serial-later-leg}
use Rattle.loom_guard.proofs.legs.set_out.Goals as goal

pub returns-then-first-clause-starts : goal.returns-then-first-clause-starts
returns-then-first-clause-starts g c = λ told h begins events steps core run same out few.
    let t = g.M.ObjectMemory.told c.args.m.now in
    let is = subst (λ b. SetsOut b events run c.args.serial c.args.cpu.now t.speaks t.transcript core (model_state c.args.state.now) h) c.if-first.true out in
    subst (λ (x : Guarded). Starts events steps x c.args.serial (g.M.ObjectMemory.told c.start_leg.new.m) c.start_leg.new.cpu c.start_leg.result) (sym is)
    (c.start_leg.ensures.starts told h begins events steps)

pub returns-else-first-clause-starts : goal.returns-else-first-clause-starts
returns-else-first-clause-starts g c = λ told h begins events steps core run same out few.
    let t = g.M.ObjectMemory.told c.args.m.now in
    let on = subst (λ b. SetsOut b events run c.args.serial c.args.cpu.now t.speaks t.transcript core (model_state c.args.state.now) h) c.if-first.false out in
    c.continue_leg.ensures.continues told events steps run on.last on.before on.parked on.keep (goes-on-from events run c.args.serial c.args.cpu.now core (model_state c.args.state.now) h t on begins same) on.next few

-- ---- the serial of the last checkpoint

pub returns-then-first-clause-serial : goal.returns-then-first-clause-serial
returns-then-first-clause-serial g c = λ h events core run out.
    let t = g.M.ObjectMemory.told c.args.m.now in
    serial-first-leg events c.args.serial t.transcript (model_state c.args.state.now) h run c.start_leg.new.cpu.ran c.start_leg.ensures.ran
    (subst (λ b. SetsOut b events run c.args.serial c.args.cpu.now t.speaks t.transcript core (model_state c.args.state.now) h) c.if-first.true out)

pub returns-else-first-clause-serial : goal.returns-else-first-clause-serial
returns-else-first-clause-serial g c = λ h events core run out.
    let t = g.M.ObjectMemory.told c.args.m.now in
    serial-later-leg events run c.args.serial c.args.cpu.now t.speaks t.transcript core (model_state c.args.state.now) h c.continue_leg.new.cpu.ran c.continue_leg.ensures.ran
    (subst (λ b. SetsOut b events run c.args.serial c.args.cpu.now t.speaks t.transcript core (model_state c.args.state.now) h) c.if-first.false out)
