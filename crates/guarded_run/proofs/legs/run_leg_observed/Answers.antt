use Rattle.std.proofs.Common.{◌∙◌, ◌-◌}
use Rattle.guarded_run.proofs.LegLaws.{leg_runs, leg_parks, leg_leaves, leaves_exit, counted_all}
use Rattle.guarded_run.proofs.SerialLaws.{serial_exit, serial_leaves, serial_parks, serial_runs}
use Rattle.guarded_run.proofs.legs.run_leg_observed.Goals as goal

pub returns-in_err-end-clause-leaves : goal.returns-in_err-end-clause-leaves
returns-in_err-end-clause-leaves g c = λ told run serial is_at.
    let at = g.M.ObjectMemory.told in
    let stop = c.in_err-end.field-0.0 in
    leaves_exit c.args.events.now c.args.steps run serial (at c.run_observed.new.m) c.run_observed.new.cpu stop c.from_residual.result c.from_residual.ensures.1
    (leg_runs c.args.events.now c.args.steps run serial (at c.args.m.now) (at c.run_observed.new.m) c.args.cpu.now c.run_observed.new.cpu stop is_at c.requires.few (c.in_err-end.ensures.runs told is_at.machine is_at.stands))

pub returns-in_err-park-clause-leaves : goal.returns-in_err-park-clause-leaves
returns-in_err-park-clause-leaves g c = λ told run serial is_at.
    let at = g.M.ObjectMemory.told in
    let stop = c.in_err-park.field-0.0 in
    let did = c.in_ok-end.ensures in
    leaves_exit c.args.events.now c.args.steps run serial (at c.park.new.m) c.park.new.cpu stop c.from_residual-in_err-park.result c.from_residual-in_err-park.ensures.1
    (leg_parks c.args.events.now c.args.steps run serial (at c.args.m.now) (at c.run_observed.new.m) (at c.park.new.m) c.args.cpu.now c.run_observed.new.cpu c.park.new.cpu c.in_ok-end.end stop is_at (did.runs told is_at.machine is_at.stands) (did.later.tells ∙ told)
    c.in_err-park.ensures.serves c.in_err-park.ensures.numbers (counted_all c.in_ok-end.end c.args.cpu.now c.run_observed.new.cpu c.park.new.cpu c.args.steps c.requires.few c.in_err-park.ensures.numbers did.counted))

pub returns-clause-leaves : goal.returns-clause-leaves
returns-clause-leaves g c = λ told run serial is_at.
    let at = g.M.ObjectMemory.told in
    let did = c.in_ok-end.ensures in
    leg_leaves c.args.events.now c.args.steps run serial (at c.args.m.now) (at c.run_observed.new.m) (at c.park.new.m) c.args.cpu.now c.run_observed.new.cpu c.park.new.cpu c.in_ok-end.end is_at (did.runs told is_at.machine is_at.stands) (did.later.tells ∙ told)
    c.in_ok-park.ensures.serves c.in_ok-park.ensures.numbers (counted_all c.in_ok-end.end c.args.cpu.now c.run_observed.new.cpu c.park.new.cpu c.args.steps c.requires.few c.in_ok-park.ensures.numbers did.counted)

-- ---- the serial

pub returns-in_err-end-clause-serial : goal.returns-in_err-end-clause-serial
returns-in_err-end-clause-serial g c = λ told run serial is_at.
    let at = g.M.ObjectMemory.told in
    let stop = c.in_err-end.field-0.0 in
    serial_exit c.args.events.now run serial c.run_observed.new.cpu.ran stop c.from_residual.result c.from_residual.ensures.1
    (serial_runs c.args.events.now run serial (at c.args.m.now) (at c.run_observed.new.m) c.args.cpu.now c.run_observed.new.cpu stop is_at (c.args.steps - c.args.cpu.now.ran) (c.in_err-end.ensures.runs told is_at.machine is_at.stands))

pub returns-in_err-park-clause-serial : goal.returns-in_err-park-clause-serial
returns-in_err-park-clause-serial g c = λ told run serial is_at.
    let at = g.M.ObjectMemory.told in
    let stop = c.in_err-park.field-0.0 in
    let did = c.in_ok-end.ensures in
    serial_exit c.args.events.now run serial c.park.new.cpu.ran stop c.from_residual-in_err-park.result c.from_residual-in_err-park.ensures.1
    (serial_parks c.args.events.now run serial (at c.args.m.now) (at c.run_observed.new.m) (at c.park.new.m) c.args.cpu.now c.run_observed.new.cpu c.park.new.cpu c.in_ok-end.end stop is_at (c.args.steps - c.args.cpu.now.ran) (did.runs told is_at.machine is_at.stands) (did.later.tells ∙ told)
    c.in_err-park.ensures.serves c.in_err-park.ensures.numbers)

pub returns-clause-serial : goal.returns-clause-serial
returns-clause-serial g c = λ told run serial is_at.
    let at = g.M.ObjectMemory.told in
    let did = c.in_ok-end.ensures in
    serial_leaves c.args.events.now run serial (at c.args.m.now) (at c.run_observed.new.m) (at c.park.new.m) c.args.cpu.now c.run_observed.new.cpu c.park.new.cpu c.in_ok-end.end is_at (c.args.steps - c.args.cpu.now.ran) (did.runs told is_at.machine is_at.stands) (did.later.tells ∙ told)
    c.in_ok-park.ensures.serves c.in_ok-park.ensures.numbers
