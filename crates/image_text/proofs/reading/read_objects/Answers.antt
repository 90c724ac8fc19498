use Rattle.std.proofs.Common.{◌+◌, ℕ, List, refl, sym, subst, ◌∙◌, arith}
use Rattle.loom_host.specs.declared.outside.Role.TheVariants.{Image}
use Rattle.image_reader.specs.Window.{unused}
use Rattle.image_reader.proofs.Frames.{leaves, loading_none, loading_then}
use Rattle.image_reader.proofs.Stored.{stored_holds}
use Rattle.text_lines.specs.Breaks.{objects_at}
use Rattle.image_text.specs.Assembled.{IsPartTextFault}
use Rattle.image_text.specs.Lines.{lines_of}
use Rattle.image_text.specs.Reads.{IsBad, IsReading, TakesNext}
use Rattle.image_text.proofs.ReadLaws.{begins, goes_on, is_done, stops, text_later}
use Rattle.image_text.proofs.reading.read_objects.Goals as goal

pub lines-init : goal.lines-init
lines-init g c =
    let old = c.args.disk.now.host.now in
    record {
      reading = subst (λ (names : List ℕ). IsReading g.H.Host old old c.args.disk.now.rest c.args.window.now c.args.window.now 2 0 c.args.next names) (sym c.new-names.ensures)
          (begins g.H.Host old c.args.disk.now.rest c.args.window.now c.args.next c.requires.start c.requires.none c.requires.empty);
      ends = c.requires.ends;
      loading = loading_none g.H.Host old;
      room = refl;
      same_host = refl;
    }

pub take_next-requires : goal.take_next-requires
take_next-requires g c =
    let so_far = c.lines.invariant.reading in
    record {
      ends = c.lines.invariant.ends;
      far = omega (arith, so_far.near, so_far.few);
      stands = stored_holds g.H.Host c.lines.disk.host.now c.lines.disk.rest so_far.recs so_far.stored;
      room = λ few. omega (arith, so_far.many, so_far.held, few, c.requires.most, c.lines.invariant.room);
    }

pub returns-in_err-name-clause-bad : goal.returns-in_err-name-clause-bad
returns-in_err-name-clause-bad g c = λ told.
    let old = c.args.disk.now.host.now in
    leaves (IsBad (objects_at 2 0 c.args.next (lines_of (unused c.args.window.now (g.H.Host.roles old Image))))) c.from_residual-in_err-name.result c.in_err-name.field-0.0 c.from_residual-in_err-name.ensures.1
    (stops g.H.Host old c.lines.disk.host.now c.lines.disk.rest c.args.window.now c.lines.window c.lines.number c.lines.last c.args.next c.lines.names c.in_err-name.field-0.0 told c.lines.invariant.reading (c.in_err-name.ensures.bad told))

pub returns-in_err-name-clause-loading : goal.returns-in_err-name-clause-loading
returns-in_err-name-clause-loading g c = loading_then g.H.Host c.args.disk.now.host.now c.lines.disk.host.now c.take_next.new.disk.host.now c.lines.invariant.loading c.take_next.ensures.loading

pub returns-in_err-name-clause-fault : goal.returns-in_err-name-clause-fault
returns-in_err-name-clause-fault g c =
    leaves (IsPartTextFault g.H.Host c.args.disk.now.host.now c.take_next.new.disk.host.now) c.from_residual-in_err-name.result c.in_err-name.field-0.0 c.from_residual-in_err-name.ensures.1
    (text_later g.H.Host c.args.disk.now.host.now c.lines.disk.host.now c.take_next.new.disk.host.now c.in_err-name.field-0.0 c.lines.invariant.loading c.in_err-name.ensures.fault)

pub returns-in_err-push-clause-loading : goal.returns-in_err-push-clause-loading
returns-in_err-push-clause-loading g c = loading_then g.H.Host c.args.disk.now.host.now c.lines.disk.host.now c.take_next.new.disk.host.now c.lines.invariant.loading c.take_next.ensures.loading

pub lines-preserved : goal.lines-preserved
lines-preserved g c =
    let old = c.args.disk.now.host.now in
    let mid = c.lines.disk.host.now in
    let new = c.take_next.new.disk.host.now in
    let after = c.take_next.new.disk.rest in
    let w = c.args.window.now in
    let u = c.take_next.new.window in
    let one = subst (TakesNext g.H.Host mid new c.lines.disk.rest after c.lines.window u c.lines.number c.lines.last c.args.next) c.in-Some.is c.in_ok-name.ensures.takes in
    let more = goes_on g.H.Host old mid new c.lines.disk.rest after w c.lines.window u c.lines.number c.lines.last c.args.next c.in-Some.name c.lines.names c.lines.invariant.reading one in
    record {
      reading = subst (λ (last : ℕ). IsReading g.H.Host old new after w u (c.lines.number + 1) last c.args.next c.push.new.self) (sym c.get-last.ensures.value)
          (subst (λ (names : List ℕ). IsReading g.H.Host old new after w u (c.lines.number + 1) c.in-Some.name c.args.next names) (sym c.in_ok-push.ensures.ok) more);
      ends = c.in_ok-name.ensures.ends;
      loading = loading_then g.H.Host old mid new c.lines.invariant.loading c.take_next.ensures.loading;
      room = c.take_next.ensures.room ∙ c.lines.invariant.room;
      same_host = c.take_next.ensures.same_host ∙ c.lines.invariant.same_host;
    }

pub returns-clause-reads : goal.returns-clause-reads
returns-clause-reads g c =
    let mid = c.lines.disk.host.now in
    let new = c.take_next.new.disk.host.now in
    let after = c.take_next.new.disk.rest in
    let at_end = subst (TakesNext g.H.Host mid new c.lines.disk.rest after c.lines.window c.take_next.new.window c.lines.number c.lines.last c.args.next) c.in_default.is c.in_ok-name.ensures.takes in
    is_done g.H.Host c.args.disk.now.host.now mid new c.lines.disk.rest after c.args.window.now c.lines.window c.lines.number c.lines.last c.args.next c.lines.names c.lines.invariant.reading at_end

pub returns-clause-loading : goal.returns-clause-loading
returns-clause-loading g c = loading_then g.H.Host c.args.disk.now.host.now c.lines.disk.host.now c.take_next.new.disk.host.now c.lines.invariant.loading c.take_next.ensures.loading
