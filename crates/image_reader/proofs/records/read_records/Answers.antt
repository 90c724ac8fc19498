use Rattle.std.proofs.Common.{◌+◌, ◌<◌, ◌++◌, ◌∷◌, [], ℕ, List, sym, subst, ◌∙◌, refl, arith}
use Rattle.loom_host.specs.declared.outside.Role.TheVariants.{Image}
use Rattle.image_format.specs.Rules.{records_at}
use Rattle.image_reader.specs.declared.fault.LoadFault.TheVariants.{Memory}
use Rattle.image_reader.specs.Frames.{IsHalted, IsPartFault}
use Rattle.image_reader.specs.Inside.{IsReading}
use Rattle.image_reader.specs.Window.{file_end, unused}
use Rattle.image_reader.proofs.Frames.{loading_none, loading_then, fault_later, leaves}
use Rattle.image_reader.proofs.Reading.{begins, goes_on, stops, is_done}
use Rattle.image_reader.proofs.Stored.{stored_holds}
use Rattle.image_reader.proofs.records.read_records.Goals as goal

pub returns-in_err-buf-clause-halted : goal.returns-in_err-buf-clause-halted
returns-in_err-buf-clause-halted g c = λ told.
    leaves (IsHalted (file_end c.args.window.now (g.H.Host.roles c.args.disk.now.host.now Image).left) (records_at c.args.opening.now.objects 0 c.args.opening.now.next (unused c.args.window.now (g.H.Host.roles c.args.disk.now.host.now Image)))) c.from_residual.result Memory c.from_residual.ensures.1 tt

pub returns-in_err-buf-clause-loading : goal.returns-in_err-buf-clause-loading
returns-in_err-buf-clause-loading g c = loading_none g.H.Host c.args.disk.now.host.now

pub returns-in_err-buf-clause-fault : goal.returns-in_err-buf-clause-fault
returns-in_err-buf-clause-fault g c = leaves (IsPartFault g.H.Host c.args.disk.now.host.now c.args.disk.now.host.now) c.from_residual.result Memory c.from_residual.ensures.1 tt

pub records-init : goal.records-init
records-init g c = record {
  reading = subst (λ (stated : List ℕ). IsReading g.H.Host c.args.disk.now.host.now c.args.disk.now.host.now c.args.disk.now.rest c.args.window.now c.args.window.now c.args.opening.now.objects 0 0 c.args.opening.now.next c.new-2.result stated) (sym c.new-3.ensures.items)
      (subst (λ (names : List ℕ). IsReading g.H.Host c.args.disk.now.host.now c.args.disk.now.host.now c.args.disk.now.rest c.args.window.now c.args.window.now c.args.opening.now.objects 0 0 c.args.opening.now.next names []) (sym c.new-2.ensures)
      (begins g.H.Host c.args.disk.now.host.now c.args.disk.now.rest c.args.window.now c.args.opening.now.objects c.args.opening.now.next c.requires.start c.requires.none c.requires.empty));
  ends = c.requires.ends;
  loading = loading_none g.H.Host c.args.disk.now.host.now;
  room = refl;
  same_host = refl;
}

pub take_next-requires : goal.take_next-requires
take_next-requires g c =
    let so_far = c.records.invariant.reading in
    let turn : c.records.counter < c.args.opening.now.objects = c.records-test.true in
    record {
      ends = c.records.invariant.ends;
      far = omega (arith, so_far.near, turn, c.requires.few);
      stands = stored_holds g.H.Host c.records.disk.host.now c.records.disk.rest so_far.recs so_far.stored;
      room = omega (arith, so_far.held, turn, c.requires.fits, c.records.invariant.room);
    }

pub returns-in_err-measure-clause-halted : goal.returns-in_err-measure-clause-halted
returns-in_err-measure-clause-halted g c = λ told.
    let so_far = c.records.invariant.reading in
    leaves (IsHalted (file_end c.args.window.now (g.H.Host.roles c.args.disk.now.host.now Image).left) (records_at c.args.opening.now.objects 0 c.args.opening.now.next (unused c.args.window.now (g.H.Host.roles c.args.disk.now.host.now Image)))) c.from_residual-in_err-measure.result c.in_err-measure.field-0.0 c.from_residual-in_err-measure.ensures.1
    (stops g.H.Host c.args.disk.now.host.now c.records.disk.host.now c.records.disk.rest c.args.window.now c.records.window c.args.opening.now.objects c.records.counter c.records.last c.args.opening.now.next c.records.listed.names c.records.listed.stated.items c.in_err-measure.field-0.0 c.records-test.true told so_far (c.in_err-measure.ensures.halted told))

pub returns-in_err-measure-clause-loading : goal.returns-in_err-measure-clause-loading
returns-in_err-measure-clause-loading g c = loading_then g.H.Host c.args.disk.now.host.now c.records.disk.host.now c.take_next.new.disk.host.now c.records.invariant.loading c.take_next.ensures.loading

pub returns-in_err-measure-clause-fault : goal.returns-in_err-measure-clause-fault
returns-in_err-measure-clause-fault g c =
    leaves (IsPartFault g.H.Host c.args.disk.now.host.now c.take_next.new.disk.host.now) c.from_residual-in_err-measure.result c.in_err-measure.field-0.0 c.from_residual-in_err-measure.ensures.1
    (fault_later g.H.Host c.args.disk.now.host.now c.records.disk.host.now c.take_next.new.disk.host.now c.in_err-measure.field-0.0 c.records.invariant.loading c.in_err-measure.ensures.fault)

pub returns-in_err-push-clause-halted : goal.returns-in_err-push-clause-halted
returns-in_err-push-clause-halted g c = λ told.
    leaves (IsHalted (file_end c.args.window.now (g.H.Host.roles c.args.disk.now.host.now Image).left) (records_at c.args.opening.now.objects 0 c.args.opening.now.next (unused c.args.window.now (g.H.Host.roles c.args.disk.now.host.now Image)))) c.from_residual-in_err-push.result Memory c.from_residual-in_err-push.ensures.1 tt

pub returns-in_err-push-clause-loading : goal.returns-in_err-push-clause-loading
returns-in_err-push-clause-loading g c = loading_then g.H.Host c.args.disk.now.host.now c.records.disk.host.now c.take_next.new.disk.host.now c.records.invariant.loading c.take_next.ensures.loading

pub returns-in_err-push-clause-fault : goal.returns-in_err-push-clause-fault
returns-in_err-push-clause-fault g c = leaves (IsPartFault g.H.Host c.args.disk.now.host.now c.take_next.new.disk.host.now) c.from_residual-in_err-push.result Memory c.from_residual-in_err-push.ensures.1 tt

pub records-preserved : goal.records-preserved
records-preserved g c =
    let more = goes_on g.H.Host c.args.disk.now.host.now c.records.disk.host.now c.take_next.new.disk.host.now c.records.disk.rest c.take_next.new.disk.rest c.args.window.now c.records.window c.take_next.new.window c.args.opening.now.objects c.records.counter c.records.last c.args.opening.now.next c.in_ok-measure.measure.name c.in_ok-measure.measure.count c.records.listed.names c.records.listed.stated.items
    c.records-test.true c.records.invariant.reading c.in_ok-measure.ensures.takes in
    record {
      reading = subst (λ (last : ℕ). IsReading g.H.Host c.args.disk.now.host.now c.take_next.new.disk.host.now c.take_next.new.disk.rest c.args.window.now c.take_next.new.window c.args.opening.now.objects (c.records.counter + 1) last c.args.opening.now.next c.push.new.self.names c.push.new.self.stated.items) (sym c.get-last.ensures.value)
          (subst (λ (names : List ℕ). IsReading g.H.Host c.args.disk.now.host.now c.take_next.new.disk.host.now c.take_next.new.disk.rest c.args.window.now c.take_next.new.window c.args.opening.now.objects (c.records.counter + 1) c.in_ok-measure.measure.name c.args.opening.now.next names c.push.new.self.stated.items) (sym c.in_ok-push.ensures.names)
          (subst (λ (stated : List ℕ). IsReading g.H.Host c.args.disk.now.host.now c.take_next.new.disk.host.now c.take_next.new.disk.rest c.args.window.now c.take_next.new.window c.args.opening.now.objects (c.records.counter + 1) c.in_ok-measure.measure.name c.args.opening.now.next (c.records.listed.names ++ c.in_ok-measure.measure.name ∷ []) stated) (sym c.in_ok-push.ensures.stated) more));
      ends = c.in_ok-measure.ensures.ends;
      loading = loading_then g.H.Host c.args.disk.now.host.now c.records.disk.host.now c.take_next.new.disk.host.now c.records.invariant.loading c.take_next.ensures.loading;
      room = c.take_next.ensures.room ∙ c.records.invariant.room;
      same_host = c.take_next.ensures.same_host ∙ c.records.invariant.same_host;
    }

pub returns-clause-takes : goal.returns-clause-takes
returns-clause-takes g c = is_done g.H.Host c.args.disk.now.host.now c.records.disk.host.now c.records.disk.rest c.args.window.now c.records.window c.args.opening.now.objects c.records.counter c.records.last c.args.opening.now.next c.records.listed.names c.records.listed.stated.items (omega arith) (omega arith) c.records.invariant.reading
