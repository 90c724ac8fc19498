use Rattle.std.proofs.Common.{[], Some, None, refl, sym, ◌∙◌, ap}
use Rattle.std.specs.Option.{option_and_then}
use Rattle.long_names.specs.Access.{ReadBytes}
use Rattle.object_memory.proofs.LooksLaws.{Looks-read, Looks-trans, Looks-access, object_looked}
use Rattle.object_memory.proofs.Callers.{may_bytes}
use Rattle.blue_model.specs.Devices.{tick_of}
use Rattle.contexts.proofs.ServesLaws.{exits}
use Rattle.contexts.proofs.PeekLaws.{peek_serves, first_refused, then_refused}
use Rattle.devices.proofs.ClockLaws.{tick_none, tick_there, tick_read}
use Rattle.devices.proofs.ticks.tick_of.Goals as goal

pub returns-in_err-found-clause-serves : goal.returns-in_err-found-clause-serves
returns-in_err-found-clause-serves g c = λ cpu. exits _ c.from_residual.ensures.1 (first_refused tick_of c.args.of c.requires.fit.ready c.in_err-found.ensures.read)

pub returns-then-not-has_tick-clause-serves : goal.returns-then-not-has_tick-clause-serves
returns-then-not-has_tick-clause-serves g c = λ cpu.
    let found = c.in_ok-found.ensures in
    peek_serves [] tick_of c.args.of None refl c.requires.fit.ready found.fit.ready (Looks-read _ _ c.args.of found.read) (tick_none found.shape.before (sym c.has_tick.ensures ∙ c.if-not-has_tick.true))

pub read_bytes-requires-clause-may : goal.read_bytes-requires-clause-may
read_bytes-requires-clause-may g c =
    let found = c.in_ok-found.ensures in
    may_bytes _ c.args.of 0 4 (tick_there found.shape.after (sym c.has_tick.ensures ∙ c.if-not-has_tick.false))

pub returns-in_err-read_bytes-clause-serves : goal.returns-in_err-read_bytes-clause-serves
returns-in_err-read_bytes-clause-serves g c = λ cpu.
    let found = c.in_ok-found.ensures in
    let there = tick_there found.shape.after (sym c.has_tick.ensures ∙ c.if-not-has_tick.false) in
    exits _ c.from_residual-in_err-read_bytes.ensures.1
    (then_refused [] tick_of c.args.of (ReadBytes c.args.of 0 4) refl refl refl c.requires.fit.ready found.fit.ready (Looks-read _ _ c.args.of found.read) there.name c.in_err-read_bytes.ensures.access.called)

pub returns-clause-serves : goal.returns-clause-serves
returns-clause-serves g c = λ cpu.
    let t = g.M.ObjectMemory.told c.args.m.now in
    let u = g.M.ObjectMemory.told c.shape.new.m in
    let w = g.M.ObjectMemory.told c.read_bytes.new.self in
    let of = c.args.of in
    let found = c.in_ok-found.ensures in
    let read = c.in_ok-read_bytes.ensures in
    let is = sym c.has_tick.ensures ∙ c.if-not-has_tick.false in
    let first = Looks-read t u of found.read in
    let second = Looks-access u w (ReadBytes of 0 4) refl read.access.called in
    peek_serves [] tick_of of (Some c.tick_from.result) refl c.requires.fit.ready read.fit.ready (Looks-trans [] [] t u w found.fit.ready first second)
    (λ told.
    let now = first.later.tells ∙ told in
    ap (option_and_then tick_of) (sym (object_looked [] t u of found.fit.ready first refl told))
    ∙ tick_read c.read_bytes.new.out c.tick_from.result found.shape.after is now (read.access.answer now) c.tick_from.ensures)

pub returns-clause-looks : goal.returns-clause-looks
returns-clause-looks g c =
    let found = c.in_ok-found.ensures in
    Looks-trans [] [] _ _ _ found.fit.ready (Looks-read _ _ c.args.of found.read) (Looks-access _ _ (ReadBytes c.args.of 0 4) refl c.in_ok-read_bytes.ensures.access.called)
