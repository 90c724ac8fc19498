use Rattle.std.proofs.Common.{[], Some, None, refl, sym, ◌∙◌, ap}
use Rattle.std.specs.Option.{option_and_then}
use Rattle.long_names.specs.Access.{ReadBytes}
use Rattle.object_memory.proofs.LooksLaws.{Looks-read, Looks-trans, Looks-access, object_looked}
use Rattle.object_memory.proofs.Callers.{may_bytes}
use Rattle.contexts.proofs.ServesLaws.{exits}
use Rattle.contexts.proofs.PeekLaws.{peek_serves, first_refused, then_refused}
use Rattle.large_ints.specs.Operands.{magnitude_in}
use Rattle.large_ints.proofs.OperandLaws.{magnitude_none, bytes_there, magnitude_read, few_count}
use Rattle.large_ints.proofs.operands.magnitude_of.Goals as goal

pub returns-in_err-found-clause-serves : goal.returns-in_err-found-clause-serves
returns-in_err-found-clause-serves g c = λ cpu. exits _ c.from_residual.ensures.1 (first_refused magnitude_in c.args.of c.requires.fit.ready c.in_err-found.ensures.read)

pub returns-in_default-clause-serves : goal.returns-in_default-clause-serves
returns-in_default-clause-serves g c = λ cpu.
    let found = c.in_ok-found.ensures in
    peek_serves [] magnitude_in c.args.of None refl c.requires.fit.ready found.fit.ready (Looks-read _ _ c.args.of found.read) (magnitude_none found.shape.before (sym c.few_bytes.ensures.few ∙ c.in_default.is))

pub read_bytes-requires-clause-may : goal.read_bytes-requires-clause-may
read_bytes-requires-clause-may g c =
    let found = c.in_ok-found.ensures in
    may_bytes _ c.args.of 0 _ (bytes_there _ found.shape.after (few_count c.in-Some.len _ c.in-Some.ensures.few c.in-Some.ensures.bound refl))

pub returns-in_err-read_bytes-clause-serves : goal.returns-in_err-read_bytes-clause-serves
returns-in_err-read_bytes-clause-serves g c = λ cpu.
    let found = c.in_ok-found.ensures in
    let there = bytes_there c.in-Some.len found.shape.after (sym c.in-Some.ensures.few) in
    exits _ c.from_residual-in_err-read_bytes.ensures.1
    (then_refused [] magnitude_in c.args.of (ReadBytes c.args.of 0 _) refl refl refl c.requires.fit.ready found.fit.ready (Looks-read _ _ c.args.of found.read) there.name c.in_err-read_bytes.ensures.access.called)

pub returns-clause-serves : goal.returns-clause-serves
returns-clause-serves g c = λ cpu.
    let t = g.M.ObjectMemory.told c.args.m.now in
    let u = g.M.ObjectMemory.told c.shape.new.m in
    let w = g.M.ObjectMemory.told c.read_bytes.new.self in
    let of = c.args.of in
    let found = c.in_ok-found.ensures in
    let read = c.in_ok-read_bytes.ensures in
    let is = few_count c.in-Some.len _ c.in-Some.ensures.few c.in-Some.ensures.bound refl in
    let first = Looks-read t u of found.read in
    let second = Looks-access u w (ReadBytes of 0 _) refl read.access.called in
    peek_serves [] magnitude_in of (Some c.magnitude.result) refl c.requires.fit.ready read.fit.ready (Looks-trans [] [] t u w found.fit.ready first second)
    (λ told.
    let now = first.later.tells ∙ told in
    ap (option_and_then magnitude_in) (sym (object_looked [] t u of found.fit.ready first refl told))
    ∙ magnitude_read _ _ c.magnitude.result found.shape.after is now (read.access.answer now) c.magnitude.ensures)

pub returns-clause-looks : goal.returns-clause-looks
returns-clause-looks g c =
    let found = c.in_ok-found.ensures in
    Looks-trans [] [] _ _ _ found.fit.ready (Looks-read _ _ c.args.of found.read) (Looks-access _ _ (ReadBytes c.args.of 0 _) refl c.in_ok-read_bytes.ensures.access.called)
