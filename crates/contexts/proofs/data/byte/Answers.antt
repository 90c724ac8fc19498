use Rattle.std.proofs.Common.{[], refl, sym, ◌∙◌, arith}
use Rattle.long_names.specs.Objects.{bytes_of}
use Rattle.long_names.specs.Access.{Byte}
use Rattle.object_memory.proofs.LooksLaws.{Looks-read, Looks-trans, Looks-access, part_looked}
use Rattle.object_memory.proofs.ShapeLaws.{number_answer}
use Rattle.blue_model.specs.declared.cause.Cause.TheVariants.{Shape}
use Rattle.blue_model.specs.Elements.{byte_of_object}
use Rattle.contexts.proofs.ServesLaws.{exits}
use Rattle.contexts.proofs.ReadLaws.{read_serves, read_stuck, read_refused, later_refused}
use Rattle.contexts.proofs.PartLaws.{element_none}
use Rattle.contexts.proofs.StoreLaws.{byte_of}
use Rattle.contexts.proofs.data.byte.Goals as goal

pub returns-in_err-has_bytes-clause-serves : goal.returns-in_err-has_bytes-clause-serves
returns-in_err-has_bytes-clause-serves g c = λ cpu. exits _ c.from_residual.ensures.1 (read_refused Shape (byte_of_object c.args.i) c.args.of c.requires.fit.ready c.in_err-has_bytes.ensures.read)

pub returns-then-not-branch-clause-serves : goal.returns-then-not-branch-clause-serves
unfolding byte_of_object
returns-then-not-branch-clause-serves g c = λ cpu.
    let test = c.in_ok-has_bytes.ensures in
    read_stuck [] (byte_of_object c.args.i) c.args.of refl c.requires.fit.ready test.fit.ready (Looks-read _ _ c.args.of test.read) (element_none bytes_of c.args.i (λ xs low. omega arith) test.bytes.before c.if-not-branch.true)

pub returns-in_err-byte-clause-serves : goal.returns-in_err-byte-clause-serves
returns-in_err-byte-clause-serves g c = λ cpu.
    let test = c.in_ok-has_bytes.ensures in
    exits _ c.from_residual-in_err-byte.ensures.1 (later_refused [] Shape (byte_of_object c.args.i) c.args.of (Byte c.args.of c.args.i) refl refl refl c.requires.fit.ready test.fit.ready (Looks-read _ _ c.args.of test.read) (test.bytes.after.name c.if-not-branch.false) c.in_err-byte.ensures.access.called)

pub returns-clause-serves : goal.returns-clause-serves
unfolding byte_of_object
returns-clause-serves g c = λ cpu.
    let t = g.M.ObjectMemory.told c.args.m.now in
    let u = g.M.ObjectMemory.told c.has_bytes.new.m in
    let w = g.M.ObjectMemory.told c.byte.new.self in
    let of = c.args.of in
    let i = c.args.i in
    let test = c.in_ok-has_bytes.ensures in
    let got = c.in_ok-byte.ensures in
    let first = Looks-read t u of test.read in
    let second = Looks-access u w (Byte of i) refl got.access.called in
    read_serves [] Shape (byte_of_object i) of _ refl c.requires.fit.ready got.fit.ready (Looks-trans [] [] t u w test.fit.ready first second)
    (λ told. sym (part_looked [] t u of (byte_of i) test.fit.ready first refl told) ∙ number_answer _ _ (got.access.answer (first.later.tells ∙ told)))

pub returns-clause-looks : goal.returns-clause-looks
returns-clause-looks g c =
    let test = c.in_ok-has_bytes.ensures in
    Looks-trans [] [] _ _ _ test.fit.ready (Looks-read _ _ c.args.of test.read) (Looks-access _ _ (Byte c.args.of c.args.i) refl c.in_ok-byte.ensures.access.called)
