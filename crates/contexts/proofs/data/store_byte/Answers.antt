use Rattle.std.proofs.Common.{[], refl, arith}
use Rattle.long_names.specs.Objects.{bytes_of}
use Rattle.long_names.specs.Access.{KindOf, SetByte}
use Rattle.object_memory.proofs.LooksLaws.{Looks-read}
use Rattle.object_memory.proofs.ShapeLaws.{has_passed}
use Rattle.blue_model.specs.Machine.{store_byte}
use Rattle.contexts.proofs.ServesLaws.{exits}
use Rattle.contexts.proofs.Steps.{stuck_last}
use Rattle.contexts.proofs.ReadLaws.{quiet}
use Rattle.contexts.proofs.PartLaws.{element_there, element_none}
use Rattle.contexts.proofs.StoreLaws.{byte_of, with_byte, byte_serves, change_refused, change_stuck, change_later}
use Rattle.contexts.proofs.data.store_byte.Goals as goal

pub returns-in_err-has_bytes-clause-serves : goal.returns-in_err-has_bytes-clause-serves
unfolding store_byte
returns-in_err-has_bytes-clause-serves g c = λ cpu.
    let read = c.in_err-has_bytes.ensures.read in
    exits _ c.from_residual.ensures.1 (change_refused (byte_of c.args.i) (with_byte c.args.i c.args.byte) c.args.of (KindOf c.args.of) refl c.requires.fit.ready read.named read.called)

pub returns-then-not-branch-clause-serves : goal.returns-then-not-branch-clause-serves
unfolding store_byte
returns-then-not-branch-clause-serves g c = λ cpu.
    let test = c.in_ok-has_bytes.ensures in
    stuck_last (change_stuck (byte_of c.args.i) (with_byte c.args.i c.args.byte) c.args.of c.requires.fit.ready (element_none bytes_of c.args.i (λ xs low. omega arith) test.bytes.before c.if-not-branch.true))
    (quiet [] _ _ refl c.requires.fit.ready test.fit.ready (Looks-read _ _ c.args.of test.read))

pub returns-in_err-set_byte-clause-serves : goal.returns-in_err-set_byte-clause-serves
unfolding store_byte
returns-in_err-set_byte-clause-serves g c = λ cpu.
    let test = c.in_ok-has_bytes.ensures in
    exits _ c.from_residual-in_err-set_byte.ensures.1
    (change_later (byte_of c.args.i) (with_byte c.args.i c.args.byte) c.args.of c.requires.fit.ready test.fit.ready (Looks-read _ _ c.args.of test.read)
    (change_refused (byte_of c.args.i) (with_byte c.args.i c.args.byte) c.args.of (SetByte c.args.of c.args.i c.args.byte) refl test.fit.ready (test.bytes.after.name c.if-not-branch.false) c.in_err-set_byte.ensures.access.called))

pub returns-clause-serves : goal.returns-clause-serves
unfolding store_byte
returns-clause-serves g c = λ cpu.
    let test = c.in_ok-has_bytes.ensures in
    let stored = c.in_ok-set_byte.ensures in
    let there = element_there bytes_of c.args.i (has_passed test.bytes.after c.if-not-branch.false) in
    change_later (byte_of c.args.i) (with_byte c.args.i c.args.byte) c.args.of c.requires.fit.ready test.fit.ready (Looks-read _ _ c.args.of test.read)
    (byte_serves c.args.of c.args.i c.args.byte test.fit.ready stored.fit.ready there stored.access.called)
