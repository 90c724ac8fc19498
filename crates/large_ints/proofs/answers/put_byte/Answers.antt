use Rattle.std.proofs.Common.{refl, arith, ◌<◌, ◌≤◌, ◌+◌, ◌≡◌}
use Rattle.long_names.specs.Objects.{bytes_of}
use Rattle.long_names.specs.Access.{SetByte}
use Rattle.object_memory.proofs.Callers.{may_set_byte}
use Rattle.object_memory.proofs.LeftLaws.{bytes_stored}
use Rattle.blue_model.specs.Machine.{store_byte}
use Rattle.contexts.proofs.ServesLaws.{exits}
use Rattle.contexts.proofs.PartLaws.{element_there}
use Rattle.contexts.proofs.StoreLaws.{byte_of, with_byte, byte_serves, change_refused}
use Rattle.large_ints.proofs.AnswerLaws.{has_size}
use Rattle.large_ints.proofs.answers.put_byte.Goals as goal

pub set_byte-requires-clause-may : goal.set_byte-requires-clause-may
set_byte-requires-clause-may g c = may_set_byte _ 12 c.args.i c.args.byte c.requires.there c.ranges.byte.fits

pub returns-in_err-set_byte-clause-serves : goal.returns-in_err-set_byte-clause-serves
unfolding store_byte
returns-in_err-set_byte-clause-serves g c = λ cpu. exits _ c.from_residual.ensures.1 (change_refused (byte_of c.args.i) (with_byte c.args.i c.args.byte) 12 (SetByte 12 c.args.i c.args.byte) refl c.requires.fit.ready c.requires.there.name c.in_err-set_byte.ensures.access.called)

pub returns-clause-serves : goal.returns-clause-serves
returns-clause-serves g c = λ cpu.
    let stored = c.in_ok-set_byte.ensures in
    byte_serves 12 c.args.i c.args.byte c.requires.fit.ready stored.fit.ready (element_there bytes_of c.args.i (has_size (λ n. c.args.i < n) (λ n. c.args.i + 1 ≤ n) (λ n low. omega arith) c.requires.there)) stored.access.called

pub returns-clause-regs : goal.returns-clause-regs
returns-clause-regs g c = c.in_ok-set_byte.ensures.access.called.ok.regs

pub returns-clause-size : goal.returns-clause-size
returns-clause-size g c = λ n known.
    let stored = c.in_ok-set_byte.ensures in
    bytes_stored _ _ (SetByte 12 c.args.i c.args.byte) 12 12 (λ k. k ≡ n) refl refl (may_set_byte _ 12 c.args.i c.args.byte c.requires.there c.ranges.byte.fits) stored.fit.ready stored.access.called known
