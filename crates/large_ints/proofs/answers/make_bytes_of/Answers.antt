use Rattle.std.proofs.Common.{ap, arith}
use Rattle.long_names.specs.Objects.{OfBytes}
use Rattle.object_memory.proofs.Callers.{may_make}
use Rattle.object_memory.proofs.MadeLaws.{made_there, made_bytes}
use Rattle.contexts.proofs.ServesLaws.{serves_then, serves_stop}
use Rattle.contexts.proofs.ReadLaws.{exits_with}
use Rattle.contexts.proofs.Steps.{done_same}
use Rattle.contexts.proofs.MakeLaws.{make_serves, make_refused}
use Rattle.large_ints.specs.Answers.{make_bytes_of}
use Rattle.large_ints.proofs.answers.make_bytes_of.Goals as goal

pub new_bytes-requires-clause-may : goal.new_bytes-requires-clause-may
new_bytes-requires-clause-may g c = may_make _ 12 19 (OfBytes c.byte_count.result) c.requires.class (omega (arith, c.byte_count.ensures.few))

pub returns-in_err-new_bytes-clause-serves : goal.returns-in_err-new_bytes-clause-serves
unfolding make_bytes_of
returns-in_err-new_bytes-clause-serves g c = λ cpu.
    exits_with _ _ c.from_residual.ensures.1 (serves_stop _ (rw c.byte_count.ensures.count at (make_refused {cpu = cpu} 12 19 (OfBytes c.byte_count.result) c.requires.fit.ready c.in_err-new_bytes.ensures.access.called)))

pub put_bytes-requires-clause-there : goal.put_bytes-requires-clause-there
put_bytes-requires-clause-there g c =
    let made = c.in_ok-new_bytes.ensures in
    rw c.byte_count.ensures.count at (made_bytes _ 12 c.byte_count.result (made_there _ _ 12 19 (OfBytes c.byte_count.result) made.fit.ready made.access.called made.name))

pub returns-in_err-put_bytes-clause-serves : goal.returns-in_err-put_bytes-clause-serves
unfolding make_bytes_of
returns-in_err-put_bytes-clause-serves g c = λ cpu.
    let made = c.in_ok-new_bytes.ensures in
    exits_with _ _ c.from_residual-in_err-put_bytes.ensures.1
    (serves_then _ (rw c.byte_count.ensures.count at (make_serves {cpu = cpu} 12 19 (OfBytes c.byte_count.result) (omega arith) c.requires.fit.ready made.fit.ready made.access))
    (serves_stop _ (c.in_err-put_bytes.ensures.serves cpu)))

pub returns-clause-serves : goal.returns-clause-serves
unfolding make_bytes_of
returns-clause-serves g c = λ cpu.
    let made = c.in_ok-new_bytes.ensures in
    let put = c.in_ok-put_bytes.ensures in
    serves_then _ (rw c.byte_count.ensures.count at (make_serves {cpu = cpu} 12 19 (OfBytes c.byte_count.result) (omega arith) c.requires.fit.ready made.fit.ready made.access))
    (serves_then _ (put.serves cpu) (done_same (ap (λ f. f 12) put.regs) put.fit.ready))
