use Rattle.std.proofs.Common.{◌<◌, [], refl, arith}
use Rattle.object_memory.proofs.LooksLaws.{Looks-trans}
use Rattle.contexts.proofs.ServesLaws.{serves_then, serves_stop, exits}
use Rattle.contexts.proofs.Steps.{pick_true, pick_false, done_serves}
use Rattle.prims_object.proofs.TextLaws.{text_within, within, past}
use Rattle.prims_object.proofs.WithinLaws.{serves_within}
use Rattle.prims_object.proofs.characters.text_byte.Goals as goal

pub returns-in_err-len-clause-serves : goal.returns-in_err-len-clause-serves
returns-in_err-len-clause-serves g c = λ cpu. exits _ c.from_residual.ensures.1 (serves_within (text_within _ _) (serves_stop _ (c.in_err-len.ensures.serves cpu)))

pub returns-in_default-clause-serves : goal.returns-in_default-clause-serves
returns-in_default-clause-serves g c = λ cpu. serves_within (text_within _ _) (serves_then _ (rw c.in_default.is at (c.in_ok-len.ensures.serves cpu)) (done_serves c.in_ok-len.ensures.fit.ready))

pub returns-then-len-i-clause-serves : goal.returns-then-len-i-clause-serves
returns-then-len-i-clause-serves g c = λ cpu. serves_within (text_within _ _) (serves_then _ (rw c.in-Some.is at (c.in_ok-len.ensures.serves cpu)) (pick_false _ _ _ (past _ _ c.if-len-i.true) (done_serves c.in_ok-len.ensures.fit.ready)))

pub returns-in_err-byte-clause-serves : goal.returns-in_err-byte-clause-serves
returns-in_err-byte-clause-serves g c = λ cpu.
    let same = c.in_ok-len.ensures.looks.regs c.args.of refl in
    let low : c.args.i < c.in-Some.len = omega (arith, c.if-len-i.false) in
    exits _ c.from_residual-in_err-byte.ensures.1 (serves_within (text_within _ _) (serves_then _ (rw c.in-Some.is at (c.in_ok-len.ensures.serves cpu)) (pick_true _ _ _ (within _ _ low) (serves_stop _ (rw same at c.in_err-byte.ensures.serves cpu)))))

pub returns-clause-serves : goal.returns-clause-serves
returns-clause-serves g c = λ cpu.
    let same = c.in_ok-len.ensures.looks.regs c.args.of refl in
    let low : c.args.i < c.in-Some.len = omega (arith, c.if-len-i.false) in
    serves_within (text_within _ _) (serves_then _ (rw c.in-Some.is at (c.in_ok-len.ensures.serves cpu)) (pick_true _ _ _ (within _ _ low) (serves_then _ (rw same at c.in_ok-byte.ensures.serves cpu) (done_serves c.in_ok-byte.ensures.fit.ready))))

pub returns-clause-looks : goal.returns-clause-looks
returns-clause-looks g c = Looks-trans [] [] _ _ _ c.in_ok-len.ensures.fit.ready c.in_ok-len.ensures.looks c.in_ok-byte.ensures.looks
