use Rattle.std.proofs.Common.{[], ◌∷◌, refl, sym}
use Rattle.object_memory.proofs.LooksLaws.{Looks-trans}
use Rattle.blue_model.specs.LargeInts.{large_value}
use Rattle.contexts.proofs.Frames.{below}
use Rattle.contexts.proofs.ServesLaws.{exits}
use Rattle.contexts.proofs.PeekPairs.{peek_fault, later_fault, peek_none, peek_join}
use Rattle.large_ints.specs.Operands.{sign_in, magnitude_in, value_by}
use Rattle.large_ints.proofs.OperandLaws.{value_made, unsigned_none}
use Rattle.large_ints.proofs.operands.large_value.Goals as goal

pub returns-in_err-negative-clause-serves : goal.returns-in_err-negative-clause-serves
returns-in_err-negative-clause-serves g c = λ cpu. exits _ c.from_residual.ensures.1 (peek_fault sign_in large_value c.args.of c.requires.fit.ready (c.in_err-negative.ensures.serves cpu))

pub returns-in_default-clause-serves : goal.returns-in_default-clause-serves
returns-in_default-clause-serves g c = λ cpu. peek_none sign_in large_value c.args.of _ c.in_default.is unsigned_none c.requires.fit.ready (c.in_ok-negative.ensures.serves cpu)

pub returns-in_err-size-clause-serves : goal.returns-in_err-size-clause-serves
returns-in_err-size-clause-serves g c = λ cpu.
    let sign = c.in_ok-negative.ensures in
    exits _ c.from_residual-in_err-size.ensures.1 (later_fault (19 ∷ []) magnitude_in large_value c.args.of refl (below 19 c.args.of c.requires.low) c.requires.fit.ready sign.fit.ready sign.looks (c.in_err-size.ensures.serves cpu))

pub returns-in_default-2-clause-serves : goal.returns-in_default-2-clause-serves
returns-in_default-2-clause-serves g c = λ cpu.
    let sign = c.in_ok-negative.ensures in
    let same = sign.looks.regs c.args.of (below 19 c.args.of c.requires.low) in
    rw c.in_default-2.is at (peek_join sign_in magnitude_in large_value value_by c.args.of _ _ value_made refl same c.requires.fit.ready (sign.serves cpu) (c.in_ok-size.ensures.serves cpu))

pub returns-clause-serves : goal.returns-clause-serves
returns-clause-serves g c = λ cpu.
    let sign = c.in_ok-negative.ensures in
    let same = sign.looks.regs c.args.of (below 19 c.args.of c.requires.low) in
    rw (c.in-Some.is, c.in-Some-2.is, sym c.signed.ensures.number) at (peek_join sign_in magnitude_in large_value value_by c.args.of _ _ value_made refl same c.requires.fit.ready (sign.serves cpu) (c.in_ok-size.ensures.serves cpu))

pub returns-in_default-2-clause-looks : goal.returns-in_default-2-clause-looks
returns-in_default-2-clause-looks g c = Looks-trans (19 ∷ []) [] _ _ _ c.in_ok-negative.ensures.fit.ready c.in_ok-negative.ensures.looks c.in_ok-size.ensures.looks

pub returns-clause-looks : goal.returns-clause-looks
returns-clause-looks g c = Looks-trans (19 ∷ []) [] _ _ _ c.in_ok-negative.ensures.fit.ready c.in_ok-negative.ensures.looks c.in_ok-size.ensures.looks
