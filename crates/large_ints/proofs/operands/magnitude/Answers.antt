use Rattle.std.proofs.Common.{arith}
use Rattle.large_ints.proofs.ByteLaws.{low_from, bytes_low}
use Rattle.large_ints.proofs.operands.magnitude.Goals as goal

pub overflow_mul-n : goal.overflow_mul-n
overflow_mul-n c =
    let low = low_from c.args.bytes.now c.loop-i.i 15 (bytes_low c.args.bytes.now c.type_inv.bytes) (omega (arith, c.requires.few, c.loop-i-test.true)) in
    record { fits = omega (arith, c.loop-i.invariant.number) }

pub overflow_add-n : goal.overflow_add-n
overflow_add-n c =
    let low = low_from c.args.bytes.now c.loop-i.i 15 (bytes_low c.args.bytes.now c.type_inv.bytes) (omega (arith, c.requires.few, c.loop-i-test.true)) in
    record { fits = omega (arith, c.loop-i.invariant.number, c.from.ensures) }
