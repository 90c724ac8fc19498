use Rattle.std.proofs.Common.{rules, ◌≡◌, ℕ, ◌+◌, ◌*◌, ◌<◌, pos, ◌-ℤ◌, Fits, w8, w32, to_z, of_z, arith}
use Rattle.std.proofs.lemmas.Int.{ints}
use Rattle.blue_model.specs.Bytecodes.{long_jump}
use Rattle.contexts.proofs.ServesLaws.{serves_then, serves_exit, exits}
use Rattle.bytecodes.proofs.jumps.long_jump.Goals as goal

-- a distance as it was computed, from the number i and the byte
distance_is : (i byte n : ℕ) → i < 8 → byte < 256 → n ≡ byte → to_z w32 (of_z w32 (to_z w32 (256 * i + n) -ℤ pos 1024)) ≡ pos (256 * i + byte) -ℤ pos 1024
distance_is i byte n few small is = omega (arith, ints)

pub returns-in_err-byte-clause-serves : goal.returns-in_err-byte-clause-serves
unfolding long_jump
returns-in_err-byte-clause-serves g c = serves_exit _ _ c.in_err-byte.ensures.serves c.from_residual.ensures.1

pub returns-in_err-jump-clause-serves : goal.returns-in_err-jump-clause-serves
unfolding long_jump
returns-in_err-jump-clause-serves g c =
    let fits : Fits w8 c.in_ok-byte.byte = search rules in
    let distance = distance_is c.args.i c.in_ok-byte.byte c.from.result c.requires.number fits.fits c.from.ensures in
    serves_then _ c.in_ok-byte.ensures.serves (exits _ c.from_residual-in_err-jump.ensures.1 (rw distance at c.in_err-jump.ensures.serves))

pub returns-clause-serves : goal.returns-clause-serves
unfolding long_jump
returns-clause-serves g c =
    let fits : Fits w8 c.in_ok-byte.byte = search rules in
    let distance = distance_is c.args.i c.in_ok-byte.byte c.from.result c.requires.number fits.fits c.from.ensures in
    serves_then _ c.in_ok-byte.ensures.serves (rw distance at c.in_ok-jump.ensures.serves)
