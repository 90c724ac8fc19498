use Rattle.std.proofs.Common.{◌≡◌, ℕ, ◌+◌, ◌*◌, ◌/◌, ◌%◌, ◌^◌, ap, ◌∙◌, arith}
use Rattle.probing.specs.Homes.{spread, home_of, block_begin}
use Rattle.probing.proofs.begin.Goals as goal

-- a key is a matter of 32 bits
key-wraps : (a x : ℕ) → spread ((a + x % 2 ^ 32) % 2 ^ 32) ≡ spread (a + x)
unfolding spread
key-wraps a x = omega arith

pub returns-clause-place : goal.returns-clause-place
unfolding block_begin home_of
returns-clause-place c =
    let block = c.args.block in
    let round = block / c.args.blocks in
    c.home.ensures.place ∙ ap (λ (k : ℕ). k * (c.args.blocks * 170) / 2 ^ 32) (key-wraps block (round * round))
