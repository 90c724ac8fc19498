-- What BitBlt makes of the words of one row.
use Rattle.std.specs.Prelude.{ℕ, Bool, ◌+◌, ◌%◌, List, min, nat_le, nat_lt, ◌&&◌, if◌then◌else◌}
use Rattle.blue_model.specs.Forms.{bit, left_bit}
use Rattle.blue_model.specs.BitBlt.{rule_bit}

-- whether n is at least the first and below the second
abbrev pub within : ℕ → ℕ → ℕ → Bool
within from to n = nat_le from n && nat_lt n to

-- Bit n of a row after the call: the rule of the source bit (skip further on), under the halftone word, and the old bit,
-- from one bit up to another, and the old bit elsewhere.
unfoldable pub row_bit : ℕ → List ℕ → ℕ → ℕ → ℕ → ℕ → List ℕ → ℕ → ℕ
row_bit rule source skip halftone from to row n =
    if within from to n
    then rule_bit rule (min (bit source (skip + n)) (left_bit halftone (n % 16))) (bit row n)
    else bit row n

-- Bit n of a row after the call, where all source bits are 1: the rule of the halftone's bit and the old bit, from one bit up to another.
unfoldable pub fill_bit : ℕ → ℕ → ℕ → ℕ → List ℕ → ℕ → ℕ
fill_bit rule halftone from to row n =
    if within from to n
    then rule_bit rule (left_bit halftone (n % 16)) (bit row n)
    else bit row n
