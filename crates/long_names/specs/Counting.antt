-- Counts that stand still at the greatest number of 64 bits.
use Rattle.std.specs.Prelude.{ℕ, ◌+◌, ◌-◌, ◌^◌, ◌≤◌, min}

-- one more
abbrev pub counted : ℕ → ℕ
counted n = min (n + 1) (2 ^ 64 - 1)

-- the count has risen, or stands at the greatest
abbrev pub Rose : ℕ → ℕ → Type 0
Rose before now = counted before ≤ now
