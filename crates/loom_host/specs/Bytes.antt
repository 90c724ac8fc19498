-- The contents of Work, read and written in pieces at places of its own.
use Rattle.std.specs.Prelude.{ℕ, ◌+◌, ◌-◌, ◌&&◌, List, length, map, slice_index, nat_le, nat_lt, if◌then◌else◌, max}
use Rattle.std.specs.List.{range_with_len}

-- the n bytes of w from a place on, zeros past its end
unfoldable pub window : List ℕ → ℕ → ℕ → List ℕ
window w at n = map (λ k. slice_index w k) (range_with_len at n)

-- the byte at k once these bytes stand from a place on
abbrev pub byte_after : List ℕ → ℕ → List ℕ → ℕ → ℕ
byte_after w at bytes k = if nat_le at k && nat_lt k (at + length bytes) then slice_index bytes (k - at) else slice_index w k

-- w with these bytes from a place on, zeros between its end and the place
unfoldable pub overwritten : List ℕ → ℕ → List ℕ → List ℕ
overwritten w at bytes = map (byte_after w at bytes) (range_with_len 0 (max (length w) (at + length bytes)))
