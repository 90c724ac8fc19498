-- Where the checkpoints of a vault stand among its bytes: two gates, and two areas of blocks. The first gate and area are those of even serials.
use Rattle.std.specs.Prelude.{ℕ, ◌+◌, ◌*◌, ◌/◌, ◌%◌, ◌&&◌, ◌||◌, ◌==◌, Bool, not, List, Option, Some, None, map, slice_index, nat_le, nat_lt, if◌then◌else◌, ◌<◌, ◌≤◌}
use Rattle.std.specs.List.{range_with_len}
use Rattle.byteorder.specs.Endian.{big_number}
use Rattle.loom_host.specs.Bytes.{window}
use Rattle.checkpoint.specs.declared.layout.TheConstants.{AREAS_AT, BLOCK, GATE_GAP, LENGTH_AT, LEAST_LENGTH, MOST_LENGTH, SERIAL_AT, SERIAL_END}
use Rattle.checkpoint.specs.declared.layout.Gate.{Gate}
use Rattle.checkpoint.specs.declared.point.Point.{Point}

-- ---- the gates

-- the number in the 8 bytes from a place on, the highest byte first
unfoldable pub number_at : List ℕ → ℕ → ℕ
number_at bytes p = big_number 8 (window bytes p 8)

-- the gate that stands first in these bytes
abbrev pub gate_of : List ℕ → Gate
gate_of bytes = record { byte = slice_index bytes 0; serial = number_at bytes SERIAL_AT; len = number_at bytes LENGTH_AT }

-- the gate of the even serials or that of the odd ones
abbrev pub gate_in : List ℕ → ℕ → Gate
gate_in bytes s = record {
  byte = slice_index bytes (GATE_GAP * s);
  serial = number_at bytes (GATE_GAP * s + SERIAL_AT);
  len = number_at bytes (GATE_GAP * s + LENGTH_AT);
}

abbrev pub is_open : Gate → Bool
is_open g = g.byte == 1 && not (g.serial == 0)

-- a serial that none may have, or not this gate, or a length that no image has
abbrev pub is_bad : ℕ → Gate → Bool
is_bad s g = is_open g && (nat_le SERIAL_END g.serial || not (g.serial % 2 == s) || nat_lt g.len LEAST_LENGTH || nat_lt MOST_LENGTH g.len)

-- the place of the first gate that is bad
abbrev pub bad_place : List ℕ → Option ℕ
bad_place bytes = if is_bad 0 (gate_in bytes 0) then Some 0 else (if is_bad 1 (gate_in bytes 1) then Some GATE_GAP else None)

-- ---- the checkpoint that is found

abbrev pub point_of : Gate → Option Point
point_of g = if is_open g then Some (record { serial = g.serial; len = g.len }) else None

-- that of the larger serial
abbrev pub later_of : Option Point → Option Point → Option Point
later_of (Some p) (Some q) = Some (if nat_lt p.serial q.serial then q else p)
later_of (Some p) None = Some p
later_of None q = q

abbrev pub found : List ℕ → Option Point
found bytes = later_of (point_of (gate_in bytes 0)) (point_of (gate_in bytes 1))

-- a point that a vault may have
abbrev pub IsPoint : Point → Type 0
IsPoint p = (0 < p.serial) × (p.serial < SERIAL_END) × (LEAST_LENGTH ≤ p.len) × (p.len ≤ MOST_LENGTH)

-- ---- its image

-- where block b of an area stands
abbrev pub block_place : ℕ → ℕ → ℕ
block_place s b = AREAS_AT + (2 * b + s) * BLOCK

-- where byte j of the image in an area stands
abbrev pub image_place : ℕ → ℕ → ℕ
image_place s j = block_place s (j / BLOCK) + j % BLOCK

-- the first n bytes of the image in an area
unfoldable pub area_in : List ℕ → ℕ → ℕ → List ℕ
area_in bytes s n = map (λ j. slice_index bytes (image_place s j)) (range_with_len 0 n)

abbrev pub image_in : List ℕ → Point → List ℕ
image_in bytes p = area_in bytes (p.serial % 2) p.len
