-- The two sums that a PNG file has over its bytes: the cyclic redundancy check of each chunk (ISO 3309, as the PNG standard has it), and the sum
-- of Adler behind a zlib stream (RFC 1950).
use Rattle.std.specs.Prelude.{ℕ, ◌+◌, ◌*◌, ◌/◌, ◌%◌, List, bit_xor, if◌then◌else◌, ◌==◌}
use Rattle.std.specs.List.{fold}
use Rattle.st80_picture.specs.declared.sums.Adler.{Adler}

-- one bit of the check, the lowest first: its polynomial has the bits of 0xEDB88320
abbrev pub crc_bit : ℕ → ℕ
crc_bit register = if register % 2 == 1 then bit_xor (register / 2) 0xEDB88320 else register / 2

unfoldable pub crc_half : ℕ → ℕ
crc_half register = crc_bit (crc_bit (crc_bit (crc_bit register)))

-- the eight bits of a byte
unfoldable pub crc_byte : ℕ → ℕ → ℕ
crc_byte register byte = crc_half (crc_half (bit_xor register byte))

-- the register begins with 32 ones, and is inverted behind the last byte
unfoldable pub crc32 : List ℕ → ℕ
crc32 bytes = bit_xor (fold crc_byte 0xFFFFFFFF bytes) 0xFFFFFFFF

-- The lower half has 1 and all bytes, the upper one each value that the lower half had; both modulo the largest prime below 2^16.
abbrev pub adler_byte : Adler → ℕ → Adler
adler_byte sums byte =
    let low = (sums.low + byte) % 65521 in
    record { low = low; high = (sums.high + low) % 65521 }

unfoldable pub adler_sums : List ℕ → Adler
adler_sums bytes = fold adler_byte (record { low = 1; high = 0 }) bytes

unfoldable pub adler32 : List ℕ → ℕ
adler32 bytes = (adler_sums bytes).high * 65536 + (adler_sums bytes).low
