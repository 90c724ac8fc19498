-- A method's header as a number (chapter 27, compiled methods).
use Rattle.std.specs.Prelude.{ℕ, ℤ, pos, ◌+◌, ◌*◌, ◌%◌, ◌-ℤ◌, nat_lt, if◌then◌else◌}
use Rattle.long_names.specs.declared.limits.TheConstants.{SMALL_INTEGERS}
use Rattle.sample_images.specs.declared.notation.Header.{Header}

-- its fifteen bits, from the highest: the flag, the temporaries, whether the context is large, the number of literals
abbrev pub bits_of : Header → ℕ → ℕ
bits_of h literals = (h.flag % 8) * 4096 + (h.temporaries % 32) * 128 + (if h.is_large then 64 else 0) + literals % 64

-- the SmallInteger of these bits
abbrev pub number_of : Header → ℕ → ℤ
number_of h literals = if nat_lt (bits_of h literals) SMALL_INTEGERS then pos (bits_of h literals) else (pos (bits_of h literals) -ℤ pos (2 * SMALL_INTEGERS))
