-- How a file begins.
use Rattle.std.specs.Prelude.{bytes_eq, Bool, List, length, take, ℕ}

-- its first bytes are these
abbrev pub begins : List ℕ → List ℕ → Bool
begins front bytes = bytes_eq front (take (length front) bytes)
