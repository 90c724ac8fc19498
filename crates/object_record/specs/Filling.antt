-- A buffer whose first bytes were filled.
use Rattle.std.specs.Prelude.{ℕ, List, ◌++◌, length, take, drop}
use Rattle.long_names.specs.declared.limits.TheConstants.{LONGEST_RECORD}

-- these bytes, in the place of the first ones; as many as the buffer has are the whole of it (`filled_whole`)
abbrev pub filled_with : List ℕ → List ℕ → List ℕ
filled_with old filling = take LONGEST_RECORD (filling ++ drop (length filling) old)
