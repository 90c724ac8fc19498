-- The one row of a method cache.
use Rattle.std.specs.Prelude.{ℕ, ◌==◌, ◌&&◌, Bool, false, Option, Some, None}
use Rattle.object_memory.specs.Told.{Told}
use Rattle.bounded_memory.specs.declared.row.CachedRow.{CachedRow}

-- the row has this class, selector and method
abbrev pub is_row : Option CachedRow → ℕ → ℕ → ℕ → Bool
is_row None c s m = false
is_row (Some r) c s m = (r.class == c) && (r.selector == s) && (r.method == m)

-- what is told with a row where this is told without one; the row is lost with the path
abbrev pub with_row : Told → Option CachedRow → Told
with_row t row = record t { cache = record t.cache { rows = λ c s m. t.cache.path && is_row row c s m } }
