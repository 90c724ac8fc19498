-- What a cache stands for: a function from a class and a selector to a method.
use Rattle.std.specs.Prelude.{◌≡◌, ℕ, ◌+◌, ◌/◌, ◌%◌, ◌==◌, ◌&&◌, ◌⊎◌, Bool, Option, Some, None, unwrap_or, if◌then◌else◌}
use Rattle.std.specs.List.{slice_get}
use Rattle.method_cache.specs.declared.cache.Cache.{Cache}
use Rattle.method_cache.specs.declared.cache.Row.{Row}

-- the row of a pair: the names are even numbers
abbrev pub place_of : ℕ → ℕ → ℕ
place_of class selector = (class / 2 + selector / 2) % 256

-- a row has this pair
abbrev pub is_of : Row → ℕ → ℕ → Bool
is_of row class selector = (row.class == class) && (row.selector == selector)

-- the method of a pair in what stands in its row
abbrev pub method_in : Option Row → ℕ → ℕ → Option ℕ
method_in None class selector = None
method_in (Some row) class selector = if is_of row class selector then Some row.method else None

-- the method that is found for a pair
unfoldable pub found : Cache → ℕ → ℕ → Option ℕ
found cache class selector = method_in (unwrap_or (slice_get cache.rows (place_of class selector)) None) class selector

-- The method of a pair was put: the second finds it for the pair, and finds for each other pair what the first found, but that at most
-- one other pair has nothing any more.
pub record IsPut (old new : ℕ → ℕ → Option ℕ) (class selector method : ℕ) : Type 0 where
  pub here : new class selector ≡ Some method
  -- the pair that may be lost
  pub lost_class : ℕ
  pub lost_selector : ℕ
  pub lost : (new lost_class lost_selector ≡ None) ⊎ ((lost_class ≡ class) × (lost_selector ≡ selector))
  pub others : (c s : ℕ) → ((c ≡ class) × (s ≡ selector) → ⊥) → ((c ≡ lost_class) × (s ≡ lost_selector) → ⊥) → new c s ≡ old c s
