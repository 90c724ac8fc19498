-- A cache and the calls that made it what it is, the last one first.
use Rattle.std.specs.Prelude.{◌≡◌, ℕ, ◌==◌, ◌&&◌, List, [], ◌∷◌, Option, Some, None, if◌then◌else◌}
use Rattle.method_cache.specs.declared.cache.Cache.{Cache}
use Rattle.method_cache.specs.Found.{found, IsPut}

-- a call that changes a cache
pub data Call : Type 0 where
  Put : (class : ℕ) → (selector : ℕ) → (method : ℕ) → Call
  Clear : Call

-- nothing is found
abbrev pub IsEmpty : Cache → Type 0
IsEmpty cache = (c s : ℕ) → found cache c s ≡ None

-- a cache was made, and these calls came
abbrev pub Comes : List Call → Cache → Type 0
Comes [] cache = IsEmpty cache
Comes (Clear ∷ calls) cache = IsEmpty cache
Comes (Put class selector method ∷ calls) cache = (before : Cache) × Comes calls before × IsPut (found before) (found cache) class selector method

-- the method that was put last for a pair, after the last clear
abbrev pub last_put : List Call → ℕ → ℕ → Option ℕ
last_put [] c s = None
last_put (Clear ∷ calls) c s = None
last_put (Put class selector method ∷ calls) c s = if (class == c) && (selector == s) then Some method else last_put calls c s
