-- A table of slots with linear probing, as the function from a slot to the name in it. An empty slot has the name 0.
use Rattle.std.specs.Prelude.{◌≡◌, ◌≢◌, ℕ, zero, suc, ◌+◌, ◌-◌, ◌<◌, ◌==◌, nat_lt, nat_le, if◌then◌else◌, List, [], ◌∷◌, Option, Some, None}
use Rattle.std.specs.Ordering.{nat_cmp}
use Rattle.std.specs.FinMap as map

-- how many of the first n slots are used
unfoldable pub used : (ℕ → ℕ) → ℕ → ℕ
used names zero = 0
used names (suc n) = used names n + (if names n == 0 then 0 else 1)

-- d slots on from home, around the end
unfoldable pub turned : ℕ → ℕ → ℕ → ℕ
turned home d n = if nat_lt (home + d) n then home + d else home + d - n

-- how many slots on from a the slot b is, around the end
unfoldable pub apart : ℕ → ℕ → ℕ → ℕ
apart a b n = if nat_le a b then b - a else b + n - a

-- n slots of which this many are used, each name at most once, with no empty slot between its home and it. The home of a name among n
-- slots is the table's own choice
pub record IsTable (homes : ℕ → ℕ → ℕ) (names : ℕ → ℕ) (n count : ℕ) : Type 0 where
  pub count_is : used names n ≡ count
  pub distinct : (i j : ℕ) → i < n → j < n → names i ≢ 0 → names i ≡ names j → i ≡ j
  pub reached : (name d e : ℕ) → name ≢ 0 → d < n → names (turned (homes name n) d n) ≡ name → e < d
      → names (turned (homes name n) e n) ≢ 0

-- ---- what a table stands for, with a value in each slot

-- the value of a name among the first n slots
unfoldable pub looked_up : {A : Type 0} → (ℕ → ℕ) → (ℕ → A) → ℕ → ℕ → Option A
looked_up names values zero name = None
looked_up names values (suc n) name = if names n == name then Some (values n) else looked_up names values n name

-- the names and values of the used ones among the first n slots
abbrev pub used_slots : {A : Type 0} → (ℕ → ℕ) → (ℕ → A) → ℕ → List (ℕ × A)
used_slots names values zero = []
used_slots names values (suc n) = if names n == 0 then used_slots names values n else (names n, values n) ∷ used_slots names values n

-- the map that the first n slots stand for
unfoldable pub map_of : {A : Type 0} → (ℕ → ℕ) → (ℕ → A) → ℕ → map.FinMap nat_cmp A
map_of names values n = map.from_entries (used_slots names values n)
