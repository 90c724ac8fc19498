-- Searches in a table with linear probing, and what it is with a slot put there or taken out.
use Rattle.std.specs.Prelude.{◌≡◌, ◌≢◌, ℕ, ◌-◌, ◌<◌, ◌==◌, if◌then◌else◌, None}
use Rattle.probing.specs.Table.{turned, looked_up, IsTable}

-- this many steps of the search for a name met used slots of other names
pub record IsPassed (homes : ℕ → ℕ → ℕ) (names : ℕ → ℕ) (n name steps : ℕ) : Type 0 where
  pub used : (e : ℕ) → e < steps → names (turned (homes name n) e n) ≢ 0
  pub others : (e : ℕ) → e < steps → names (turned (homes name n) e n) ≢ name

-- the search for this name meets this empty slot first
pub record IsVacancy (homes : ℕ → ℕ → ℕ) (names : ℕ → ℕ) (n name at : ℕ) : Type 0 where
  pub steps : ℕ
  pub within : steps < n
  pub place_is : turned (homes name n) steps n ≡ at
  pub empty : names at ≡ 0
  pub passed : IsPassed homes names n name steps

-- among n places new is old with this put there, be it a name, a value or a slot
pub record Puts {A : Type 0} (old new : ℕ → A) (n at : ℕ) (put : A) : Type 0 where
  pub here : new at ≡ put
  pub others : (i : ℕ) → i < n → i ≢ at → new i ≡ old i

-- the names with this slot emptied
unfoldable pub without : (ℕ → ℕ) → ℕ → ℕ → ℕ
without names hole i = if i == hole then 0 else names i

-- the new names are a table without the one that stood there, and each other name has the value that it had
pub record IsClosedUp {A : Type 0} (homes : ℕ → ℕ → ℕ) (old new : ℕ → ℕ) (old_values new_values : ℕ → A) (n count at : ℕ) : Type 0 where
  pub table : IsTable homes new n (count - 1)
  pub removed : (name : ℕ) → name ≢ 0
      → looked_up new new_values n name ≡ (if name == old at then None else looked_up old old_values n name)
  -- an empty slot stays empty
  pub empties : (i : ℕ) → i < n → old i ≡ 0 → new i ≡ 0
