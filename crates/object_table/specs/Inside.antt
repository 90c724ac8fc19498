-- The places of free and of marked entries, as a table keeps them.
use Rattle.std.specs.Prelude.{◌≡◌, ◌≢◌, ℕ, ◌<◌, ◌==◌, Bool, true, false, List, [], ◌∷◌, length, slice_index, slice_index_or, if◌then◌else◌}
use Rattle.std.specs.List.{count_by}
use Rattle.object_table.specs.declared.entry.Entry.{Entry}
use Rattle.object_table.specs.Entries.{is_free, free_entry, with_no_mark}

-- These places are those of the free ones of some entries, each once.
pub record IsVacant (entries : List Entry) (places : List ℕ) : Type 0 where
  pub within : (k : ℕ) → k < length places → slice_index places k < length entries
  pub free : (k : ℕ) → k < length places → is_free (slice_index_or entries (slice_index places k) free_entry) ≡ true
  pub apart : (j k : ℕ) → j < k → k < length places → slice_index places j ≢ slice_index places k
  pub counted : count_by is_free entries ≡ length places

-- a place is among these
abbrev pub names : List ℕ → ℕ → Bool
names [] k = false
names (p ∷ ps) k = if p == k then true else names ps k

abbrev pub yes : Bool → Bool
yes b = b

-- Each marked entry is listed, and the listed ones are those at these places, as many as they are.
pub record IsNoted (entries : List Entry) (listed : List Bool) (places : List ℕ) : Type 0 where
  pub size : length listed ≡ length entries
  pub every : (k : ℕ) → (slice_index_or entries k free_entry).flags.marked ≡ true → slice_index_or listed k false ≡ true
  pub named : (k : ℕ) → slice_index_or listed k false ≡ true → names places k ≡ true
  pub within : (j : ℕ) → j < length places → slice_index places j < length entries
  pub few : count_by yes listed ≡ length places

-- the same entries with no marks
pub record ArePlain (old new : List Entry) : Type 0 where
  pub size : length new ≡ length old
  pub plain : (k : ℕ) → slice_index_or new k free_entry ≡ with_no_mark (slice_index_or old k free_entry)
