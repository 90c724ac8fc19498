-- The method cache of a core: its rows are short words, and count as long as marks are there.
use Rattle.std.specs.Prelude.{◌≡◌, ◌⊎◌, ℕ, ◌==◌, ◌&&◌, ◌||◌, Bool, true, false, Option, Some, None}
use Rattle.long_names.specs.declared.value.Value.{Value}
use Rattle.long_names.specs.declared.value.Value.TheVariants.{Ref}
use Rattle.object_table.specs.declared.entry.Entry.{Entry}
use Rattle.object_table.specs.Entries.{is_used}
use Rattle.core_view.specs.Core.{Core}
use Rattle.core_view.specs.Counts.{marked_of}
use Rattle.object_memory.specs.Told.{Cache}

-- an entry is in use and marked
abbrev pub has_mark : Core → ℕ → Bool
has_mark c s = is_used (c.entries s).state && (c.entries s).flags.marked

-- a short word that may be there has this name
abbrev pub is_word_of : (ℕ → Entry) → Option ℕ → ℕ → Bool
is_word_of entries None n = false
is_word_of entries (Some w) n = (entries w).name == n

-- the method of a pair of short words has this name
abbrev pub row_by : (ℕ → Entry) → (ℕ → ℕ → Option ℕ) → Option ℕ → Option ℕ → ℕ → Bool
row_by entries found None t m = false
row_by entries found (Some s) None m = false
row_by entries found (Some s) (Some t) m = is_word_of entries (found s t) m

-- The cache by names: what was found for a pair of short words is a row, while the entry that was marked last still is. The path is
-- whole where it was begun, and no mark went since then.
abbrev pub cache_of : Core → (ℕ → ℕ → Option ℕ) → ℕ → Bool → Cache
cache_of c found mark begun = record {
  rows = λ k n m. has_mark c mark && row_by c.entries found (c.find k) (c.find n) m;
  marks = marked_of c;
  path = begun && ((mark == 0) || has_mark c mark);
}

-- Where the entry that was marked last isn't marked, nothing is; where it is, each row is of marked entries.
pub record IsCached (c : Core) (found : ℕ → ℕ → Option ℕ) (mark : ℕ) : Type 0 where
  pub none : has_mark c mark ≡ false → (n : ℕ) → marked_of c n ≡ false
  pub rows : has_mark c mark ≡ true → (s t w : ℕ) → found s t ≡ Some w → (has_mark c s ≡ true) × (has_mark c t ≡ true) × (has_mark c w ≡ true)

-- The entry that was marked last still is; or there is none, and nothing is found.
abbrev pub IsFresh : Core → (ℕ → ℕ → Option ℕ) → ℕ → Type 0
IsFresh c found mark = (has_mark c mark ≡ true) ⊎ ((mark ≡ 0) × ((s t : ℕ) → found s t ≡ None))

-- an entry with its mark
abbrev pub with_its_mark : Entry → Entry
with_its_mark e = record e { flags = record e.flags { marked = true } }

-- The row of a pair of values was put into a cache: each other pair is answered as before, but at most one.
pub record IsPutAlone (old new : Cache) (class selector : Value) : Type 0 where
  -- the pair that may be lost
  pub lost_class : ℕ
  pub lost_selector : ℕ
  pub others : (c s m : ℕ) → ((class ≡ Ref c) × (selector ≡ Ref s) → ⊥) → ((c ≡ lost_class) × (s ≡ lost_selector) → ⊥) → new.rows c s m ≡ old.rows c s m
