-- The marks of a lookup path, in a core: all stay, or all go at once, and where a call is done, only since a marked object left.
use Rattle.std.specs.Prelude.{◌≡◌, ◌≢◌, ◌⊎◌, ℕ, true, false, Some}
use Rattle.object_table.specs.declared.entry.Entry.{Entry}
use Rattle.object_table.specs.Entries.{is_used, place_of}
use Rattle.core_view.specs.Core.{Core}
use Rattle.core_view.specs.Counts.{marked_of}

-- each marked object is in the core
abbrev pub AreHere : Core → Type 0
AreHere c = (s : ℕ) → is_used (c.entries s).state ≡ true → (c.entries s).flags.marked ≡ true → (p : ℕ) × (place_of (c.entries s).state ≡ Some p)

-- An entry without its mark.
abbrev pub unmarked : Entry → Entry
unmarked e = record e { flags = record e.flags { marked = false } }

-- nothing but marks differs
pub record IsUnmarking (old new : Core) : Type 0 where
  pub find : new.find ≡ old.find
  pub bound : new.bound ≡ old.bound
  pub chunks : new.chunks ≡ old.chunks
  pub entries : (q : ℕ) → (new.entries q ≡ old.entries q) ⊎ (new.entries q ≡ unmarked (old.entries q))

-- each name is marked as before, and what is marked is the same entry
pub record KeepsMarks (old new : Core) : Type 0 where
  pub marks : (n : ℕ) → marked_of new n ≡ marked_of old n
  pub found : (n : ℕ) → marked_of old n ≡ true → new.find n ≡ old.find n

-- All marks stay; or there was one, and there is none.
abbrev pub LeavesMarks : Core → Core → Type 0
LeavesMarks old new = KeepsMarks old new ⊎ (((n : ℕ) × (marked_of old n ≡ true)) × ((n : ℕ) → marked_of new n ≡ false))

-- no entry with a body has this name
abbrev pub IsOut : Core → ℕ → Type 0
IsOut c n = (s p : ℕ) → place_of (c.entries s).state ≡ Some p → (c.entries s).name ≢ n

-- An object that was marked left a core, and no mark is left.
pub record HasLostMarked (old new : Core) : Type 0 where
  pub name : ℕ
  pub marked : marked_of old name ≡ true
  pub out : IsOut new name
  pub none : (n : ℕ) → marked_of new n ≡ false

-- No object came into a core; and all marks stay, or one that was marked left it and there is none.
pub record MindsMarks (old new : Core) : Type 0 where
  pub out : (n : ℕ) → IsOut old n → IsOut new n
  pub marks : KeepsMarks old new ⊎ HasLostMarked old new
