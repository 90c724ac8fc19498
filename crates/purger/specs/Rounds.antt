-- How far a round of the hand goes, and a making of room: over a part of the table, and on only while there is no room.
use Rattle.std.specs.Prelude.{◌≡◌, ◌⊎◌, ℕ, ◌+◌, ◌≤◌, ◌<◌, List, length, Some, slice_get}
use Rattle.object_table.specs.Entries.{place_of}
use Rattle.core_segment.specs.Segment.{free_of, size_of}
use Rattle.core_view.specs.Core.{Core}
use Rattle.core_view.specs.Counts.{outside}
use Rattle.core_view.specs.Kept.{IsTight}
use Rattle.core_view.specs.Purge.{IsSameBody, HasNoIdle}
use Rattle.leaf_lambda.specs.declared.parts.Parts.{Parts}
use Rattle.leaf_lambda.specs.Parts.{core_of, spare_of, IsParts}
use Rattle.purger.specs.Marks.{IsOut}
use Rattle.purger.specs.Purge.{HasRoom, KeepsBodies}

-- each body stays, but for that of one entry
abbrev pub KeepsAllBut : ℕ → Core → Core → Type 0
KeepsAllBut s old new = (t p : ℕ) → place_of (old.entries t).state ≡ Some p → (t ≡ s) ⊎ IsSameBody old new t p

-- each body stays, but for those of at most so many entries
pub record LosesFew (n : ℕ) (old new : Core) : Type 0 where
  pub gone : List ℕ
  pub few : length gone ≤ n
  pub stays : (t p : ℕ) → place_of (old.entries t).state ≡ Some p → ((k : ℕ) × (slice_get gone k ≡ Some t)) ⊎ IsSameBody old new t p

-- what has a body had one before, the same
abbrev pub HasOnlyOf : Core → Core → Type 0
HasOnlyOf old new = (t p : ℕ) → place_of (new.entries t).state ≡ Some p → (q : ℕ) × (place_of (old.entries t).state ≡ Some q) × IsSameBody old new t q

-- no fewer words and entries are free than before
pub record HasNoLess (old new : Parts) : Type 0 where
  pub words : free_of old.segment ≤ free_of new.segment
  pub entries : spare_of old ≤ spare_of new

-- The table was swept: no leaf was in use to which nothing referred, and so many entries weren't free all the same. At most so many objects left
-- since.
pub record HasSweptInVain (few entries : ℕ) (old new : Parts) : Type 0 where
  pub swept : Parts
  -- these are parts with the same references from outside, and each body in them was there
  pub parts : IsParts swept
  pub same_outside : (t : ℕ) → outside (core_of swept) t ≡ outside (core_of old) t
  pub only : HasOnlyOf (core_of old) (core_of swept)
  pub idle : HasNoIdle (core_of swept)
  pub wanting : spare_of swept < entries
  pub since : LosesFew few (core_of swept) (core_of new)

-- Before the last object left, so many words or entries weren't free; and where words were, entries weren't either when the table was swept, since
-- when at most a part of it and one object left.
pub record LostInNeed (part words entries : ℕ) (old new : Parts) : Type 0 where
  pub before : Parts
  -- these are parts of the same size, into which no object came
  pub parts : IsParts before
  pub tight : IsTight (core_of before)
  pub size : size_of before.segment ≡ size_of old.segment
  -- each body in them was there, and no more of them was in use
  pub only : HasOnlyOf (core_of old) (core_of before)
  pub less : HasNoLess old before
  pub out : (n : ℕ) → IsOut (core_of old) n → IsOut (core_of before) n
  pub wanting : HasRoom before words entries → ⊥
  pub vain : (free_of before.segment < words) ⊎ HasSweptInVain (part + 1) entries old new
  -- and at most one object left since
  pub last : ℕ
  pub stays : KeepsAllBut last (core_of before) (core_of new)

-- At most a part of the table lost its bodies; or the last that did was needed.
abbrev pub StopsInTime : ℕ → ℕ → ℕ → Parts → Parts → Type 0
StopsInTime part words entries old new = LosesFew part (core_of old) (core_of new) ⊎ LostInNeed part words entries old new

-- ---- how many left since the table was swept

-- They are as many as before, and no body went; or one more; or none since a sweep.
abbrev pub HasCounted : ℕ → ℕ → Core → Core → Type 0
HasCounted was now old new = ((now ≡ was) × KeepsBodies old new) ⊎ ((now ≡ was + 1) ⊎ ((now ≡ 0) × HasNoIdle new))

-- They are at most so many, unless there is room, or words are wanting.
abbrev pub IsFewBehind : ℕ → ℕ → ℕ → Parts → ℕ → Type 0
IsFewBehind part words entries p left = (left ≤ part) ⊎ (HasRoom p words entries ⊎ (free_of p.segment < words))
