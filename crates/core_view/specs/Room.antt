-- How much of a core is in use, and when nothing more can go.
use Rattle.std.specs.Prelude.{◌≡◌, ℕ, ◌+◌, ◌≤◌, ◌==◌, ◌||◌, ◌++◌, Bool, true, List, [], ◌∷◌, length, Option, None, Some, if◌then◌else◌}
use Rattle.object_table.specs.declared.entry.Entry.{Entry}
use Rattle.object_table.specs.Entries.{is_short, is_used, place_of}
use Rattle.core_segment.specs.declared.segment.TheConstants.{HEADER}
use Rattle.core_segment.specs.Chunks.{Chunk}
use Rattle.core_view.specs.Core.{Core}
use Rattle.core_view.specs.Words.{pointers}

-- the words that a body takes
abbrev pub room_by : (ℕ → Chunk) → Option ℕ → ℕ
room_by chunks None = 0
room_by chunks (Some p) = HEADER + length (chunks p).words

abbrev pub room_for : Core → ℕ → ℕ
room_for c s = room_by c.chunks (place_of (c.entries s).state)

-- the entries that a body needs: its own, that of its class, and one for each field
abbrev pub entries_by : (ℕ → Chunk) → Entry → Option ℕ → ℕ
entries_by chunks e None = 0
entries_by chunks e (Some p) = 2 + length (pointers e.kind (chunks p).words)

abbrev pub entries_for : Core → ℕ → ℕ
entries_for c s = entries_by c.chunks (c.entries s) (place_of (c.entries s).state)

-- the sum over three numbers, each counted once
abbrev pub over_three : (ℕ → ℕ) → ℕ → ℕ → ℕ → ℕ
over_three f a b d = f a + (if b == a then 0 else f b) + (if (d == a) || (d == b) then 0 else f d)

-- one of the three
abbrev pub is_among : ℕ → ℕ → ℕ → ℕ → Bool
is_among a b d s = (s == a) || ((s == b) || (s == d))

-- Nothing but what is pinned has a body, and each other entry in use is named by some word.
pub record IsBare (a b d : ℕ) (c : Core) : Type 0 where
  pub pinned : (s p : ℕ) → place_of (c.entries s).state ≡ Some p → is_among a b d s ≡ true
  pub named : (s : ℕ) → is_used (c.entries s).state ≡ true → place_of (c.entries s).state ≡ None → 1 ≤ (c.entries s).refs

-- the words of registers and of three slots: all short words that are held outside of bodies
abbrev pub in_hand : List ℕ → ℕ → ℕ → ℕ → List ℕ
in_hand regs a b d = regs ++ (a ∷ (b ∷ (d ∷ [])))

-- a word that names a body, or names nothing
abbrev pub IsPin : Core → ℕ → Type 0
IsPin c w = is_short w ≡ true → (p : ℕ) × (place_of (c.entries w).state ≡ Some p)
