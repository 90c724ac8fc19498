-- References: how many words name an entry, and how many of them are outside the bodies.
use Rattle.std.specs.Prelude.{ℕ, ℤ, pos, zero, suc, ◌+◌, ◌-◌, ◌<◌, ◌==◌, ◌&&◌, Bool, false, List, [], ◌∷◌, count_by, Option, Some, None, if◌then◌else◌}
use Rattle.object_table.specs.declared.entry.Entry.{Entry}
use Rattle.object_table.specs.Entries.{is_short, place_of}
use Rattle.core_segment.specs.Chunks.{Chunk}
use Rattle.core_view.specs.Core.{Core}
use Rattle.core_view.specs.Words.{pointers}

-- the word is the short name s
abbrev pub names : ℕ → ℕ → Bool
names s w = is_short s && w == s

-- 1 for such a word, else 0
abbrev pub one : ℕ → ℕ → ℕ
one s w = if names s w then 1 else 0

-- the words of an entry that may be short names: where it has a body, its class and its fields
abbrev pub holders_in : (ℕ → Chunk) → Entry → Option ℕ → List ℕ
holders_in chunks e None = []
holders_in chunks e (Some p) = e.class.0 ∷ pointers e.kind (chunks p).words

unfoldable pub holders : Core → ℕ → List ℕ
holders c s = holders_in c.chunks (c.entries s) (place_of (c.entries s).state)

-- how many words of the first n lists are the short name s
abbrev pub tally : ℕ → (ℕ → List ℕ) → ℕ → ℕ
tally zero f s = 0
tally (suc n) f s = tally n f s + count_by (names s) (f n)

-- how many words of classes and fields are the short name s
unfoldable pub uses : Core → ℕ → ℕ
uses c s = tally c.bound (holders c) s

-- how many references to s are outside the bodies: in registers, in slots, and in what a call holds on its way
unfoldable pub outside : Core → ℕ → ℕ
outside c s = (c.entries s).refs - uses c s

-- fewer than 2 to the 31 of each
abbrev pub IsLight : Core → Type 0
IsLight c = (s : ℕ) → outside c s < 2147483648

-- by how much the count of a name differs from that in its record: 0 where it has no entry
abbrev pub change_by : (ℕ → Entry) → Option ℕ → ℤ
change_by entries None = pos 0
change_by entries (Some s) = (entries s).change

abbrev pub change_of : Core → ℕ → ℤ
change_of c n = change_by c.entries (c.find n)

-- whether the entry of a name is marked: false where it has none
abbrev pub marked_by : (ℕ → Entry) → Option ℕ → Bool
marked_by entries None = false
marked_by entries (Some s) = (entries s).flags.marked

abbrev pub marked_of : Core → ℕ → Bool
marked_of c n = marked_by c.entries (c.find n)
