-- Steps of a core: what each of them asks, and what it touches.
use Rattle.std.specs.Prelude.{◌≡◌, ◌≢◌, ℕ, ℤ, ◌<◌, ◌≤◌, true, false, ◌∷◌, length, count_by, Some, None, slice_get}
use Rattle.object_table.specs.declared.entry.Entry.{Entry}
use Rattle.object_table.specs.declared.entry.EntryState.TheVariants.{Leaf, Resident}
use Rattle.object_table.specs.declared.flags.EntryFlags.{EntryFlags}
use Rattle.object_table.specs.Entries.{is_short, is_used, place_of, leaf_entry, with_refs}
use Rattle.core_view.specs.Core.{Core, with_entry, with_word_in}
use Rattle.core_view.specs.Words.{pointers, spot, words_for, most_len, header_in}
use Rattle.long_names.specs.Words.{literal_count}
use Rattle.core_view.specs.Counts.{names, outside}

-- ---- what a step asks

-- a free entry, for a name that has none
pub record IsSpare (c : Core) (s n : ℕ) : Type 0 where
  pub unused : is_used (c.entries s).state ≡ false
  pub short : is_short s ≡ true
  pub within : s < c.bound
  pub absent : c.find n ≡ None

-- a leaf of this name to which nothing refers
pub record IsIdle (c : Core) (s n : ℕ) : Type 0 where
  pub used : is_used (c.entries s).state ≡ true
  pub leaf : place_of (c.entries s).state ≡ None
  pub name : (c.entries s).name ≡ n
  pub none : (c.entries s).refs ≡ 0

-- field i of the body of s, at p, is this word
pub record IsAt (c : Core) (s p i w : ℕ) : Type 0 where
  pub place : place_of (c.entries s).state ≡ Some p
  pub word : slice_get (pointers (c.entries s).kind (c.chunks p).words) i ≡ Some w

-- no body lies at this place
abbrev pub IsLoose : Core → ℕ → Type 0
IsLoose c p = (q : ℕ) → place_of (c.entries q).state ≡ Some p → ⊥

-- a leaf s becomes e, with a body at p in a chunk of its own, whose class and fields were held from outside
pub record IsOpening (c : Core) (s p : ℕ) (e : Entry) : Type 0 where
  pub used : is_used (c.entries s).state ≡ true
  pub leaf : place_of (c.entries s).state ≡ None
  pub place : place_of e.state ≡ Some p
  pub still : is_used e.state ≡ true
  pub name : e.name ≡ (c.entries s).name
  pub refs : e.refs ≡ (c.entries s).refs
  pub class_short : is_short e.class.0 ≡ true
  pub owner : (c.chunks p).owner ≡ s
  pub long : length (c.chunks p).words ≡ words_for e.kind e.len (literal_count (header_in (c.chunks p).words))
  pub small : e.len ≤ most_len e.kind
  pub given : (t : ℕ) → count_by (names t) (e.class.0 ∷ pointers e.kind (c.chunks p).words) ≤ outside c t

-- the body of s at p goes, and s becomes the leaf e
pub record IsClosing (c : Core) (s p : ℕ) (e : Entry) : Type 0 where
  pub place : place_of (c.entries s).state ≡ Some p
  pub gone : place_of e.state ≡ None
  pub still : is_used e.state ≡ true
  pub name : e.name ≡ (c.entries s).name
  pub refs : e.refs ≡ (c.entries s).refs

-- ---- what a step touches

-- field i of the body of s, at p, is another word
abbrev pub with_field_word : Core → ℕ → ℕ → ℕ → ℕ → Core
with_field_word c s p i w = with_word_in c p (spot (c.entries s).kind i) w

-- with these references, this change of the count and these flags
abbrev pub touched : Entry → ℕ → ℤ → EntryFlags → Entry
touched e r x f = record e { refs = r; change = x; flags = f }

-- an entry whose object was written as its record
abbrev pub written : Entry → Entry
written e = record e { flags = record e.flags { changed = false; fresh = false } }

-- an entry without its body
abbrev pub closed : Entry → Entry
closed e = record e { state = Leaf }

-- an entry whose body lies at another place
abbrev pub at_another : Entry → ℕ → Entry
at_another e p = record e { state = Resident p }

-- an entry whose object differs from its record
abbrev pub marked_changed : Entry → Entry
marked_changed e = record e { flags = record e.flags { changed = true } }

-- with this number of references of one entry
abbrev pub with_refs_of : Core → ℕ → ℕ → Core
with_refs_of c s r = with_entry c s (with_refs (c.entries s) r)

-- with one entry whose object differs from its record
abbrev pub with_mark : Core → ℕ → Core
with_mark c s = with_entry c s (marked_changed (c.entries s))

-- references change, and leaves come and go, but bodies stay
pub record IsRefStep (old new : Core) : Type 0 where
  pub bound : new.bound ≡ old.bound
  pub chunks : new.chunks ≡ old.chunks
  pub bodies : (q p : ℕ) → place_of (old.entries q).state ≡ Some p → new.entries q ≡ with_refs (old.entries q) (new.entries q).refs
  pub leaves : (q : ℕ) → place_of (old.entries q).state ≡ None → place_of (new.entries q).state ≡ None

-- the same, but for the body of s, which may come, change and go
pub record IsAbout (s : ℕ) (old new : Core) : Type 0 where
  pub bound : new.bound ≡ old.bound
  pub chunks : (q p : ℕ) → q ≢ s → place_of (old.entries q).state ≡ Some p → new.chunks p ≡ old.chunks p
  pub bodies : (q p : ℕ) → q ≢ s → place_of (old.entries q).state ≡ Some p → new.entries q ≡ with_refs (old.entries q) (new.entries q).refs
  pub leaves : (q : ℕ) → q ≢ s → place_of (old.entries q).state ≡ None → place_of (new.entries q).state ≡ None

-- Each entry in use keeps all but its references, and what came is a leaf of its name.
pub record KeepsEntries (old new : Core) : Type 0 where
  pub same : (t : ℕ) → is_used (old.entries t).state ≡ true → new.entries t ≡ with_refs (old.entries t) (new.entries t).refs
  pub came : (t : ℕ) → is_used (old.entries t).state ≡ false → is_used (new.entries t).state ≡ true
      → new.entries t ≡ with_refs (leaf_entry (new.entries t).name) (new.entries t).refs

-- the same of all entries but s
pub record KeepsOthers (s : ℕ) (old new : Core) : Type 0 where
  pub same : (t : ℕ) → t ≢ s → is_used (old.entries t).state ≡ true → new.entries t ≡ with_refs (old.entries t) (new.entries t).refs
  pub came : (t : ℕ) → t ≢ s → is_used (old.entries t).state ≡ false → is_used (new.entries t).state ≡ true
      → new.entries t ≡ with_refs (leaf_entry (new.entries t).name) (new.entries t).refs

-- bodies may lie elsewhere, but each has its words there, and nothing else of an entry changes
pub record IsMove (old new : Core) : Type 0 where
  pub find : new.find ≡ old.find
  pub bound : new.bound ≡ old.bound
  pub entries : (q : ℕ) → new.entries q ≡ record (old.entries q) { state = (new.entries q).state }
  pub leaves : (q : ℕ) → place_of (old.entries q).state ≡ None → (new.entries q).state ≡ (old.entries q).state
  pub bodies : (q p : ℕ) → place_of (old.entries q).state ≡ Some p
      → (r : ℕ) × (place_of (new.entries q).state ≡ Some r) × (new.chunks r ≡ old.chunks p)
