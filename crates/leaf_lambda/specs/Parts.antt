-- The parts of a core as one core, and what they keep.
--
-- The states of an object, as its entry has them, and the calls that lead from one to another:
--
--               find_or_leaf              translate_in             put_field, put_words, put_byte
--   no entry ----------------->  leaf  ------------------>  clean ------------------------------->  changed
--            <-----------------        <------------------        <-------------------------------
--                 free_leaf       |        drop_body          ^     set_written, with merge_out's record
--                                 |                           |
--                                 |  make_body                |  set_written, with merge_out's record
--                                 '------------->  fresh  ----'
--
-- Clean is just as its record: neither flag. Changed has CHANGED, and a record like it. Fresh has CHANGED and FRESH, no record and no
-- lambda; stores leave it fresh. translate_in and resolve make leaves of what they name, each with a reference. compact_one moves a body
-- in any of these states.
use Rattle.std.specs.Prelude.{◌≡◌, ℕ, ◌+◌, ◌≤◌, true, false, Option, Some, None, min}
use Rattle.object_table.specs.Entries.{is_used, with_refs}
use Rattle.object_table.specs.Table.{entry_at, bound_of, free_of}
use Rattle.core_view.specs.Core.{Core}
use Rattle.core_view.specs.Counts.{outside, one, change_of, marked_of}
use Rattle.core_view.specs.Kept.{IsCore, IsTight, Stays}
use Rattle.core_view.specs.Steps.{IsRefStep, IsAbout, KeepsEntries, KeepsOthers}
use Rattle.core_segment.specs.declared.segment.Segment.{Segment}
use Rattle.core_segment.specs.declared.segment.TheConstants.{HEADER}
use Rattle.core_segment.specs.Segment.{chunk_at, size_of, free_of as words_free, largest_of, SameRoom}
use Rattle.resident_table.specs.Resident.{short_of, held_of, room_of}
use Rattle.leaf_lambda.specs.declared.parts.Parts.{Parts}
use Rattle.leaf_lambda.specs.declared.translate.TheConstants.{RESERVE}

-- the core that the parts are
unfoldable pub core_of : Parts → Core
core_of p = record {
  entries = entry_at p.names.table;
  find = short_of p.names.resident;
  chunks = chunk_at p.segment;
  bound = bound_of p.names.table;
}

-- how many entries are free
abbrev pub spare_of : Parts → ℕ
spare_of p = free_of p.names.table

-- What the parts keep at each moment: their core's invariant, and room for the names of all free entries.
pub record IsParts (p : Parts) : Type 0 where
  pub core : IsCore (core_of p)
  pub room : held_of p.names.resident + free_of p.names.table ≤ room_of p.names.resident

-- ---- what a step leaves

-- at most a leaf came to which nothing refers
pub record IsLeafStep (old new : Core) : Type 0 where
  pub stays : Stays old new
  pub step : IsRefStep old new
  pub same_outside : (t : ℕ) → outside new t ≡ outside old t
  pub used : (q : ℕ) → is_used (old.entries q).state ≡ true → new.entries q ≡ old.entries q
  pub grew : (m : ℕ) → new.find m ≡ None → old.find m ≡ None
  pub changes : (m : ℕ) → change_of new m ≡ change_of old m
  pub others : KeepsEntries old new
  pub marks : (m : ℕ) → marked_of new m ≡ marked_of old m

-- entries only come, and each that came has a reference
pub record IsNaming (old new : Core) : Type 0 where
  pub more : (t : ℕ) → is_used (old.entries t).state ≡ true
      → (is_used (new.entries t).state ≡ true) × ((old.entries t).refs ≤ (new.entries t).refs)
  pub came : (t : ℕ) → is_used (old.entries t).state ≡ false → is_used (new.entries t).state ≡ true → 1 ≤ (new.entries t).refs

-- at most a leaf came, and there is one reference more to what this word names
pub record IsHolding (w : ℕ) (old new : Core) : Type 0 where
  pub stays : Stays old new
  pub step : IsRefStep old new
  pub one_more : (t : ℕ) → outside new t ≡ outside old t + one t w
  pub live : (t : ℕ) → is_used (old.entries t).state ≡ true
      → (is_used (new.entries t).state ≡ true) × ((new.entries t).name ≡ (old.entries t).name)
  pub grew : (m : ℕ) → new.find m ≡ None → old.find m ≡ None
  pub changes : (m : ℕ) → change_of new m ≡ change_of old m
  pub naming : IsNaming old new
  pub others : KeepsEntries old new
  pub marks : (m : ℕ) → marked_of new m ≡ marked_of old m

-- there is one reference less to what this word names
pub record IsDropping (w : ℕ) (old new : Core) : Type 0 where
  pub stays : Stays old new
  pub step : IsRefStep old new
  pub one_less : (t : ℕ) → outside new t + one t w ≡ outside old t
  pub live : (t : ℕ) → is_used (old.entries t).state ≡ true
      → (is_used (new.entries t).state ≡ true) × ((new.entries t).name ≡ (old.entries t).name)
  pub grew : (m : ℕ) → new.find m ≡ None → old.find m ≡ None
  pub changes : (m : ℕ) → change_of new m ≡ change_of old m
  pub find : new.find ≡ old.find
  pub others : KeepsEntries old new
  pub marks : (m : ℕ) → marked_of new m ≡ marked_of old m

-- what a call on s leaves as it was: references from outside, the names of entries in use, all bodies but that of s, of each other entry
-- in use all but its references, each change of a count and each mark; what came is a leaf; no name loses its entry, no chunk its body
pub record IsWithin (s : ℕ) (old new : Core) : Type 0 where
  pub same_outside : (t : ℕ) → outside new t ≡ outside old t
  pub live : (t : ℕ) → is_used (old.entries t).state ≡ true
      → (is_used (new.entries t).state ≡ true) × ((new.entries t).name ≡ (old.entries t).name)
  pub about : IsAbout s old new
  pub grew : (m : ℕ) → new.find m ≡ None → old.find m ≡ None
  pub changes : (m : ℕ) → change_of new m ≡ change_of old m
  pub others : KeepsOthers s old new
  pub marks : (m : ℕ) → marked_of new m ≡ marked_of old m
  pub tight : IsTight old → IsTight new

-- fields take entries only while more than the reserve are free
pub record IsSparing (old new : Parts) : Type 0 where
  pub few : spare_of old ≤ RESERVE → (core_of new).find ≡ (core_of old).find
  pub less : spare_of new ≤ spare_of old
  pub least : min (spare_of old) RESERVE ≤ spare_of new

-- what a call leaves that may resolve so many fields of s: all but its fields and references, and of what came each has a reference
pub record Resolves (s n : ℕ) (old new : Parts) : Type 0 where
  pub within : IsWithin s (core_of old) (core_of new)
  pub naming : IsNaming (core_of old) (core_of new)
  pub entry : (core_of new).entries s ≡ with_refs ((core_of old).entries s) ((core_of new).entries s).refs
  pub sparing : IsSparing old new
  pub cost : spare_of old ≤ spare_of new + n
  pub room : SameRoom old.segment new.segment

-- a chunk of so many words, with its header, was taken from a segment
pub record TakesRoom (words : ℕ) (old new : Segment) : Type 0 where
  pub size : size_of new ≡ size_of old
  pub free : words_free new + words + HEADER ≡ words_free old
  pub largest : largest_of old ≤ largest_of new + words + HEADER

-- how many entries the name of an object costs
abbrev pub leaves_for : Option ℕ → ℕ
leaves_for None = 1
leaves_for (Some s) = 0
