-- Entries under short names, as a function.
use Rattle.std.specs.Prelude.{ℕ, ℤ, zero, suc, pos, ◌+◌, ◌%◌, ◌==◌, ◌&&◌, nat_lt, Bool, true, false, Option, Some, None, if◌then◌else◌}
use Rattle.long_names.specs.declared.object.Kind.TheVariants.{Pointers}
use Rattle.object_table.specs.declared.entry.Entry.{Entry}
use Rattle.object_table.specs.declared.entry.EntryState.{EntryState}
use Rattle.object_table.specs.declared.entry.EntryState.TheVariants.{Free, Leaf, Resident}
use Rattle.object_table.specs.Flags.{no_flags}

-- a function with another value at one place
abbrev pub put : {A : Type 0} → (ℕ → A) → ℕ → A → ℕ → A
put {A} f k a = λ q. if q == k then a else f q

-- a short word that names an entry: an even number above 0
abbrev pub is_short : ℕ → Bool
is_short s = (s % 2 == 0) && nat_lt 0 s

-- an entry stands for an object
abbrev pub is_used : EntryState → Bool
is_used Free = false
is_used Leaf = true
is_used (Resident p) = true

abbrev pub is_free : Entry → Bool
is_free e = if is_used e.state then false else true

-- 1 for an entry that is in use
abbrev pub used_by : Entry → ℕ
used_by e = if is_used e.state then 1 else 0

-- a sum over the numbers below n
abbrev pub sum_below : ℕ → (ℕ → ℕ) → ℕ
sum_below zero f = 0
sum_below (suc n) f = sum_below n f + f n

-- the place of the body, if it is in the segment
abbrev pub place_of : EntryState → Option ℕ
place_of Free = None
place_of Leaf = None
place_of (Resident p) = Some p

-- stands for nothing; its name is nil's
abbrev pub free_entry : Entry
free_entry = record {
  name = 2;
  state = Free;
  refs = 0;
  change = pos 0;
  class = record { 0 = 0 };
  kind = Pointers;
  len = 0;
  flags = no_flags;
}

-- stands for the object of this name, whose body is not in the segment, and to which nothing refers
abbrev pub leaf_entry : ℕ → Entry
leaf_entry n = record {
  name = n;
  state = Leaf;
  refs = 0;
  change = pos 0;
  class = record { 0 = 0 };
  kind = Pointers;
  len = 0;
  flags = no_flags;
}

-- with this number of short references
abbrev pub with_refs : Entry → ℕ → Entry
with_refs e r = record e { refs = r }

-- with this change of the object's count
abbrev pub with_change_of : Entry → ℤ → Entry
with_change_of e x = record e { change = x }

-- whose object differs from its record, or not
abbrev pub with_changed : Entry → Bool → Entry
with_changed e b = record e { flags = record e.flags { changed = b } }

-- whose object was used since it was last looked at, or not
abbrev pub with_touched : Entry → Bool → Entry
with_touched e b = record e { flags = record e.flags { touched = b } }

-- with no mark
abbrev pub with_no_mark : Entry → Entry
with_no_mark e = record e { flags = record e.flags { marked = false } }
