-- What a core keeps at each moment, alone and with its disk.
use Rattle.std.specs.Prelude.{◌≡◌, ℕ, ◌+◌, ◌*◌, ◌<◌, ◌≤◌, true, false, length, Option, Some, None, slice_get}
use Rattle.long_names.specs.declared.object.Object.{Object}
use Rattle.long_names.specs.declared.value.Value.{Value}
use Rattle.long_names.specs.Objects.{kind_of, len_of, fields_of}
use Rattle.object_table.specs.declared.entry.Entry.{Entry}
use Rattle.object_table.specs.declared.table.TheConstants.{MOST_ENTRIES}
use Rattle.object_table.specs.Entries.{is_short, is_used, place_of}
use Rattle.core_view.specs.Core.{Core}
use Rattle.core_view.specs.Words.{pointers, words_for, most_len, header_in}
use Rattle.long_names.specs.Words.{literal_count, IsValue}
use Rattle.core_view.specs.Held.{Disk, object_at, held}
use Rattle.core_view.specs.Counts.{uses}

-- Always, whatever the disk has.
pub record IsCore (c : Core) : Type 0 where
  -- an entry in use is found by its name, so no two of them have one name
  pub found : (s : ℕ) → is_used (c.entries s).state ≡ true → c.find (c.entries s).name ≡ Some s
  -- and what is found is in use, and has that name
  pub used : (n s : ℕ) → c.find n ≡ Some s → is_used (c.entries s).state ≡ true
  pub named : (n s : ℕ) → c.find n ≡ Some s → (c.entries s).name ≡ n
  -- entries in use have short names
  pub short : (s : ℕ) → is_used (c.entries s).state ≡ true → is_short s ≡ true
  pub within : (s : ℕ) → is_used (c.entries s).state ≡ true → s < c.bound
  pub low : c.bound ≤ 2 * (MOST_ENTRIES + 1)
  -- a body lies in a chunk of its entry's own, of just its size
  pub owned : (s p : ℕ) → place_of (c.entries s).state ≡ Some p → (c.chunks p).owner ≡ s
  pub long : (s p : ℕ) → place_of (c.entries s).state ≡ Some p →
      length (c.chunks p).words ≡ words_for (c.entries s).kind (c.entries s).len (literal_count (header_in (c.chunks p).words))
  pub small : (s p : ℕ) → place_of (c.entries s).state ≡ Some p → (c.entries s).len ≤ most_len (c.entries s).kind
  -- the class has a short name, always
  pub classed : (s p : ℕ) → place_of (c.entries s).state ≡ Some p → is_short (c.entries s).class.0 ≡ true
  -- the references of bodies are counted, and what is free has none: so each of them names an entry in use
  pub counted : (s : ℕ) → uses c s ≤ (c.entries s).refs
  pub free : (s : ℕ) → is_used (c.entries s).state ≡ false → (c.entries s).refs ≡ 0

-- Each chunk with an owner is the body of that entry: so words are accounted for, and no chunk is left that nothing frees.
pub record IsTight (c : Core) : Type 0 where
  pub bodies : (p : ℕ) → 0 < (c.chunks p).owner → place_of (c.entries (c.chunks p).owner).state ≡ Some p

-- a record of the class, the kind, the length and the number of fields of an object
pub record IsLike (o : Option Object) (now : Object) : Type 0 where
  pub object : Object
  pub there : o ≡ Some object
  pub same_class : object.class ≡ now.class
  pub same_kind : kind_of object.body ≡ kind_of now.body
  pub same_len : len_of object.body ≡ len_of now.body
  pub same_fields : length (fields_of object.body) ≡ length (fields_of now.body)

-- What the disk has for a body: a record like its object, which is the object itself where nothing changed; or none, where it is
-- fresh, and then no field is a lambda.
pub record IsBody (c : Core) (disk : Disk) (e : Entry) (p : ℕ) : Type 0 where
  pub like : e.flags.fresh ≡ false → IsLike (disk e.name) (object_at c disk e p)
  pub clean : e.flags.changed ≡ false → disk e.name ≡ Some (object_at c disk e p)
  pub absent : e.flags.fresh ≡ true → disk e.name ≡ None
  pub whole : e.flags.fresh ≡ true → (i : ℕ) → slice_get (pointers e.kind (c.chunks p).words) i ≡ Some 0 → ⊥

-- With its disk.
pub record IsBacked (c : Core) (disk : Disk) : Type 0 where
  pub body : (s p : ℕ) → place_of (c.entries s).state ≡ Some p → IsBody c disk (c.entries s) p

-- Each field of each object is a value, so that a register can hold it.
abbrev pub IsValued : Disk → Type 0
IsValued at = (n i : ℕ) (o : Object) (v : Value) → at n ≡ Some o → slice_get (fields_of o.body) i ≡ Some v → IsValue v

-- ---- what a step keeps

-- what the disk has to have, and the held heap
pub record Keeps (disk : Disk) (old new : Core) : Type 0 where
  pub backed : IsBacked new disk
  pub held : held new disk ≡ held old disk

-- the same over every disk
abbrev pub Stays : Core → Core → Type 0
Stays old new = (disk : Disk) → IsBacked old disk → Keeps disk old new

-- the same where the disk changes too
pub record KeepsOver (old : Core) (was : Disk) (new : Core) (now : Disk) : Type 0 where
  pub backed : IsBacked new now
  pub held : held new now ≡ held old was
