-- The words of a record's body, before its fields have short names.
use Rattle.std.specs.Prelude.{◌≡◌, ℕ, ℤ, ◌+◌, ◌*◌, ◌%◌, ◌≤◌, true, false, List, [], ◌∷◌, ◌++◌, length, replicate, Option, Some, None}
use Rattle.long_names.specs.Words.{literal_count}
use Rattle.long_names.specs.declared.value.Value.{Value}
use Rattle.long_names.specs.declared.value.Value.TheVariants.{Int, Ref}
use Rattle.long_names.specs.Objects.{body_words, fields_of}
use Rattle.long_names.specs.declared.object.Kind.{Kind}
use Rattle.long_names.specs.declared.object.Kind.TheVariants as kind
use Rattle.object_record.specs.Raw.{RawRecord, RawBody, RawPointers, RawWords, RawBytes, RawMethod, raw_kind, raw_len, longs_of}
use Rattle.object_record.specs.Buffer.{raw_of, HasRecord}
use Rattle.object_record.specs.Objects.{body_of, object_in}
use Rattle.object_table.specs.declared.entry.Entry.{Entry}
use Rattle.object_table.specs.declared.entry.Short.{Short}
use Rattle.object_table.specs.declared.entry.EntryState.TheVariants.{Resident}
use Rattle.object_table.specs.Entries.{is_used, place_of, with_refs}
use Rattle.core_view.specs.Core.{Core}
use Rattle.core_view.specs.Held.{Disk}
use Rattle.core_view.specs.Kept.{IsBacked, Keeps}
use Rattle.core_view.specs.Words.{pointers, body_in}
use Rattle.leaf_lambda.specs.declared.parts.Parts.{Parts}
use Rattle.leaf_lambda.specs.declared.translate.TheConstants.{RESERVE}
use Rattle.leaf_lambda.specs.Parts.{core_of, IsNaming, IsWithin, TakesRoom}

-- bytes two to a word, the high one first; of an odd number the last word has 0 as its low byte
abbrev pub packed : List ℕ → List ℕ
packed [] = []
packed (a ∷ []) = (256 * a) ∷ []
packed (a ∷ (b ∷ rest)) = (256 * a + b) ∷ packed rest

-- the words of a body, with a lambda for each field
abbrev pub unresolved : RawBody → List ℕ
unresolved (RawPointers longs) = replicate (length longs) 0
unresolved (RawWords words) = words
unresolved (RawBytes bytes) = packed bytes
unresolved (RawMethod header literals code) = header % 65536 ∷ (replicate (length literals) 0 ++ packed code)

-- an entry with a body of this kind and length at a place, just as its record
abbrev pub opened : Entry → ℕ → ℕ → Kind → ℕ → Entry
opened e p class k len = record e {
  state = Resident p;
  class = record { 0 = class };
  kind = k;
  len = len;
  flags = record e.flags { changed = false; fresh = false };
}

-- The leaf s became the object of a record, whose body lies at a place, just as the record: of its entry nothing else changed but its
-- references.
pub record IsOpened (s p : ℕ) (raw : RawRecord) (old new : Core) : Type 0 where
  pub class : ℕ
  pub used : is_used (new.entries class).state ≡ true
  pub named : (new.entries class).name ≡ raw.class
  pub entry : new.entries s ≡ with_refs (opened (old.entries s) p class (raw_kind raw.body) (raw_len raw.body)) (new.entries s).refs

-- over each disk that has this record for s, what that disk has to have and the held heap stay
abbrev pub KeepsRecord : Core → Core → ℕ → List ℕ → Type 0
KeepsRecord old new s bytes =
    (disk : Disk) → IsBacked old disk → disk (old.entries s).name ≡ Some (object_in (raw_of bytes)) → Keeps disk old new

-- the word for a short name, or for none: a lambda
abbrev pub word_or_lambda : Option Short → ℕ
word_or_lambda None = 0
word_or_lambda (Some s) = s.0

-- Where a field may be a lambda, with so many entries free: its target has no entry and none is to spare, or its long word is no value.
abbrev pub MayBeLambda : (ℕ → Option ℕ) → ℕ → Option Value → Type 0
MayBeLambda find free None = Unit {0}
MayBeLambda find free (Some (Int z)) = ⊥
MayBeLambda find free (Some (Ref n)) = (find n ≡ None) × (free ≤ RESERVE)

-- the buffer has the record of an entry's object: its name, kind and length, and as many fields as its body of these words has
pub record IsCopy (bytes : List ℕ) (e : Entry) (words : List ℕ) : Type 0 where
  pub record_there : HasRecord bytes
  pub same_name : (raw_of bytes).name ≡ e.name
  pub same_kind : raw_kind (raw_of bytes).body ≡ e.kind
  pub same_len : raw_len (raw_of bytes).body ≡ e.len
  pub same_fields : length (longs_of (raw_of bytes).body) ≡ length (pointers e.kind words)

-- the entry s has a body at a place, of a record's kind and length, with as many fields
pub record HasBody (c : Core) (s p : ℕ) (b : RawBody) : Type 0 where
  pub place : place_of (c.entries s).state ≡ Some p
  pub same_kind : (c.entries s).kind ≡ raw_kind b
  pub same_len : (c.entries s).len ≡ raw_len b
  pub same_fields : length (pointers (c.entries s).kind (c.chunks p).words) ≡ length (longs_of b)

-- The leaf s became the object of a record, whose body lies at a place in a chunk of its own. Nothing else changed but references and the room
-- that it took; of what came each has a reference.
pub record Opens (s p : ℕ) (raw : RawRecord) (old new : Parts) : Type 0 where
  pub within : IsWithin s (core_of old) (core_of new)
  pub naming : IsNaming (core_of old) (core_of new)
  pub body : HasBody (core_of new) s p raw.body
  pub opened : IsOpened s p raw (core_of old) (core_of new)
  pub room : TakesRoom (body_words (object_in raw).body) old.segment new.segment

-- ---- a body with other fields, other words or other bytes

abbrev pub with_longs : RawBody → List ℕ → RawBody
with_longs (RawPointers longs) new = RawPointers new
with_longs (RawWords words) new = RawWords words
with_longs (RawBytes bytes) new = RawBytes bytes
with_longs (RawMethod header literals code) new = RawMethod header new code

abbrev pub with_words : RawBody → List ℕ → RawBody
with_words (RawPointers longs) new = RawPointers longs
with_words (RawWords words) new = RawWords new
with_words (RawBytes bytes) new = RawBytes bytes
with_words (RawMethod header literals code) new = RawMethod header literals code

abbrev pub with_bytes : RawBody → List ℕ → RawBody
with_bytes (RawPointers longs) new = RawPointers longs
with_bytes (RawWords words) new = RawWords words
with_bytes (RawBytes bytes) new = RawBytes new
with_bytes (RawMethod header literals code) new = RawMethod header literals new

-- how many literals an object of a kind has, by the number that is the header of a method
abbrev pub literals_for : Kind → ℤ → ℕ
literals_for kind.Pointers header = 0
literals_for kind.Words header = 0
literals_for kind.Bytes header = 0
literals_for kind.Method header = literal_count header

-- a record, made of an old copy, whose body is what the body of s at p means over this copy
pub record IsMerged (c : Core) (s p : ℕ) (old new : List ℕ) : Type 0 where
  pub record_there : HasRecord new
  pub same_name : (raw_of new).name ≡ (raw_of old).name
  pub same_class : (raw_of new).class ≡ (raw_of old).class
  pub merged : body_of (raw_of new).body
      ≡ body_in c.entries (fields_of (body_of (raw_of old).body)) (c.chunks p).words (c.entries s).kind (c.entries s).len
