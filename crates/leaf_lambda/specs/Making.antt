-- Bodies of new objects, which have no record.
use Rattle.std.specs.Prelude.{◌≡◌, ◌≢◌, ℕ, ◌+◌, ◌*◌, ◌/◌, ◌%◌, ◌==◌, if◌then◌else◌, true, List, [], Some, None, ◌∷◌, ◌++◌, replicate, slice_set}
use Rattle.long_names.specs.Words.{literal_count}
use Rattle.long_names.specs.declared.value.Value.{Value}
use Rattle.long_names.specs.declared.object.Kind.{Kind}
use Rattle.long_names.specs.declared.object.Kind.TheVariants as kind
use Rattle.long_names.specs.declared.object.Body.{Body}
use Rattle.long_names.specs.declared.object.Body.TheVariants as body
use Rattle.object_table.specs.declared.entry.Entry.{Entry}
use Rattle.object_table.specs.declared.entry.EntryState.TheVariants.{Resident}
use Rattle.object_table.specs.Entries.{put, with_refs}
use Rattle.core_segment.specs.Chunks.{with_chunk}
use Rattle.core_view.specs.Core.{Core}
use Rattle.core_view.specs.Words.{int_of_short, header_in, meant}
use Rattle.core_view.specs.Held.{Disk, held}
use Rattle.core_view.specs.Counts.{outside, one, change_of}
use Rattle.core_view.specs.Kept.{IsBacked, IsValued, Stays}
use Rattle.core_view.specs.Steps.{IsRefStep}

-- how many fields a new object of a kind has: of a method as many as its header word says
abbrev pub fields_new : Kind → ℕ → ℕ → ℕ
fields_new kind.Pointers len header = len
fields_new kind.Words len header = 0
fields_new kind.Bytes len header = 0
fields_new kind.Method len header = literal_count (int_of_short header)

-- its words: fields that are all one word, and words that are 0
abbrev pub words_new : Kind → ℕ → ℕ → ℕ → List ℕ
words_new kind.Pointers len header filler = replicate len filler
words_new kind.Words len header filler = replicate len 0
words_new kind.Bytes len header filler = replicate ((len + 1) / 2) 0
words_new kind.Method len header filler = header ∷ (replicate (literal_count (int_of_short header)) filler ++ replicate ((len + 1) / 2) 0)

-- its body, by what the filler means
abbrev pub body_new : Kind → ℕ → ℕ → Value → Body
body_new kind.Pointers len header v = body.Pointers (replicate len v)
body_new kind.Words len header v = body.Words (replicate len 0)
body_new kind.Bytes len header v = body.Bytes (replicate len 0)
body_new kind.Method len header v = body.Method (int_of_short header) (replicate (literal_count (int_of_short header)) v) (replicate len 0)

-- an entry with a body of this kind and length at a place, of which there is no record
abbrev pub made : Entry → ℕ → ℕ → Kind → ℕ → Entry
made e p class k len = record e {
  state = Resident p;
  class = record { 0 = class };
  kind = k;
  len = len;
  flags = record e.flags { changed = true; fresh = true };
}

-- there are so many references more to what this word names
pub record IsHoldingMany (w n : ℕ) (old new : Core) : Type 0 where
  pub stays : Stays old new
  pub step : IsRefStep old new
  pub more : (t : ℕ) → outside new t ≡ outside old t + n * one t w
  pub entries : (t : ℕ) → new.entries t ≡ with_refs (old.entries t) (new.entries t).refs
  pub find : new.find ≡ old.find
  pub changes : (m : ℕ) → change_of new m ≡ change_of old m

-- The leaf s became a new object of class k, whose body lies at p. Of no other entry does anything change but its references.
pub record IsMade (s k p : ℕ) (j : Kind) (len header filler : ℕ) (old new : Core) : Type 0 where
  pub find : new.find ≡ old.find
  pub bound : new.bound ≡ old.bound
  pub entry : new.entries s ≡ with_refs (made (old.entries s) p k j len) (new.entries s).refs
  pub others : (t : ℕ) → t ≢ s → new.entries t ≡ with_refs (old.entries t) (new.entries t).refs
  pub vacant : (old.chunks p).owner ≡ 0
  pub chunks : new.chunks ≡ with_chunk old.chunks p (record { owner = s; words = words_new j len header filler })

-- Over a disk: the heap then has, under the name of s, a new object of the class that k names, with fields that mean what the filler does.
pub record Makes (s k : ℕ) (j : Kind) (len header filler : ℕ) (old new : Core) (disk : Disk) : Type 0 where
  pub backed : disk (old.entries s).name ≡ None → IsBacked new disk
  pub heap : held new disk ≡ put (held old disk) (old.entries s).name (Some (record {
    class = (old.entries k).name;
    body = body_new j len header (meant old.entries [] 0 filler);
  }))
  pub valued : IsValued (held old disk) → IsValued (held new disk)

-- ---- bytes among words

-- a word with another byte: the high one, or where the index is odd the low one
abbrev pub with_byte : ℕ → ℕ → ℕ → ℕ
with_byte w i b = if i % 2 == 1 then 256 * (w / 256) + b else (256 * b + w % 256)

-- the word of a body where its bytes begin: of a method behind its header and its literals
abbrev pub first_byte : Kind → List ℕ → ℕ
first_byte kind.Pointers words = 0
first_byte kind.Words words = 0
first_byte kind.Bytes words = 0
first_byte kind.Method words = 1 + literal_count (header_in words)

-- a kind that has bytes
pub data HasBytes (k : Kind) : Type 0 where
  InBytes : k ≡ kind.Bytes → HasBytes k
  InMethod : k ≡ kind.Method → HasBytes k

-- the words of a body with another byte i; w is the word where it stands
abbrev pub byte_written : Kind → List ℕ → ℕ → ℕ → ℕ → List ℕ
byte_written k words i w b = slice_set words (first_byte k words + i / 2) (with_byte w i b)
