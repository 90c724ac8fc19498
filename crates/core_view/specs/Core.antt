-- A core, as functions: what its parts have at a short word, at a name and at a place.
use Rattle.std.specs.Prelude.{ℕ, List, Option, Some, None}
use Rattle.object_table.specs.declared.entry.Entry.{Entry}
use Rattle.object_table.specs.Entries.{put, free_entry, leaf_entry}
use Rattle.core_segment.specs.Chunks.{Chunk, with_chunk, with_word}

-- Entries by short word, short words by name, chunks by place. No short word at the bound or above names an entry.
pub record Core : Type 0 where
  pub entries : ℕ → Entry
  pub find : ℕ → Option ℕ
  pub chunks : ℕ → Chunk
  pub bound : ℕ

-- one entry changed
abbrev pub with_entry : Core → ℕ → Entry → Core
with_entry c s e = record c { entries = put c.entries s e }

-- one word of a chunk changed
abbrev pub with_word_in : Core → ℕ → ℕ → ℕ → Core
with_word_in c p i w = record c { chunks = with_word c.chunks p i w }

-- other words in a chunk
abbrev pub with_words : Core → ℕ → List ℕ → Core
with_words c p ws = record c { chunks = with_chunk c.chunks p (record { owner = (c.chunks p).owner; words = ws }) }

-- one chunk changed
abbrev pub with_chunk_at : Core → ℕ → Chunk → Core
with_chunk_at c p x = record c { chunks = with_chunk c.chunks p x }

-- a free entry made a leaf of this name
abbrev pub with_leaf : Core → ℕ → ℕ → Core
with_leaf c s n = record c { entries = put c.entries s (leaf_entry n); find = put c.find n (Some s) }

-- the entry of this name freed
abbrev pub without_leaf : Core → ℕ → ℕ → Core
without_leaf c s n = record c { entries = put c.entries s free_entry; find = put c.find n None }
