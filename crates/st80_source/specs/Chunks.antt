-- Chunks of a source file: what stands up to a mark that isn't doubled, with each doubled mark as one.
use Rattle.std.specs.Prelude.{◌≡◌, ◌≢◌, ℕ, ◌+◌, ◌||◌, ◌&&◌, ◌==◌, nat_le, Bool, List, [], ◌∷◌, ◌++◌, map, take, slice_get, slice_index, Some, if◌then◌else◌}
use Rattle.st80_source.specs.declared.chunks.TheConstants.{MARK}
use Rattle.st80_source.specs.declared.chunks.Chunk.{Chunk}

-- how a chunk has a byte: a mark stands twice
abbrev pub written : ℕ → List ℕ
written b = if b == MARK then b ∷ b ∷ [] else b ∷ []

-- how a chunk has these bytes
unfoldable pub doubled : List ℕ → List ℕ
doubled [] = []
doubled (b ∷ bs) = written b ++ doubled bs

-- here stands a mark, and no mark behind it
pub record IsLone (text : List ℕ) (at : ℕ) : Type 0 where
  pub mark : slice_get text at ≡ Some MARK
  pub alone : slice_get text (at + 1) ≢ Some MARK

-- the chunk of a text that begins at a place
pub record IsChunk (text : List ℕ) (from : ℕ) (chunk : Chunk) : Type 0 where
  pub at : ℕ
  -- it ends behind a mark that stands alone
  pub lone : IsLone text at
  pub end_is : chunk.end ≡ at + 1
  -- up to there stands what it has, with each mark twice
  pub text_is : take at text ≡ take from text ++ doubled chunk.bytes.items
  -- each byte stands at its place
  pub places : map (slice_index text) chunk.places.items ≡ chunk.bytes.items

-- no chunk begins at a place: no mark stands alone behind what is read from there on
abbrev pub HasNoChunk : List ℕ → ℕ → Type 0
HasNoChunk text from = (chunk : Chunk) → IsChunk text from chunk → ⊥

-- a space, or one of tab, newline, vertical tab, form feed and return
abbrev pub is_blank_byte : ℕ → Bool
is_blank_byte b = b == 32 || (nat_le 9 b && nat_le b 13)
