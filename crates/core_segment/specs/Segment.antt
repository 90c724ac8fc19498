-- What a segment stands for: chunks at their places, and how much is free.
use Rattle.core_segment.specs.Words.{words_of}
use Rattle.std.specs.Prelude.{◌≡◌, ℕ, ◌+◌, ◌<◌, ◌≤◌, List, length, sum_by}
use Rattle.core_segment.specs.declared.segment.TheConstants.{HEADER}
use Rattle.core_segment.specs.declared.segment.Moved.{Moved}
use Rattle.core_segment.specs.declared.segment.Segment.{Segment}
use Rattle.core_segment.specs.declared.segment.Start.{Start}
use Rattle.core_segment.specs.Chunks.{Chunk, Placed, no_chunk, at_place, with_chunk}
use Rattle.core_segment.specs.Layout.{placed_in, tiles_of, largest_in}

-- the used chunks, by rising place
unfoldable pub chunks_of : Segment → List Placed
chunks_of g = placed_in (words_of g.region) (tiles_of (words_of g.region))

-- the used chunk that begins at a place
unfoldable pub chunk_at : Segment → ℕ → Chunk
chunk_at g = at_place (chunks_of g)

-- how many words the region has
unfoldable pub size_of : Segment → ℕ
size_of g = length (words_of g.region)

-- how many words are in no used chunk
unfoldable pub free_of : Segment → ℕ
free_of g = g.free

-- the words of the largest free chunk
unfoldable pub largest_of : Segment → ℕ
largest_of g = largest_in (tiles_of (words_of g.region))

-- how far down the used chunks could go at most, all together
unfoldable pub work_of : Segment → ℕ
work_of g = sum_by (λ (c : Placed). c.place) (chunks_of g)

-- the same words are free, in the same chunks
pub record SameRoom (old new : Segment) : Type 0 where
  pub size : size_of new ≡ size_of old
  pub free : free_of new ≡ free_of old
  pub largest : largest_of new ≡ largest_of old

-- its words begin there
abbrev pub IsStart : Segment → Start → Type 0
IsStart g s = s.base.ptr ≡ g.region.base.ptr

-- A chunk of so many words was given to an owner, at a place where none began. What its words are is left open.
pub record IsTaken (old new : ℕ → Chunk) (p owner words : ℕ) : Type 0 where
  pub text : List ℕ
  pub size : length text + HEADER ≡ words
  pub vacant : (old p).owner ≡ 0
  pub chunks : new ≡ with_chunk old p (record { owner = owner; words = text })

-- used chunks are as they were, and free ones were joined
pub record IsJoined (old new : Segment) : Type 0 where
  pub chunks : chunks_of new ≡ chunks_of old
  pub free : free_of new ≡ free_of old
  pub largest : largest_of old ≤ largest_of new
  pub size : size_of new ≡ size_of old

-- One used chunk was moved down, to a place where none began, with its owner and its words.
pub record IsMove (old new : ℕ → Chunk) (m : Moved) : Type 0 where
  pub from : ℕ
  pub down : m.to.place < from
  pub used : 0 < m.owner
  pub owner : (old from).owner ≡ m.owner
  pub vacant : (old m.to.place).owner ≡ 0
  pub moved : new ≡ with_chunk (with_chunk old from no_chunk) m.to.place (old from)
