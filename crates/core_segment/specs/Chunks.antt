-- Chunks of a segment, as a function of their places.
use Rattle.std.specs.Prelude.{◌≡◌, ℕ, ◌+◌, ◌<◌, ◌≤◌, ◌==◌, List, [], ◌∷◌, length, All, AllPairs, sum_by, if◌then◌else◌, slice_set}
use Rattle.core_segment.specs.declared.segment.TheConstants.{HEADER}

-- a used chunk: its owner, which is not 0, and the words of its user, which come after the four of the segment's own
pub record Chunk : Type 0 where
  pub owner : ℕ
  pub words : List ℕ

-- no used chunk begins there
abbrev pub no_chunk : Chunk
no_chunk = record { owner = 0; words = [] }

-- with another chunk at one place
abbrev pub with_chunk : (ℕ → Chunk) → ℕ → Chunk → ℕ → Chunk
with_chunk chunks p c = λ q. if q == p then c else chunks q

-- with another word in one chunk
abbrev pub with_word : (ℕ → Chunk) → ℕ → ℕ → ℕ → ℕ → Chunk
with_word chunks p i w = with_chunk chunks p (record { owner = (chunks p).owner; words = slice_set (chunks p).words i w })

-- ---- lists of chunks

-- a used chunk at its place
pub record Placed : Type 0 where
  pub place : ℕ
  pub chunk : Chunk

-- the words of the region that a chunk takes: four of the segment's own, and those of its user
abbrev pub room_of : Placed → ℕ
room_of c = HEADER + length c.chunk.words

-- the chunk that begins at a place
abbrev pub at_place : List Placed → ℕ → Chunk
at_place [] p = no_chunk
at_place (c ∷ cs) p = if c.place == p then c.chunk else at_place cs p

-- The used chunks of a region of so many words, of which so many are free, by rising place: each lies within the region, none overlaps
-- another, and their words and the free ones are all of the region's.
pub record IsLaidOut (chunks : List Placed) (free size : ℕ) : Type 0 where
  pub within : All (λ c. c.place + room_of c ≤ size) chunks
  pub apart : AllPairs (λ a b. a.place + room_of a ≤ b.place) chunks
  pub owned : All (λ c. 0 < c.chunk.owner) chunks
  pub all : free + sum_by room_of chunks ≡ size
