-- The layout of a region: chunks tile it, one behind the other, and each tells its size and its owner in its first words.
use Rattle.std.specs.Prelude.{◌≡◌, ℕ, zero, suc, ◌+◌, ◌<◌, ◌≤◌, ◌==◌, max, List, [], ◌∷◌, length, if◌then◌else◌, nat_lt, slice_range, ⊤}
use Rattle.core_segment.specs.declared.segment.TheConstants.{HEADER}
use Rattle.core_segment.specs.declared.heads.TheConstants.{SHORT}
use Rattle.core_segment.specs.Chunks.{Chunk, Placed}
use Rattle.core_segment.specs.Heads.{word_at, size_in, owner_in}
use Rattle.core_segment.specs.Lists.{Tile, IsListed}

-- the first words of a chunk say what it is
pub record IsTile (region : List ℕ) (t : Tile) : Type 0 where
  pub sized : size_in region t.place ≡ t.size
  pub owned : owner_in region t.place ≡ t.owner
  pub used : 0 < t.owner → HEADER ≤ t.size
  pub long : word_at region t.place ≡ 0 → t.owner ≡ 0 → SHORT < t.size

abbrev pub AreTiles : List ℕ → List Tile → Type 0
AreTiles region [] = ⊤
AreTiles region (t ∷ ts) = IsTile region t × AreTiles region ts

-- chunks lie one behind the other, from one place to another
abbrev pub Spans : ℕ → List Tile → ℕ → Type 0
Spans p [] q = p ≡ q
Spans p (t ∷ ts) q = (t.place ≡ p) × (0 < t.size) × Spans (p + t.size) ts q

-- the chunks that the words tell from a place on, at most so many
abbrev pub tiles_from : List ℕ → ℕ → ℕ → List Tile
tiles_from region zero p = []
tiles_from region (suc n) p =
    if nat_lt p (length region) then record { place = p; size = size_in region p; owner = owner_in region p } ∷ tiles_from region n (p + size_in region p) else []

-- the chunks of a region
unfoldable pub tiles_of : List ℕ → List Tile
tiles_of region = tiles_from region (length region) 0

-- those that are used, with their words
abbrev pub placed_in : List ℕ → List Tile → List Placed
placed_in region [] = []
placed_in region (t ∷ ts) =
    if t.owner == 0 then placed_in region ts
    else record { place = t.place; chunk = record { owner = t.owner; words = slice_range region (t.place + HEADER) (t.place + t.size) } } ∷ placed_in region ts

-- the words of all free chunks, and of the largest
abbrev pub free_in : List Tile → ℕ
free_in [] = 0
free_in (t ∷ ts) = if t.owner == 0 then t.size + free_in ts else free_in ts

abbrev pub largest_in : List Tile → ℕ
largest_in [] = 0
largest_in (t ∷ ts) = if t.owner == 0 then max t.size (largest_in ts) else largest_in ts

-- each used chunk lies below a place, with all its words
abbrev pub AreBelow : (ℕ → Chunk) → ℕ → Type 0
AreBelow chunks n = (p : ℕ) → 0 < (chunks p).owner → p + HEADER + length (chunks p).words ≤ n

-- What a segment keeps of its region: chunks tile it, the lists have those that are free, and so many words are free.
pub record IsLaid (region firsts : List ℕ) (ts : List Tile) (free : ℕ) : Type 0 where
  pub spans : Spans 0 ts (length region)
  pub tiles : AreTiles region ts
  pub listed : IsListed region firsts ts
  pub counted : free ≡ free_in ts
