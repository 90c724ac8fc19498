-- A free chunk comes out of its list, and a part of it becomes a used one.
use Rattle.std.specs.Prelude.{◌≡◌, ℕ, suc, ◌+◌, ◌-◌, ◌<◌, ◌≤◌, ◌⊎◌, List, [], ◌∷◌, ◌++◌, length}
use Rattle.core_segment.specs.declared.heads.TheConstants.{FEWEST, SHORT}
use Rattle.core_segment.specs.Chunks.{at_place}
use Rattle.core_segment.specs.Heads.{IsOpened, IsClosed}
use Rattle.core_segment.specs.Lists.{Tile, class_in, first_in, with_first, list_in, IsListed}
use Rattle.core_segment.specs.Layout.{AreTiles, IsLaid, tiles_of, free_in, placed_in}

-- the chunks that the words tell tile the region, and the lists have the free ones
abbrev pub IsWhole : List ℕ → List ℕ → Type 0
IsWhole region firsts = IsLaid region firsts (tiles_of region) (free_in (tiles_of region))

-- places that were passed, the last one first, and those that come then
abbrev pub passed_to : List ℕ → List ℕ → List ℕ
passed_to [] ps = ps
passed_to (b ∷ bs) ps = passed_to bs (b ∷ ps)

-- the link to the first of these places, 0 where there is none
abbrev pub link_to : List ℕ → ℕ
link_to [] = 0
link_to (p ∷ ps) = suc p

-- where a chunk stands in a list: behind those that were passed
pub record IsSpot (region firsts : List ℕ) (class link place : ℕ) : Type 0 where
  pub passed : List ℕ
  pub ahead : List ℕ
  pub low : FEWEST ≤ class
  pub high : class ≤ SHORT + 1
  pub list : list_in region firsts class ≡ passed_to passed (place ∷ ahead)
  pub before : link ≡ link_to passed

-- A free chunk came out of its list: the lists have the others, and the chunks are as they were.
pub record IsUnlisted (region new firsts : List ℕ) (p : ℕ) : Type 0 where
  pub before : List Tile
  pub tile : Tile
  pub after : List Tile
  pub split : tiles_of region ≡ before ++ tile ∷ after
  pub place : tile.place ≡ p
  pub free : tile.owner ≡ 0
  pub same_size : length new ≡ length region
  pub tiles : AreTiles new (tiles_of region)
  pub chunks : (k : ℕ) → at_place (placed_in new (tiles_of region)) k ≡ at_place (placed_in region (tiles_of region)) k
  pub listed : IsListed new firsts (before ++ after)

-- the first words of a chunk of some size became a used one, and the rest, if any, a free one
pub record IsCarved (old new firsts firsts' : List ℕ) (place owner words size : ℕ) : Type 0 where
  pub middle : List ℕ
  pub opened : IsOpened old middle place owner words
  pub rest : ((size ≡ words) × (new ≡ middle) × (firsts' ≡ firsts))
      ⊎ ((words < size) × IsClosed middle new (place + words) (size - words) (first_in firsts (class_in (size - words))) × (firsts' ≡ with_first firsts (size - words) (place + words + 1)))
