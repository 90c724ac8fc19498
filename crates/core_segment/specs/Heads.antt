-- The words of a region, and the first ones of a chunk, used or free.
use Rattle.std.specs.Prelude.{◌≡◌, ℕ, ◌+◌, ◌-◌, ◌*◌, ◌<◌, ◌≤◌, ◌==◌, List, length, slice_index_or, if◌then◌else◌}
use Rattle.core_segment.specs.declared.heads.TheConstants.{RADIX, FEWEST, SHORT}

-- a word of a region, and 0 past its end
abbrev pub word_at : List ℕ → ℕ → ℕ
word_at region i = slice_index_or region i 0

-- a number in two words
abbrev pub pair_in : List ℕ → ℕ → ℕ
pair_in region i = word_at region i + RADIX * word_at region (i + 1)

-- The first word tells the size of a short free chunk, else it is 0. Then comes the owner, 0 of a free chunk, and then the size of a used
-- one, or a link and the size of a long free one.
abbrev pub size_in : List ℕ → ℕ → ℕ
size_in region p = if word_at region p == 0 then (if word_at region (p + 1) == 0 then pair_in region (p + 4) else pair_in region (p + 2)) else word_at region p

abbrev pub owner_in : List ℕ → ℕ → ℕ
owner_in region p = if word_at region p == 0 then word_at region (p + 1) else 0

-- where the chunk behind a free one in its list begins, and one more; 0 behind the last
abbrev pub link_in : List ℕ → ℕ → ℕ
link_in region p = pair_in region (p + 2)

-- the words of a region that the first words of a chunk are read from
pub record HasHead (region : List ℕ) (p : ℕ) : Type 0 where
  pub first : p < length region
  pub fourth : word_at region p ≡ 0 → p + 3 < length region
  pub sixth : word_at region p ≡ 0 → word_at region (p + 1) ≡ 0 → p + 5 < length region

-- ---- changes

-- a number was written into two words
pub record IsPaired (old new : List ℕ) (i n : ℕ) : Type 0 where
  pub same_size : length new ≡ length old
  pub pair : pair_in new i ≡ n
  pub below : (k : ℕ) → k < i → word_at new k ≡ word_at old k
  pub above : (k : ℕ) → i + 2 ≤ k → word_at new k ≡ word_at old k

-- the first words of a used chunk were written
pub record IsOpened (old new : List ℕ) (place owner size : ℕ) : Type 0 where
  pub same_size : length new ≡ length old
  pub owned : owner_in new place ≡ owner
  pub sized : size_in new place ≡ size
  pub first : word_at new place ≡ 0
  pub below : (i : ℕ) → i < place → word_at new i ≡ word_at old i
  pub above : (i : ℕ) → place + 4 ≤ i → word_at new i ≡ word_at old i

-- the first words of a free chunk were written
pub record IsClosed (old new : List ℕ) (place size link : ℕ) : Type 0 where
  pub same_size : length new ≡ length old
  pub free : owner_in new place ≡ 0
  pub sized : size_in new place ≡ size
  pub long : word_at new place ≡ 0 → SHORT < size
  pub linked : FEWEST ≤ size → link_in new place ≡ link
  pub below : (i : ℕ) → i < place → word_at new i ≡ word_at old i
  pub above : (i : ℕ) → place + size ≤ i → word_at new i ≡ word_at old i

-- so many words were moved down, over what lay there
pub record IsMovedDown (old new : List ℕ) (from to size : ℕ) : Type 0 where
  pub same_size : length new ≡ length old
  pub copied : (i : ℕ) → to ≤ i → i < to + size → word_at new i ≡ word_at old (from + (i - to))
  pub below : (i : ℕ) → i < to → word_at new i ≡ word_at old i
  pub above : (i : ℕ) → to + size ≤ i → word_at new i ≡ word_at old i
