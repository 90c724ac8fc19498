-- What a space stands for, and what its calls do.
use Rattle.std.specs.Prelude.{◌≡◌, ◌≢◌, ℕ, ◌+◌, ◌-◌, ◌≤◌, ◌%◌, ◌==◌, ◌&&◌, ◌||◌, ◌⊎◌, max, nat_le, nat_lt, not, Bool, if◌then◌else◌, List, ◌∷◌, length, Contains, Option, Some, None, slice_index}
use Rattle.loom_host.specs.Bytes.{window}
use Rattle.work_space.specs.declared.space.Space.{Space}
use Rattle.work_space.specs.declared.limits.TheConstants.{LAST_END, SMALLEST_BLOCK}
use Rattle.work_space.specs.Blocks.{block_size, put, laid_at, times, link_at, AreApart, AreBlocks}

-- where the first block is laid
unfoldable pub from_of : Space → ℕ
from_of s = s.from

-- where the next block is laid
unfoldable pub end_of : Space → ℕ
end_of s = s.end

-- the place of the first free block of a size class, or 0
unfoldable pub first_of : Space → ℕ → ℕ
first_of s c = slice_index s.heads c

-- The blocks that are laid, by their size classes, the newest first, and those of them that are out, by their places, with their size classes.
abbrev pub IsSpace : Space → List ℕ → List ℕ → (ℕ → Option ℕ) → Type 0
IsSpace s work laid out = AreBlocks (from_of s) (end_of s) (first_of s) work laid out

-- ---- taking a block

-- the place of the block of a size class that is taken next: the first free one, or else a new one
abbrev pub next_place : Space → ℕ → ℕ
next_place s c = if first_of s c == 0 then end_of s else first_of s c

-- where the blocks end then
abbrev pub next_end : Space → ℕ → ℕ
next_end s c = if first_of s c == 0 then end_of s + block_size c else end_of s

-- the blocks that are laid then
abbrev pub next_laid : Space → ℕ → List ℕ → List ℕ
next_laid s c laid = if first_of s c == 0 then c ∷ laid else laid

-- a block may begin there, or it is 0, as behind the last free block
abbrev pub is_link : Space → ℕ → Bool
is_link s link = (link == 0) || (nat_le (from_of s) link && nat_lt link (end_of s) && ((link - from_of s) % SMALLEST_BLOCK == 0))

-- what keeps a block from being taken: the first free block has no right link, or a new one would end behind the last place
abbrev pub is_broken : Space → List ℕ → ℕ → Bool
is_broken s work c =
    if first_of s c == 0 then nat_lt LAST_END (end_of s + block_size c) else not (is_link s (link_at work (first_of s c)))

-- a block of size class c was taken
pub record Takes (old new : Space) (work laid : List ℕ) (out : ℕ → Option ℕ) (c place : ℕ) : Type 0 where
  -- it is out now, beside those that were
  pub blocks : IsSpace new work (next_laid old c laid) (put out place (Some c))
  pub fresh : out place ≡ None
  -- it lies among the blocks, and has no byte in common with one that was out
  pub behind : from_of old ≤ place
  pub before : place + block_size c ≤ end_of new
  pub apart : (p d : ℕ) → out p ≡ Some d → AreApart p d place c
  -- it was laid before, or else all of its size class were out
  pub reused : first_of old c ≢ 0 → laid_at (from_of old) laid place ≡ Some c
  pub needed : first_of old c ≡ 0 → (p : ℕ) → laid_at (from_of old) laid p ≡ Some c → out p ≢ None
  -- so a size class has no more blocks than before, or than were out, which are at no more than these places, and this one
  pub few : (places : List ℕ) → ((p : ℕ) → out p ≡ Some c → Contains places p) →
      times c (next_laid old c laid) ≤ max (times c laid) (length places + 1)
  pub few_others : (d : ℕ) → d ≢ c → times d (next_laid old c laid) ≡ times d laid

-- ---- giving a block back

-- The block of size class c at this place was given back. Work held the first of these contents before, and holds the second now.
pub record Gives (old new : Space) (work now laid : List ℕ) (out : ℕ → Option ℕ) (c place : ℕ) : Type 0 where
  pub blocks : IsSpace new now laid (put out place None)
  -- the bytes before the first block, those of each other block that is out, and all others but this block's are as they were
  pub front : (at n : ℕ) → at + n ≤ from_of old → window now at n ≡ window work at n
  pub others : (p d : ℕ) → out p ≡ Some d → p ≢ place → window now p (block_size d) ≡ window work p (block_size d)
  pub rest : (at n : ℕ) → (at + n ≤ place) ⊎ (place + block_size c ≤ at) → window now at n ≡ window work at n
