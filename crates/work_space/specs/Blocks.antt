-- Blocks that are laid one behind the other, and those that are linked as free.
use Rattle.std.specs.Prelude.{◌≡◌, ℕ, ◌+◌, ◌*◌, ◌^◌, ◌<◌, ◌≤◌, ◌==◌, ◌⊎◌, List, [], ◌∷◌, length, count_by, All, Option, Some, None, if◌then◌else◌}
use Rattle.work_space.specs.declared.limits.TheConstants.{SIZE_CLASSES, SMALLEST_BLOCK}
use Rattle.byteorder.specs.Endian.{big_number}
use Rattle.loom_host.specs.Bytes.{window}

-- the bytes of a block of a size class
abbrev pub block_size : ℕ → ℕ
block_size c = SMALLEST_BLOCK * 2 ^ c

-- a function with another value at one place
abbrev pub put : {A : Type 0} → (ℕ → A) → ℕ → A → ℕ → A
put {A} f k a = λ q. if q == k then a else f q

-- where the newest block ends, by where the oldest begins and the size classes of all, the newest first
abbrev pub end_behind : ℕ → List ℕ → ℕ
end_behind from [] = from
end_behind from (c ∷ older) = end_behind from older + block_size c

-- the size class of the block that begins at a place
abbrev pub laid_at : ℕ → List ℕ → ℕ → Option ℕ
laid_at from [] = λ p. None
laid_at from (c ∷ older) = put (laid_at from older) (end_behind from older) (Some c)

-- how often a number is in a list
abbrev pub times : ℕ → List ℕ → ℕ
times n xs = count_by (λ x. x == n) xs

-- two blocks, each by its place and size class, have no byte in common
abbrev pub AreApart : ℕ → ℕ → ℕ → ℕ → Type 0
AreApart p c q d = (p + block_size c ≤ q) ⊎ (q + block_size d ≤ p)

-- these places are linked in this order: each has the place of the next one, the first is given, and behind the last is 0
abbrev pub AreLinked : (ℕ → ℕ) → ℕ → List ℕ → Type 0
AreLinked next first [] = first ≡ 0
AreLinked next first (p ∷ rest) = (first ≡ p) × AreLinked next (next p) rest

-- how often a block of this size class, or none, is on the list of the free blocks of size class c: once if it is of size class c and isn't out
abbrev pub times_free : Option ℕ → Option ℕ → ℕ → ℕ
times_free None out c = 0
times_free (Some d) (Some e) c = 0
times_free (Some d) None c = if d == c then 1 else 0

-- the number in the 8 bytes from a place on, the highest byte first
unfoldable pub link_at : List ℕ → ℕ → ℕ
link_at work p = big_number 8 (window work p 8)

-- Blocks of these size classes, the newest first, tile the bytes of Work from one place to another. Some are out, each by its place and
-- size class, and each other is free.
pub record AreBlocks (from end : ℕ) (first : ℕ → ℕ) (work laid : List ℕ) (out : ℕ → Option ℕ) : Type 0 where
  -- no block begins at 0, which ends a list
  pub above : 0 < from
  pub each_class : All (λ c. c < SIZE_CLASSES) laid
  pub tiled : end ≡ end_behind from laid
  -- Work may end before the newest block does, and never behind it
  pub within : length work ≤ end
  -- what is out was laid
  pub out_laid : (p c : ℕ) → out p ≡ Some c → laid_at from laid p ≡ Some c
  -- each size class has a list of places, on which each block that is free stands exactly once, and no other
  pub free : ℕ → List ℕ
  pub once : (c p : ℕ) → times p (free c) ≡ times_free (laid_at from laid p) (out p) c
  -- the list begins at the first place of the size class, and goes by the links in Work
  pub linked : (c : ℕ) → c < SIZE_CLASSES → AreLinked (link_at work) (first c) (free c)

-- each size class has at most 2 to the 32 blocks, out and free together
abbrev pub AreFew : List ℕ → Type 0
AreFew laid = (c : ℕ) → c < SIZE_CLASSES → times c laid ≤ 2 ^ 32
