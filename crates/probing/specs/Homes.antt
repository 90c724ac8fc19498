-- Where the search for a name begins among n slots: two ways to choose it.
use Rattle.std.specs.Prelude.{ℕ, ◌+◌, ◌*◌, ◌/◌, ◌%◌, ◌^◌, nat_lt, if◌then◌else◌}
use Rattle.probing.specs.declared.TheConstants.{SPREADER, BLOCK_SLOTS}

-- the key of a name, its multiple by an odd number in 32 bits: keys of names that were made one after another spread
unfoldable pub spread : ℕ → ℕ
spread name = name * SPREADER % 2 ^ 32

-- as far among n slots as its key is among the numbers of 32 bits
unfoldable pub home_of : ℕ → ℕ → ℕ
home_of name n = spread name * n / 2 ^ 32

-- ---- by blocks: names that were made one after another share a block of slots

-- where the names of a block begin among so many blocks: blocks spread as names do, and each round through all of them is turned by
-- its square
unfoldable pub block_begin : ℕ → ℕ → ℕ
block_begin block blocks = home_of (block + block / blocks * (block / blocks)) (blocks * BLOCK_SLOTS)

-- from there on, around the end of that block of slots, as far as the name is in its own
unfoldable pub block_home : ℕ → ℕ → ℕ
block_home begin name = begin / BLOCK_SLOTS * BLOCK_SLOTS + (begin % BLOCK_SLOTS + name % BLOCK_SLOTS) % BLOCK_SLOTS

-- among fewer slots than a block has they spread each by itself
unfoldable pub paged_home_of : ℕ → ℕ → ℕ
paged_home_of name n = if nat_lt n BLOCK_SLOTS then home_of name n else block_home (block_begin (name / BLOCK_SLOTS) (n / BLOCK_SLOTS)) name
