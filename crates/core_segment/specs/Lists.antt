-- Chunks that tile a region, and the lists of free ones.
use Rattle.std.specs.Prelude.{◌≡◌, ℕ, zero, suc, ◌+◌, ◌≤◌, ◌==◌, min, List, [], ◌∷◌, length, slice_index_or, slice_set, if◌then◌else◌, nat_lt}
use Rattle.core_segment.specs.declared.heads.TheConstants.{FEWEST, SHORT}
use Rattle.core_segment.specs.Heads.{link_in}

-- a chunk at its place, used or free: its owner is 0 where it is free
pub record Tile : Type 0 where
  pub place : ℕ
  pub size : ℕ
  pub owner : ℕ

abbrev pub free_tile : ℕ → ℕ → Tile
free_tile place size = record { place = place; size = size; owner = 0 }

-- ---- lists

-- which list a free chunk of a size stands in: that of its size, or the one of all that are longer
abbrev pub class_in : ℕ → ℕ
class_in size = min size (SHORT + 1)

-- the first link of a list
abbrev pub first_in : List ℕ → ℕ → ℕ
first_in firsts c = slice_index_or firsts c 0

-- the first links with another one, of the list of a size
abbrev pub with_first : List ℕ → ℕ → ℕ → List ℕ
with_first firsts size link = if nat_lt size FEWEST then firsts else slice_set firsts (class_in size) link

-- a link leads to these places one after another: it is one more than a place, or 0 at the end
abbrev pub Leads : List ℕ → ℕ → List ℕ → Type 0
Leads region link [] = link ≡ 0
Leads region link (p ∷ ps) = (link ≡ suc p) × Leads region (link_in region p) ps

-- the places that a link leads to, at most so many
abbrev pub chain : List ℕ → ℕ → ℕ → List ℕ
chain region zero link = []
chain region (suc n) zero = []
chain region (suc n) (suc p) = p ∷ chain region n (link_in region p)

abbrev pub list_in : List ℕ → List ℕ → ℕ → List ℕ
list_in region firsts c = chain region (length region) (first_in firsts c)

-- what places weigh together, and what the free chunks of a list do
abbrev pub weigh : (ℕ → ℕ) → List ℕ → ℕ
weigh f [] = 0
weigh f (p ∷ ps) = f p + weigh f ps

abbrev pub weight : ℕ → (ℕ → ℕ) → Tile → ℕ
weight c f t = if t.owner == 0 then (if class_in t.size == c then f t.place else 0) else 0

abbrev pub weigh_free : ℕ → (ℕ → ℕ) → List Tile → ℕ
weigh_free c f [] = 0
weigh_free c f (t ∷ ts) = weight c f t + weigh_free c f ts

-- Each list ends, and has the free chunks of its sizes and no others, each once: whatever places weigh, both weigh the same.
pub record IsListed (region firsts : List ℕ) (ts : List Tile) : Type 0 where
  pub leads : (c : ℕ) → FEWEST ≤ c → c ≤ SHORT + 1 → Leads region (first_in firsts c) (list_in region firsts c)
  pub holds : (c : ℕ) → FEWEST ≤ c → c ≤ SHORT + 1 → (f : ℕ → ℕ) → weigh f (list_in region firsts c) ≡ weigh_free c f ts
