-- Lists of free chunks by rising place, as a compaction has them.
use Rattle.std.specs.Prelude.{◌≡◌, ℕ, ◌+◌, ◌≤◌, ◌==◌, List, [], ◌∷◌, length, if◌then◌else◌, nat_lt, ⊤, Option, Some, None}
use Rattle.std.specs.Coded.{×_prop, Unit-prop}
use native.Mathlib.Nat.{ℕ_set}
use Rattle.core_segment.specs.declared.heads.TheConstants.{FEWEST, SHORT}
use Rattle.core_segment.specs.Lists.{Tile, class_in, first_in, Leads}
use Rattle.core_segment.specs.Layout.{Spans, AreTiles, placed_in}
use Rattle.core_segment.specs.Props.{Leads-prop}

-- the places of the free chunks of a list, by rising place
abbrev pub places_in : ℕ → List Tile → List ℕ
places_in c [] = []
places_in c (t ∷ ts) = if t.owner == 0 then (if class_in t.size == c then t.place ∷ places_in c ts else places_in c ts) else places_in c ts

abbrev pub AreInOrder : List ℕ → List ℕ → List Tile → Type 0
AreInOrder region firsts ts = (c : ℕ) → FEWEST ≤ c → c ≤ SHORT + 1 → Leads region (first_in firsts c) (places_in c ts)

-- where the first free chunk begins, or an end
abbrev pub first_free : List Tile → ℕ → ℕ
first_free [] end = end
first_free (t ∷ ts) end = if t.owner == 0 then t.place else first_free ts end

-- what is kept while a compaction goes on from a place: no chunk is free below it, and each list goes up
abbrev pub IsGoingOn : List ℕ → List ℕ → List Tile → Option ℕ → Type 0
IsGoingOn region firsts ts None = ⊤
IsGoingOn region firsts ts (Some p) = AreInOrder region firsts ts × (p ≡ first_free ts (length region))

pub AreInOrder-prop : (region firsts : List ℕ) (ts : List Tile) → IsProp (AreInOrder region firsts ts)
AreInOrder-prop region firsts ts a b = λ i c low high. Leads-prop region _ _ (a c low high) (b c low high) i

pub IsGoingOn-prop : (region firsts : List ℕ) (ts : List Tile) (reached : Option ℕ) → IsProp (IsGoingOn region firsts ts reached)
IsGoingOn-prop region firsts ts None = Unit-prop
IsGoingOn-prop region firsts ts (Some p) = ×_prop (AreInOrder-prop region firsts ts) (ℕ_set _ _)

-- ---- making the lists anew

-- the places of the free chunks that stand in lists, the last one first, before others
abbrev pub falling : List Tile → List ℕ → List ℕ
falling [] ps = ps
falling (t ∷ ts) ps = falling ts (if t.owner == 0 then (if nat_lt t.size FEWEST then ps else t.place ∷ ps) else ps)

-- chunks tile a region
pub record IsTiled (region : List ℕ) (ts : List Tile) : Type 0 where
  pub spans : Spans 0 ts (length region)
  pub tiles : AreTiles region ts

-- links alone were written
pub record IsRelinked (old new : List ℕ) (ts : List Tile) : Type 0 where
  pub same_size : length new ≡ length old
  pub tiles : AreTiles new ts
  pub placed : placed_in new ts ≡ placed_in old ts
