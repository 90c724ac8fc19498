-- What a segment keeps is so in one way at most.
use Rattle.std.specs.Prelude.{ℕ, ◌+◌, List, [], ◌∷◌}
use Rattle.std.specs.Coded.{×_prop, Unit-prop, le_prop}
use native.Mathlib.Nat.{ℕ_set}
use Rattle.core_segment.specs.Chunks.{Chunk}
use Rattle.core_segment.specs.Heads.{link_in}
use Rattle.core_segment.specs.Lists.{Tile, Leads, IsListed}
use Rattle.core_segment.specs.Layout.{IsTile, AreTiles, Spans, AreBelow, IsLaid}

pub Leads-prop : (region : List ℕ) (link : ℕ) (ps : List ℕ) → IsProp (Leads region link ps)
Leads-prop region link [] = ℕ_set _ _
Leads-prop region link (p ∷ ps) = ×_prop (ℕ_set _ _) (Leads-prop region (link_in region p) ps)

pub IsListed-prop : (region firsts : List ℕ) (ts : List Tile) → IsProp (IsListed region firsts ts)
IsListed-prop region firsts ts a b = λ i. record {
  leads = λ c low high. Leads-prop region _ _ (a.leads c low high) (b.leads c low high) i;
  holds = λ c low high f. ℕ_set _ _ (a.holds c low high f) (b.holds c low high f) i;
}

pub IsTile-prop : (region : List ℕ) (t : Tile) → IsProp (IsTile region t)
IsTile-prop region t a b = λ i. record {
  sized = ℕ_set _ _ a.sized b.sized i;
  owned = ℕ_set _ _ a.owned b.owned i;
  used = λ h. le_prop (a.used h) (b.used h) i;
  long = λ h k. le_prop (a.long h k) (b.long h k) i;
}

pub AreTiles-prop : (region : List ℕ) (ts : List Tile) → IsProp (AreTiles region ts)
AreTiles-prop region [] = Unit-prop
AreTiles-prop region (t ∷ ts) = ×_prop (IsTile-prop region t) (AreTiles-prop region ts)

pub Spans-prop : (p : ℕ) (ts : List Tile) (q : ℕ) → IsProp (Spans p ts q)
Spans-prop p [] q a b = ℕ_set _ _ a b
Spans-prop p (t ∷ ts) q a b = λ i. (ℕ_set _ _ a.0 b.0 i, le_prop a.1 b.1 i, Spans-prop (p + t.size) ts q a.2 b.2 i)

pub AreBelow-prop : (chunks : ℕ → Chunk) (n : ℕ) → IsProp (AreBelow chunks n)
AreBelow-prop chunks n a b = λ i p own. le_prop (a p own) (b p own) i

pub IsLaid-prop : (region firsts : List ℕ) (ts : List Tile) (free : ℕ) → IsProp (IsLaid region firsts ts free)
IsLaid-prop region firsts ts free a b = λ i. record {
  spans = Spans-prop _ ts _ a.spans b.spans i;
  tiles = AreTiles-prop region ts a.tiles b.tiles i;
  listed = IsListed-prop region firsts ts a.listed b.listed i;
  counted = ℕ_set _ _ a.counted b.counted i;
}
