-- A walk over all chunks of a region, in search of a free one.
use Rattle.std.proofs.Common.{◌≡◌, ◌≢◌, ℕ, ◌+◌, ◌<◌, ◌≤◌, ◌⊎◌, List, [], ◌∷◌, length, sym, ◌∙◌, ap, subst, arith, ⊎_elim}
use Rattle.std.proofs.lemmas.Bool.{cases_eq, cases_lt}
use Rattle.core_segment.specs.Heads.{size_in, owner_in}
use Rattle.core_segment.specs.Lists.{Tile}
use Rattle.core_segment.specs.Layout.{AreTiles, Spans, IsLaid, tiles_of, largest_in}
use Rattle.core_segment.proofs.LayoutLaws.{IsMet, met, spans-order, largest-split, largest-one, largest-none}

-- the chunks from a place on, of which one is large enough where any is
pub record IsWalk (region : List ℕ) (words place : ℕ) : Type 0 where
  pub ahead : List Tile
  pub spans : Spans place ahead (length region)
  pub tiles : AreTiles region ahead
  pub left : words ≤ largest_in (tiles_of region) → words ≤ largest_in ahead
  pub within : largest_in ahead ≤ largest_in (tiles_of region)

pub walk-begins : (region firsts : List ℕ) (free words : ℕ) → IsLaid region firsts (tiles_of region) free → IsWalk region words 0
walk-begins region firsts free words laid = record { ahead = tiles_of region; spans = laid.spans; tiles = laid.tiles; left = λ h. h; within = omega arith }

module _ (region : List ℕ) (words place : ℕ) (walk : IsWalk region words place) where
  pub walk-here : place < length region → IsMet region walk.ahead place
  walk-here low = met region walk.ahead place walk.tiles walk.spans low

  -- a free chunk that is large enough
  pub walk-finds : place < length region → owner_in region place ≡ 0 → words ≤ size_in region place → words ≤ largest_in (tiles_of region)
  walk-finds low free enough =
      let is = walk-here low in
      let within = walk.within in
      let owned = is.owned in let sized = is.sized in
      let all = ap (λ (ts : List Tile). largest_in ts) is.split in
      let a = largest-split (is.tile ∷ []) is.more in let b = largest-one is.tile (omega arith) in omega arith

  -- one that is used or too small
  pub walk-on : place < length region → (owner_in region place ≢ 0) ⊎ (size_in region place < words) → IsWalk region words (place + size_in region place)
  walk-on low other =
      let is = walk-here low in
      let within = walk.within in
      let owned = is.owned in let sized = is.sized in
      let all = ap (λ (ts : List Tile). largest_in ts) is.split in
      let a = largest-split (is.tile ∷ []) is.more in
      record {
        ahead = is.more;
        spans = subst (λ (z : ℕ). Spans (place + z) is.more (length region)) (sym is.sized) is.right;
        tiles = is.tiles;
        left = λ h. let g = walk.left h in ⊎_elim
            (λ (e : is.tile.owner ≡ 0). let b = largest-one is.tile e in ⊎_elim
            (λ (f : owner_in region place ≢ 0). absurd (f (is.owned ∙ e)))
            (λ (f : size_in region place < words). omega arith)
            other)
            (λ (e : is.tile.owner ≢ 0). let b = largest-none is.tile (omega arith) in omega arith)
            (cases_eq is.tile.owner 0);
        within = omega arith;
      }

  -- at the end of the region
  pub walk-ends : length region ≤ place → 1 ≤ words → largest_in (tiles_of region) < words
  walk-ends high some = ends walk.ahead walk.spans walk.left
    where
      ends : (ts : List Tile) → Spans place ts (length region) → (words ≤ largest_in (tiles_of region) → words ≤ largest_in ts) → largest_in (tiles_of region) < words
      ends [] spans left = ⊎_elim
          (λ (h : largest_in (tiles_of region) < words). h)
          (λ (h : words ≤ largest_in (tiles_of region)). absurd (let a = left h in omega arith))
          (cases_lt (largest_in (tiles_of region)) words)
      ends (t ∷ ts) spans left = absurd (let a = spans-order place (length region) (t ∷ ts) spans in omega arith)
