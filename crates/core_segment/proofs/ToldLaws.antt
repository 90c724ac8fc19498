-- What is told of a used chunk, and a change of one of its words.
use Rattle.std.proofs.Common.{◌≡◌, ◌≢◌, ℕ, ◌+◌, ◌<◌, ◌≤◌, ◌==◌, ◌⊎◌, inl, inr, Bool, true, false, cond, List, [], ◌∷◌, ◌++◌, length, refl, sym, ◌∙◌, ap, subst, arith, ⊎_elim}
use Rattle.std.proofs.lemmas.Bool.{cases_eq, cases_lt}
use Rattle.std.proofs.lemmas.Bool.Decides.{nat_tests}
use Rattle.std.proofs.lemmas.List.{get_or-set_other}
use Rattle.std.proofs.Math.ListN.{length-set}
use Rattle.std.specs.List.{slice_set}
use Rattle.core_segment.specs.Chunks.{Chunk, with_word}
use Rattle.core_segment.specs.Heads.{word_at, size_in, HasHead}
use Rattle.core_segment.specs.Lists.{Tile, IsListed}
use Rattle.core_segment.specs.Layout.{AreTiles, Spans, IsLaid}
use Rattle.core_segment.proofs.LayoutLaws.{spans-cut, spans-order, are-cut, are-join, are-same, has-head, tile-kept}
use Rattle.core_segment.proofs.ListLaws.{at, SameLinks, weight-used, listed-same}
use Rattle.core_segment.proofs.WordLaws.{length-range, range-set}
use Rattle.core_segment.proofs.PlaceLaws.{chunk_in, chunk, chunk-here, chunk-next, chunk-free, IsEdit, edit-outside, edit-new, edit-old}
use Rattle.core_segment.proofs.GiveLaws.{IsRenewed, renewed, found, links-same, links-join, listed-with, listed-without, length-split}

-- a used chunk, and where it lies
pub record IsTold (region : List ℕ) (ts : List Tile) (p : ℕ) : Type 0 where
  pub before : List Tile
  pub tile : Tile
  pub after : List Tile
  pub split : ts ≡ before ++ tile ∷ after
  pub place : tile.place ≡ p
  pub own : 0 < tile.owner
  pub is : chunk region ts p ≡ chunk_in region tile
  pub some : 4 ≤ tile.size
  pub low : p + tile.size ≤ length region
  pub head : HasHead region p
  pub sized : size_in region p ≡ tile.size
  pub words : length (chunk region ts p).words + 4 ≡ tile.size

pub told : (region firsts : List ℕ) (ts : List Tile) (free p : ℕ) → IsLaid region firsts ts free → 0 < (chunk region ts p).owner → IsTold region ts p
told region firsts ts free p laid h =
    let f = found region ts p h in
    let cut = spans-cut 0 (length region) f.before (f.tile ∷ f.after) (subst (λ (us : List Tile). Spans 0 us (length region)) f.split laid.spans) in
    let tile = (are-cut region f.before (f.tile ∷ f.after) (subst (AreTiles region) f.split laid.tiles)).1.0 in
    let place = f.place in
    let there = cut.right.0 in
    let last = spans-order (cut.at + f.tile.size) (length region) f.after cut.right.2 in
    let some : 4 ≤ f.tile.size = tile.used f.own in
    let low : p + f.tile.size ≤ length region = omega arith in
    let long = length-range region (f.tile.place + 4) (f.tile.place + f.tile.size) (omega arith) in
    record {
      before = f.before;
      tile = f.tile;
      after = f.after;
      split = f.split;
      place = f.place;
      own = f.own;
      is = f.is;
      some = some;
      low = low;
      head = subst (HasHead region) f.place (has-head region f.tile tile (omega (arith, some)) (omega arith));
      sized = ap (size_in region) (sym f.place) ∙ tile.sized;
      words = ap (λ (c : Chunk). length c.words + 4) f.is ∙ (omega (arith, long, some));
    }

-- a chunk with words is used
pub owned : (region : List ℕ) (ts : List Tile) (p : ℕ) → 0 < length (chunk region ts p).words → 0 < (chunk region ts p).owner
owned region [] p h = absurd (omega arith)
owned region (t ∷ ts) p h =
    let later = λ (e : chunk region (t ∷ ts) p ≡ chunk region ts p). subst (λ (c : Chunk). 0 < c.owner) (sym e)
    (owned region ts p (subst (λ (c : Chunk). 0 < length c.words) e h)) in ⊎_elim
    (λ (e : t.place ≡ p). ⊎_elim
    (λ (f : t.owner ≡ 0). later (chunk-free region t ts p f))
    (λ (f : t.owner ≢ 0). subst (λ (c : Chunk). 0 < c.owner) (sym (chunk-here region t ts p (omega arith) e)) (omega arith))
    (cases_eq t.owner 0))
    (λ (e : t.place ≢ p). later (chunk-next region t ts p e))
    (cases_eq t.place p)

-- ---- a word of it is another one

pub record IsWritten (region firsts : List ℕ) (ts : List Tile) (free p i w : ℕ) : Type 0 where
  pub renew : IsRenewed (slice_set region (p + 4 + i) w) firsts ts free
  pub chunks : (k : ℕ) → chunk (slice_set region (p + 4 + i) w) ts k ≡ with_word (chunk region ts) p i w k
  pub links : SameLinks region (slice_set region (p + 4 + i) w) ts

module _ (region firsts : List ℕ) (free i w : ℕ) (before : List Tile) (u : Tile) (after : List Tile) (own : 0 < u.owner)
    (laid : IsLaid region firsts (before ++ u ∷ after) free) (inside : i + 4 < u.size) where
  left : Spans 0 before u.place
  left = let cut = spans-cut 0 (length region) before (u ∷ after) laid.spans in subst (Spans 0 before) (sym cut.right.0) cut.left

  right : Spans (u.place + u.size) after (length region)
  right = let cut = spans-cut 0 (length region) before (u ∷ after) laid.spans in subst (λ (z : ℕ). Spans (z + u.size) after (length region)) (sym cut.right.0) cut.right.2

  low : u.place + u.size ≤ length region
  low = let a = spans-order (u.place + u.size) (length region) after right in omega arith

  size : length (slice_set region (u.place + 4 + i) w) ≡ length region
  size = length-set region (u.place + 4 + i) w

  same : (j : ℕ) → j ≢ u.place + 4 + i → word_at (slice_set region (u.place + 4 + i) w) j ≡ word_at region j
  same j e = get_or-set_other region (u.place + 4 + i) j w 0 e

  edit : IsEdit region (slice_set region (u.place + 4 + i) w) before (u ∷ []) (u ∷ []) after u.place (u.place + u.size)
  edit = record {
    left = left;
    was = (refl, omega (arith, inside), refl);
    is = (refl, omega (arith, inside), refl);
    right = right;
    same_size = size;
    below = λ j h l. same j (λ e. absurd (omega arith));
    above = λ j h l. same j (λ e. absurd (omega arith));
  }

  tiles : AreTiles (slice_set region (u.place + 4 + i) w) (before ++ u ∷ after)
  tiles =
      let cut = are-cut region before (u ∷ after) laid.tiles in
      are-join (slice_set region (u.place + 4 + i) w) before (u ∷ after)
      (are-same region (slice_set region (u.place + 4 + i) w) 0 u.place before left cut.0 (λ j h l. same j (λ e. absurd (omega arith)))) (
        tile-kept region (slice_set region (u.place + 4 + i) w) u cut.1.0 own (λ j h l. same j (λ e. absurd (omega arith))),
        are-same region (slice_set region (u.place + 4 + i) w) (u.place + u.size) (length region) after right cut.1.1 (λ j h l. same j (λ e. absurd (omega arith))),
      )

  lists : IsListed (slice_set region (u.place + 4 + i) w) firsts (before ++ u ∷ after)
  lists =
      let few = spans-order 0 (length region) (before ++ u ∷ after) laid.spans in
      let count = length-split before u after in
      let e = size in
      listed-with (slice_set region (u.place + 4 + i) w) firsts before u after own
      (listed-same region (slice_set region (u.place + 4 + i) w) firsts (before ++ after) (listed-without region firsts before u after own laid.listed)
      (links-join region (slice_set region (u.place + 4 + i) w) before after
      (links-same region (slice_set region (u.place + 4 + i) w) 0 u.place before left (λ j h l. same j (λ e. absurd (omega arith))))
      (links-same region (slice_set region (u.place + 4 + i) w) (u.place + u.size) (length region) after right (λ j h l. same j (λ e. absurd (omega arith)))))
      (omega arith))

  links : SameLinks region (slice_set region (u.place + 4 + i) w) (before ++ u ∷ after)
  links = links-join region (slice_set region (u.place + 4 + i) w) before (u ∷ after)
      (links-same region (slice_set region (u.place + 4 + i) w) 0 u.place before left (λ j h l. same j (λ e. absurd (omega arith))))
      (λ c q few many some. links-same region (slice_set region (u.place + 4 + i) w) (u.place + u.size) (length region) after right (λ j h l. same j (λ e. absurd (omega arith)))
      c q few many (let a = weight-used c (at q) u own in omega arith))

  words : chunk_in (slice_set region (u.place + 4 + i) w) u ≡ record { owner = u.owner; words = slice_set (chunk_in region u).words i w }
  words = ap (λ (ws : List ℕ). record { owner = u.owner; words = ws }) (range-set region (u.place + 4) (u.place + u.size) i w (let l = low in omega arith) (omega (arith, inside)))

  chunks : (k : ℕ) → chunk (slice_set region (u.place + 4 + i) w) (before ++ u ∷ after) k ≡ with_word (chunk region (before ++ u ∷ after)) u.place i w k
  chunks k = ⊎_elim
      (λ (e : k ≡ u.place).
      let test : (k == u.place) ≡ true = grind (arith, nat_tests) in
      let old : chunk region (before ++ u ∷ after) u.place ≡ chunk_in region u =
      edit-old region (slice_set region (u.place + 4 + i) w) before (u ∷ []) (u ∷ []) after u.place (u.place + u.size) edit u.place (omega arith) (omega (arith, inside)) ∙ chunk-here region u [] u.place own refl in
      edit-new region (slice_set region (u.place + 4 + i) w) before (u ∷ []) (u ∷ []) after u.place (u.place + u.size) edit k (omega arith) (omega (arith, inside))
      ∙ chunk-here (slice_set region (u.place + 4 + i) w) u [] k own (sym e) ∙ words
      ∙ sym (ap (λ (b : Bool). cond b (record { owner = (chunk region (before ++ u ∷ after) u.place).owner; words = slice_set (chunk region (before ++ u ∷ after) u.place).words i w }) (chunk region (before ++ u ∷ after) k)) test
      ∙ ap (λ (c : Chunk). record { owner = c.owner; words = slice_set c.words i w }) old))
      (λ (e : k ≢ u.place).
      let test : (k == u.place) ≡ false = grind (arith, nat_tests) in
      other e
      ∙ sym (ap (λ (b : Bool). cond b (record { owner = (chunk region (before ++ u ∷ after) u.place).owner; words = slice_set (chunk region (before ++ u ∷ after) u.place).words i w }) (chunk region (before ++ u ∷ after) k)) test))
      (cases_eq k u.place)
    where
      outside : (k < u.place) ⊎ (u.place + u.size ≤ k) → chunk (slice_set region (u.place + 4 + i) w) (before ++ u ∷ after) k ≡ chunk region (before ++ u ∷ after) k
      outside h = edit-outside region (slice_set region (u.place + 4 + i) w) before (u ∷ []) (u ∷ []) after u.place (u.place + u.size) edit k h

      other : k ≢ u.place → chunk (slice_set region (u.place + 4 + i) w) (before ++ u ∷ after) k ≡ chunk region (before ++ u ∷ after) k
      other e = ⊎_elim
          (λ (h : k < u.place). outside (inl h))
          (λ (h : u.place ≤ k). ⊎_elim
          (λ (l : k < u.place + u.size).
          edit-new region (slice_set region (u.place + 4 + i) w) before (u ∷ []) (u ∷ []) after u.place (u.place + u.size) edit k h l
          ∙ chunk-next (slice_set region (u.place + 4 + i) w) u [] k (λ x. e (sym x))
          ∙ sym (chunk-next region u [] k (λ x. e (sym x)))
          ∙ sym (edit-old region (slice_set region (u.place + 4 + i) w) before (u ∷ []) (u ∷ []) after u.place (u.place + u.size) edit k h l))
          (λ (l : u.place + u.size ≤ k). outside (inr l))
          (cases_lt k (u.place + u.size)))
          (cases_lt k u.place)

  pub written : IsWritten region firsts (before ++ u ∷ after) free u.place i w
  written = record {
    renew = renewed (slice_set region (u.place + 4 + i) w) firsts (before ++ u ∷ after) free
        (subst (Spans 0 (before ++ u ∷ after)) (sym size) laid.spans) tiles lists laid.counted;
    chunks = chunks;
    links = links;
  }

-- the chunk of which a word is written
pub writes-to : (region firsts : List ℕ) (ts : List Tile) (free p i : ℕ) → IsLaid region firsts ts free → i < length (chunk region ts p).words → IsTold region ts p
writes-to region firsts ts free p i laid low = told region firsts ts free p laid (owned region ts p (omega arith))

pub writes : (region firsts : List ℕ) (ts : List Tile) (free p i w : ℕ) → IsLaid region firsts ts free → i < length (chunk region ts p).words
    → IsWritten region firsts ts free p i w
writes region firsts ts free p i w laid low =
    let t = writes-to region firsts ts free p i laid low in
    let s = subst (λ (us : List Tile). IsLaid region firsts us free) t.split laid in
    let words = t.words in
    subst (λ (us : List Tile). IsWritten region firsts us free p i w) (sym t.split)
    (subst (λ (z : ℕ). IsWritten region firsts (t.before ++ t.tile ∷ t.after) free z i w) t.place
    (written region firsts free i w t.before t.tile t.after t.own s (omega arith)))
