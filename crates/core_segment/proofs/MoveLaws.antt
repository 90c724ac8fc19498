-- A used chunk is moved down over the first free one.
use Rattle.std.proofs.Common.{◌≡◌, ◌≢◌, ℕ, ◌+◌, ◌-◌, ◌<◌, ◌≤◌, ◌==◌, ◌⊎◌, inl, inr, Bool, true, false, cond, List, [], ◌∷◌, ◌++◌, length, Some, refl, sym, ◌∙◌, ap, subst, arith, ⊎_elim}
use Rattle.std.proofs.lemmas.Bool.{cases_eq, cases_lt}
use Rattle.std.proofs.lemmas.Bool.Decides.{nat_tests}
use Rattle.std.proofs.lemmas.List.Sums.{sum_by-append}
use Rattle.std.specs.List.{sum_by}
use Rattle.core_segment.specs.Chunks.{Chunk, Placed, no_chunk, with_chunk}
use Rattle.core_segment.specs.Heads.{word_at, pair_in, link_in, IsClosed, IsMovedDown}
use Rattle.core_segment.specs.Lists.{Tile, free_tile, class_in, first_in, with_first}
use Rattle.core_segment.specs.Layout.{IsTile, AreTiles, IsLaid, placed_in, tiles_of, free_in}
use Rattle.core_segment.specs.Order.{AreInOrder, IsGoingOn, first_free}
use Rattle.core_segment.proofs.LayoutLaws.{IsMet, spans-order, free-split, free-one, free-used}
use Rattle.core_segment.proofs.PlaceLaws.{chunk_in, chunk, chunk-here, chunk-next, chunk-free, IsEdit, edit-outside, edit-new, edit-old}
use Rattle.core_segment.proofs.GiveLaws.{IsRenewed, links-same, tile-closed}
use Rattle.core_segment.proofs.OrderLaws.{used-lone, order-lone, order-without, order-push, order-pop, first-here, first-next, first-past, used-free}
use Rattle.core_segment.proofs.PlacedLaws.{placed-free, placed-used, placed-split, placed-same}
use Rattle.core_segment.proofs.GapLaws.{IsGap, length-with, renewed-edit}
use Rattle.core_segment.proofs.TakenLaws.{used_tile}
use Rattle.core_segment.proofs.WordLaws.{range-same}

-- ---- the first words of a used chunk

tile-head : (region : List ℕ) (p size owner : ℕ) → word_at region p ≡ 0 → word_at region (p + 1) ≡ owner → 0 < owner → pair_in region (p + 2) ≡ size → 4 ≤ size
    → IsTile region (used_tile p size owner)
tile-head region p size owner first second own third some =
    let a : (word_at region p == 0) ≡ true = grind (arith, nat_tests) in
    let b : (word_at region (p + 1) == 0) ≡ false = grind (arith, nat_tests) in
    record {
      sized = ap (λ (x : Bool). cond x (cond (word_at region (p + 1) == 0) (pair_in region (p + 4)) (pair_in region (p + 2))) (word_at region p)) a
          ∙ ap (λ (x : Bool). cond x (pair_in region (p + 4)) (pair_in region (p + 2))) b ∙ third;
      owned = ap (λ (x : Bool). cond x (word_at region (p + 1)) 0) a ∙ second;
      used = λ h. some;
      long = λ h e. absurd (omega arith);
    }

pub tile-moved : (region region' : List ℕ) (t : Tile) (to : ℕ) → IsTile region t → 0 < t.owner → ((i : ℕ) → i < t.size → word_at region' (to + i) ≡ word_at region (t.place + i))
    → IsTile region' (used_tile to t.size t.owner)
tile-moved region region' t to is own same =
    let some : 4 ≤ t.size = is.used own in
    let first : word_at region t.place ≡ 0 = ⊎_elim
    (λ (e : word_at region t.place ≡ 0). e)
    (λ (e : word_at region t.place ≢ 0). let a : (word_at region t.place == 0) ≡ false = grind (arith, nat_tests) in
    let none : 0 ≡ t.owner = sym (ap (λ (x : Bool). cond x (word_at region (t.place + 1)) 0) a) ∙ is.owned in absurd (omega arith))
    (cases_eq (word_at region t.place) 0) in
    let a : (word_at region t.place == 0) ≡ true = grind (arith, nat_tests) in
    let second : word_at region (t.place + 1) ≡ t.owner = sym (ap (λ (x : Bool). cond x (word_at region (t.place + 1)) 0) a) ∙ is.owned in
    let b : (word_at region (t.place + 1) == 0) ≡ false = grind (arith, nat_tests) in
    let third : pair_in region (t.place + 2) ≡ t.size =
    sym (ap (λ (x : Bool). cond x (cond (word_at region (t.place + 1) == 0) (pair_in region (t.place + 4)) (pair_in region (t.place + 2))) (word_at region t.place)) a
    ∙ ap (λ (x : Bool). cond x (pair_in region (t.place + 4)) (pair_in region (t.place + 2))) b) ∙ is.sized in
    let w : word_at region' (to + 0) ≡ word_at region (t.place + 0) = same 0 (omega arith) in
    let x : word_at region' (to + 1) ≡ word_at region (t.place + 1) = same 1 (omega arith) in
    let y : word_at region' (to + 2) ≡ word_at region (t.place + 2) = same 2 (omega arith) in
    let z : word_at region' (to + 3) ≡ word_at region (t.place + 3) = same 3 (omega arith) in
    let y' : word_at region' (to + 2 + 1) ≡ word_at region (t.place + 2 + 1) = ap (word_at region') {x = to + 2 + 1} {y = to + 3} (omega arith) ∙ z ∙ ap (word_at region) {x = t.place + 3} {y = t.place + 2 + 1} (omega arith) in
    let w' : word_at region' to ≡ word_at region t.place = ap (word_at region') {x = to} {y = to + 0} (omega arith) ∙ w ∙ ap (word_at region) {x = t.place + 0} {y = t.place} (omega arith) in
    tile-head region' to t.size t.owner (w' ∙ first) (x ∙ second) own (omega arith) some

-- ---- the move

pub record IsMovedTile (region region' firsts' : List ℕ) (ts : List Tile) (free from to size owner : ℕ) : Type 0 where
  pub whole : IsLaid region' firsts' (tiles_of region') free
  pub going : IsGoingOn region' firsts' (tiles_of region') (Some (to + size))
  pub owner-was : (chunk region ts from).owner ≡ owner
  pub vacant : (chunk region ts to).owner ≡ 0
  pub moved : (k : ℕ) → chunk region' (tiles_of region') k ≡ with_chunk (with_chunk (chunk region ts) from no_chunk) to (chunk region ts from) k
  pub less : sum_by (λ (c : Placed). c.place) (placed_in region' (tiles_of region')) < sum_by (λ (c : Placed). c.place) (placed_in region ts)
  pub same_size : length region' ≡ length region

module _ (region region' region'' firsts : List ℕ) (ts : List Tile) (free to gap : ℕ) (g : IsGap region firsts ts free to gap) (m : IsMet region g.after (to + gap))
    (many : length firsts ≡ 66) (own : 0 < m.tile.owner) (shifted : IsMovedDown region region' (to + gap) to m.tile.size)
    (closed : IsClosed region' region'' (to + m.tile.size) gap (first_in (with_first firsts gap (link_in region to)) (class_in gap))) where
  abbrev popped : List ℕ
  popped = with_first firsts gap (link_in region to)

  abbrev u : Tile
  u = used_tile to m.tile.size m.tile.owner

  abbrev f : Tile
  f = free_tile (to + m.tile.size) gap

  split : ts ≡ g.before ++ ((free_tile to gap ∷ m.tile ∷ []) ++ m.more)
  split = g.split ∙ ap (λ (us : List Tile). g.before ++ free_tile to gap ∷ us) m.split

  upper : IsTile region m.tile × AreTiles region m.more
  upper = subst (AreTiles region) m.split g.upper

  size : length region'' ≡ length region
  size = closed.same_size ∙ shifted.same_size

  edit : IsEdit region region'' g.before (free_tile to gap ∷ m.tile ∷ []) (u ∷ f ∷ []) m.more to (to + gap + m.tile.size)
  edit = record {
    left = g.left;
    was = (refl, g.some, (m.place, m.some, refl));
    is = (refl, m.some, (refl, g.some, omega arith));
    right = m.right;
    same_size = size;
    below = λ i h l. closed.below i (omega arith) ∙ shifted.below i l;
    above = λ i h l. closed.above i (omega arith) ∙ shifted.above i (omega arith);
  }

  -- its words are as they were
  words : (i : ℕ) → i < m.tile.size → word_at region'' (to + i) ≡ word_at region (m.tile.place + i)
  words i h = closed.below (to + i) (omega arith) ∙ shifted.copied (to + i) (omega arith) (omega arith)
      ∙ ap (word_at region) {x = to + gap + (to + i - to)} {y = m.tile.place + i} (let a = m.place in omega arith)

  same : chunk_in region'' u ≡ chunk_in region m.tile
  same = ap (λ (ws : List ℕ). record { owner = m.tile.owner; words = ws })
      (range-same region region'' (m.tile.place + 4) (to + 4) (m.tile.place + m.tile.size) (to + m.tile.size)
      (let a = m.place in let b = m.low in omega arith) (let a = size in let b = m.low in omega arith) (omega arith)
      (λ i h. ap (word_at region'') {x = to + 4 + i} {y = to + (4 + i)} (omega arith) ∙ words (4 + i) (omega arith) ∙ ap (word_at region) {x = m.tile.place + (4 + i)} {y = m.tile.place + 4 + i} (omega arith)))

  tiles : AreTiles region'' (u ∷ f ∷ [])
  tiles = (tile-moved region region'' m.tile to upper.0 own words, (tile-closed region' region'' (to + m.tile.size) gap (first_in popped (class_in gap)) closed, tt))

  ordered : AreInOrder region'' (with_first popped gap (to + m.tile.size + 1)) (g.before ++ ((u ∷ f ∷ []) ++ m.more))
  ordered = order-lone region'' (with_first popped gap (to + m.tile.size + 1)) g.before (u ∷ f ∷ m.more) (used-lone g.before g.used)
      (order-lone region'' (with_first popped gap (to + m.tile.size + 1)) (u ∷ []) (f ∷ m.more) (inl own, tt)
      (order-push region region'' popped m.more (to + m.tile.size) gap
      (order-without region popped (m.tile ∷ []) m.more (inl own, tt)
      (order-pop region firsts (m.tile ∷ m.more) to gap (subst (λ (us : List Tile). AreInOrder region firsts (free_tile to gap ∷ us)) m.split g.ordered) many))
      (length-with firsts gap (link_in region to) ∙ many)
      (links-same region region'' (to + gap + m.tile.size) (length region) m.more m.right (λ i h l. edit.above i h l)) (λ some. closed.linked some)))

  counts : free ≡ free_in (g.before ++ ((u ∷ f ∷ []) ++ m.more))
  counts =
      let a = g.counted in let b = ap free_in m.split in let c = free-split (m.tile ∷ []) m.more in let d = free-used m.tile own in
      let e = free-split g.before ((u ∷ f ∷ []) ++ m.more) in let h = used-free g.before g.used in
      let i = free-split (u ∷ []) (f ∷ m.more) in let j = free-used u own in let k = free-split (f ∷ []) m.more in let l = free-one f refl in
      omega arith

  renewal : IsRenewed region'' (with_first popped gap (to + m.tile.size + 1)) (g.before ++ ((u ∷ f ∷ []) ++ m.more)) free
  renewal = renewed-edit region region'' (with_first popped gap (to + m.tile.size + 1)) g.before (free_tile to gap ∷ m.tile ∷ []) (u ∷ f ∷ []) m.more
      to (to + gap + m.tile.size) free edit g.lower upper.1 tiles ordered counts

  first : first_free (g.before ++ ((u ∷ f ∷ []) ++ m.more)) (length region'') ≡ to + m.tile.size
  first = first-past g.before (u ∷ f ∷ m.more) (length region'') g.used ∙ first-next u (f ∷ m.more) (length region'') own ∙ first-here f m.more (length region'') refl

  -- ---- chunks at their places

  old-at : (k : ℕ) → to ≤ k → k < to + gap + m.tile.size → chunk region ts k ≡ chunk region (m.tile ∷ []) k
  old-at k low high = ap (λ (us : List Tile). chunk region us k) split
      ∙ edit-old region region'' g.before (free_tile to gap ∷ m.tile ∷ []) (u ∷ f ∷ []) m.more to (to + gap + m.tile.size) edit k low high
      ∙ chunk-free region (free_tile to gap) (m.tile ∷ []) k refl

  old-from : chunk region ts (to + gap) ≡ chunk_in region m.tile
  old-from = old-at (to + gap) (omega arith) (let a = m.some in omega arith) ∙ chunk-here region m.tile [] (to + gap) own m.place

  old-else : (k : ℕ) → to ≤ k → k < to + gap + m.tile.size → k ≢ to + gap → chunk region ts k ≡ no_chunk
  old-else k low high e = old-at k low high ∙ chunk-next region m.tile [] k (λ h. e (sym h ∙ m.place))

  new-at : (k : ℕ) → to ≤ k → k < to + gap + m.tile.size → chunk region'' (g.before ++ ((u ∷ f ∷ []) ++ m.more)) k ≡ chunk region'' (u ∷ f ∷ []) k
  new-at k low high = edit-new region region'' g.before (free_tile to gap ∷ m.tile ∷ []) (u ∷ f ∷ []) m.more to (to + gap + m.tile.size) edit k low high

  new-to : chunk region'' (g.before ++ ((u ∷ f ∷ []) ++ m.more)) to ≡ chunk_in region m.tile
  new-to = new-at to (omega arith) (let a = m.some in omega arith) ∙ chunk-here region'' u (f ∷ []) to own refl ∙ same

  new-else : (k : ℕ) → to ≤ k → k < to + gap + m.tile.size → k ≢ to → chunk region'' (g.before ++ ((u ∷ f ∷ []) ++ m.more)) k ≡ no_chunk
  new-else k low high e = new-at k low high ∙ chunk-next region'' u (f ∷ []) k (λ h. e (sym h)) ∙ chunk-free region'' f [] k refl

  outside : (k : ℕ) → (k < to) ⊎ (to + gap + m.tile.size ≤ k) → chunk region'' (g.before ++ ((u ∷ f ∷ []) ++ m.more)) k ≡ chunk region ts k
  outside k h = edit-outside region region'' g.before (free_tile to gap ∷ m.tile ∷ []) (u ∷ f ∷ []) m.more to (to + gap + m.tile.size) edit k h
      ∙ sym (ap (λ (us : List Tile). chunk region us k) split)

  else : (k : ℕ) → k ≢ to → k ≢ to + gap → chunk region'' (g.before ++ ((u ∷ f ∷ []) ++ m.more)) k ≡ chunk region ts k
  else k e h = ⊎_elim
      (λ (low : k < to). outside k (inl low))
      (λ (low : to ≤ k). ⊎_elim
      (λ (high : k < to + gap + m.tile.size). new-else k low high e ∙ sym (old-else k low high h))
      (λ (high : to + gap + m.tile.size ≤ k). outside k (inr high))
      (cases_lt k (to + gap + m.tile.size)))
      (cases_lt k to)

  moves : (k : ℕ) → chunk region'' (g.before ++ ((u ∷ f ∷ []) ++ m.more)) k
      ≡ with_chunk (with_chunk (chunk region ts) (to + gap) no_chunk) to (chunk region ts (to + gap)) k
  moves k = ⊎_elim
      (λ (e : k ≡ to).
      let test : (k == to) ≡ true = grind (arith, nat_tests) in
      ap (λ (z : ℕ). chunk region'' (g.before ++ ((u ∷ f ∷ []) ++ m.more)) z) e ∙ new-to ∙ sym old-from
      ∙ sym (ap (λ (b : Bool). cond b (chunk region ts (to + gap)) (cond (k == to + gap) no_chunk (chunk region ts k))) test))
      (λ (e : k ≢ to).
      let test : (k == to) ≡ false = grind (arith, nat_tests) in
      ⊎_elim
      (λ (h : k ≡ to + gap).
      let there : (k == to + gap) ≡ true = grind (arith, nat_tests) in
      new-else k (omega arith) (let a = m.some in omega arith) e
      ∙ sym (ap (λ (b : Bool). cond b (chunk region ts (to + gap)) (cond (k == to + gap) no_chunk (chunk region ts k))) test
      ∙ ap (λ (b : Bool). cond b no_chunk (chunk region ts k)) there))
      (λ (h : k ≢ to + gap).
      let there : (k == to + gap) ≡ false = grind (arith, nat_tests) in
      else k e h
      ∙ sym (ap (λ (b : Bool). cond b (chunk region ts (to + gap)) (cond (k == to + gap) no_chunk (chunk region ts k))) test
      ∙ ap (λ (b : Bool). cond b no_chunk (chunk region ts k)) there))
      (cases_eq k (to + gap)))
      (cases_eq k to)

  -- ---- how far down used chunks could go

  abbrev place_of : Placed → ℕ
  place_of c = c.place

  work-parts : (r : List ℕ) (a b d : List Tile) → sum_by place_of (placed_in r (a ++ (b ++ d))) ≡ sum_by place_of (placed_in r a) + (sum_by place_of (placed_in r b) + sum_by place_of (placed_in r d))
  work-parts r a b d =
      ap (sum_by place_of) (placed-split r a (b ++ d)) ∙ sum_by-append place_of (placed_in r a) (placed_in r (b ++ d))
      ∙ ap (λ (z : ℕ). sum_by place_of (placed_in r a) + z) (ap (sum_by place_of) (placed-split r b d) ∙ sum_by-append place_of (placed_in r b) (placed_in r d))

  work-less : sum_by place_of (placed_in region'' (g.before ++ ((u ∷ f ∷ []) ++ m.more))) < sum_by place_of (placed_in region ts)
  work-less =
      let order = spans-order (to + gap + m.tile.size) (length region) m.more m.right in
      let new = work-parts region'' g.before (u ∷ f ∷ []) m.more in
      let old = ap (λ (us : List Tile). sum_by place_of (placed_in region us)) split ∙ work-parts region g.before (free_tile to gap ∷ m.tile ∷ []) m.more in
      let a = ap (sum_by place_of) (placed-same region region'' 0 to g.before g.left (omega arith) size edit.below) in
      let b = ap (sum_by place_of) (placed-same region region'' (to + gap + m.tile.size) (length region) m.more m.right (omega arith) size edit.above) in
      let c : sum_by place_of (placed_in region'' (u ∷ f ∷ [])) ≡ 0 + to = ap (sum_by place_of) (placed-used region'' u (f ∷ []) own ∙ ap (λ (cs : List Placed). record { place = to; chunk = chunk_in region'' u } ∷ cs) (placed-free region'' f [] refl)) in
      let d : sum_by place_of (placed_in region (free_tile to gap ∷ m.tile ∷ [])) ≡ 0 + m.tile.place = ap (sum_by place_of) (placed-free region (free_tile to gap) (m.tile ∷ []) refl ∙ placed-used region m.tile [] own) in
      let e = m.place in let h = g.some in
      omega arith

  pub moved-down : IsMovedTile region region'' (with_first popped gap (to + m.tile.size + 1)) ts free (to + gap) to m.tile.size m.tile.owner
  moved-down = record {
    whole = renewal.whole;
    going = subst (λ (us : List Tile). IsGoingOn region'' (with_first popped gap (to + m.tile.size + 1)) us (Some (to + m.tile.size))) (sym renewal.is) (ordered, sym first);
    owner-was = ap (λ (c : Chunk). c.owner) old-from;
    vacant = ap (λ (c : Chunk). c.owner) (old-else to (omega arith) (let a = m.some in omega arith) (λ e. let a = g.some in absurd (omega arith)));
    moved = λ k. ap (λ (us : List Tile). chunk region'' us k) renewal.is ∙ moves k;
    less = subst (λ (us : List Tile). sum_by place_of (placed_in region'' us) < sum_by place_of (placed_in region ts)) (sym renewal.is) work-less;
    same_size = size;
  }
