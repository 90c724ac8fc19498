-- A chunk is taken: a free one came out of its list, and its first words became a used one.
use Rattle.std.proofs.Common.{suc, ◌≡◌, ℕ, ◌+◌, ◌-◌, ◌<◌, ◌≤◌, ◌==◌, cond, List, [], ◌∷◌, ◌++◌, length, refl, sym, ◌∙◌, ap, subst, arith, ⊎_elim}
use Rattle.std.proofs.lemmas.Bool.{cases_lt}
use Rattle.std.specs.List.{slice_set}
use Rattle.core_segment.specs.Chunks.{Chunk, no_chunk, with_chunk}
use Rattle.core_segment.specs.Heads.{size_in, HasHead, IsClosed, IsOpened}
use Rattle.core_segment.specs.Lists.{Tile, free_tile, class_in, first_in, with_first, IsListed}
use Rattle.core_segment.specs.Layout.{IsTile, AreTiles, Spans, IsLaid, tiles_of, free_in, largest_in}
use Rattle.core_segment.specs.Taking.{IsUnlisted, IsCarved}
use Rattle.core_segment.proofs.ListLaws.{SameLinks, listed-same, listed-push}
use Rattle.core_segment.proofs.LayoutLaws.{SameWords, tile-same, spans-cut, spans-order, are-cut, has-head, free-split, free-one, largest-split, largest-one}
use Rattle.core_segment.proofs.PlaceLaws.{chunk_in, chunk, chunk-free}
use Rattle.core_segment.proofs.GiveLaws.{IsRenewed, links-same, links-join, listed-with, listed-at, length-split, with-first, with-none, tile-closed, tile-opened}
use Rattle.core_segment.proofs.TakenLaws.{used_tile, IsTakenOut, taken-out, listed-small}

-- ---- the chunk that came out

pub record IsOut (region new : List ℕ) (p : ℕ) (before : List Tile) (t : Tile) (after : List Tile) : Type 0 where
  pub left : Spans 0 before p
  pub right : Spans (p + t.size) after (length new)
  pub tile : IsTile new t
  pub some : 0 < t.size
  pub low : p + t.size ≤ length new
  pub head : HasHead new p
  pub sized : size_in new p ≡ t.size
  pub was : size_in region p ≡ t.size
  pub few : suc (length (before ++ after)) ≤ length new

pub out : (region new f0 firsts : List ℕ) (free p : ℕ) → IsLaid region f0 (tiles_of region) free → (u : IsUnlisted region new firsts p) → IsOut region new p u.before u.tile u.after
out region new f0 firsts free p laid u =
    let spans = subst (λ (us : List Tile). Spans 0 us (length region)) u.split laid.spans in
    let cut = spans-cut 0 (length region) u.before (u.tile ∷ u.after) spans in
    let old = (are-cut region u.before (u.tile ∷ u.after) (subst (AreTiles region) u.split laid.tiles)).1.0 in
    let tile = (are-cut new u.before (u.tile ∷ u.after) (subst (AreTiles new) u.split u.tiles)).1.0 in
    let there : cut.at ≡ p = sym cut.right.0 ∙ u.place in
    let right : Spans (p + u.tile.size) u.after (length new) =
    subst (λ (z : ℕ). Spans (p + u.tile.size) u.after z) (sym u.same_size) (subst (λ (z : ℕ). Spans (z + u.tile.size) u.after (length region)) there cut.right.2) in
    let last = spans-order (p + u.tile.size) (length new) u.after right in
    let order = spans-order 0 (length region) (tiles_of region) laid.spans in
    let count = ap (λ (us : List Tile). length us) u.split ∙ length-split u.before u.tile u.after in
    let same = u.same_size in
    let place = u.place in
    record {
      left = subst (Spans 0 u.before) there cut.left;
      right = right;
      tile = tile;
      some = cut.right.1;
      low = omega arith;
      head = subst (HasHead new) u.place (has-head new u.tile tile cut.right.1 (omega arith));
      sized = ap (size_in new) (sym u.place) ∙ tile.sized;
      was = ap (size_in region) (sym u.place) ∙ old.sized;
      few = omega arith;
    }

-- ---- a used chunk takes its first words

module _ (region middle : List ℕ) (firsts : List ℕ) (free owner words : ℕ) (before : List Tile) (t : Tile) (after : List Tile)
    (own : 0 < owner) (some : 4 ≤ words) (none : t.owner ≡ 0) (enough : words ≤ t.size)
    (spans : Spans 0 (before ++ t ∷ after) (length region)) (tiles : AreTiles region (before ++ t ∷ after)) (counted : free ≡ free_in (before ++ t ∷ after))
    (lists : IsListed region firsts (before ++ after)) (many : length firsts ≡ 66) (opened : IsOpened region middle t.place owner words) where
  abbrev u : Tile
  u = used_tile t.place words owner

  left : Spans 0 before t.place
  left = let cut = spans-cut 0 (length region) before (t ∷ after) spans in subst (Spans 0 before) (sym cut.right.0) cut.left

  right : Spans (t.place + t.size) after (length region)
  right = let cut = spans-cut 0 (length region) before (t ∷ after) spans in subst (λ (z : ℕ). Spans (z + t.size) after (length region)) (sym cut.right.0) cut.right.2

  few : suc (length (before ++ after)) ≤ length region
  few = let order = spans-order 0 (length region) (before ++ t ∷ after) spans in let count = length-split before t after in omega arith

  -- nothing of it is left
  pub taken-whole : t.size ≡ words → IsTakenOut region middle firsts (before ++ t ∷ after) (before ++ ((u ∷ []) ++ after)) t.place owner words (free - words)
  taken-whole all = taken-out region middle firsts free owner words before t [] after none own some enough spans tiles counted opened.same_size below above
      (tile-opened region middle t.place owner words opened own some) tt (ap (λ (z : ℕ). t.place + z) (sym all)) (λ k. refl) (omega (arith, all)) (omega (arith, all))
      (listed-with middle firsts before u after own
      (listed-same region middle firsts (before ++ after) lists
      (links-join region middle before after (links-same region middle 0 t.place before left below) (links-same region middle (t.place + t.size) (length region) after right above))
      (let a = few in let b = opened.same_size in omega arith)))
    where
      below : SameWords region middle 0 t.place
      below = λ i h l. opened.below i l

      above : SameWords region middle (t.place + t.size) (length region)
      above = λ i h l. opened.above i (omega (arith, some, enough))

  -- the rest of it is a free chunk
  pub taken-part : (region' : List ℕ) → words < t.size → IsClosed middle region' (t.place + words) (t.size - words) (first_in firsts (class_in (t.size - words)))
      → IsTakenOut region region' (with_first firsts (t.size - words) (t.place + words + 1)) (before ++ t ∷ after)
      (before ++ ((u ∷ free_tile (t.place + words) (t.size - words) ∷ []) ++ after)) t.place owner words (free - words)
  taken-part region' less closed = taken-out region region' firsts' free owner words before t (f ∷ []) after none own some enough spans tiles counted size below above
      (tile-same middle region' u (tile-opened region middle t.place owner words opened own some) (omega (arith, some)) (λ i h l. closed.below i l))
      (tile-closed middle region' (t.place + words) (t.size - words) (first_in firsts (class_in (t.size - words))) closed, tt)
      (refl, omega (arith, less), omega (arith, less))
      (λ k. chunk-free region' f [] k refl) (free-one f refl) (largest-one f refl)
      (listed-with region' firsts' before u (f ∷ after) own (listed-at region' firsts' before f after more))
    where
      f : Tile
      f = free_tile (t.place + words) (t.size - words)

      firsts' : List ℕ
      firsts' = with_first firsts (t.size - words) (t.place + words + 1)

      size : length region' ≡ length region
      size = closed.same_size ∙ opened.same_size

      below : SameWords region region' 0 t.place
      below = λ i h l. closed.below i (omega arith) ∙ opened.below i l

      above : SameWords region region' (t.place + t.size) (length region)
      above = λ i h l. closed.above i (omega (arith, less)) ∙ opened.above i (omega (arith, some, enough))

      same : SameLinks region region' (before ++ after)
      same = links-join region region' before after (links-same region region' 0 t.place before left below) (links-same region region' (t.place + t.size) (length region) after right above)

      more : IsListed region' firsts' (f ∷ (before ++ after))
      more = ⊎_elim
          (λ (h : t.size - words < 4).
          subst (λ (fs : List ℕ). IsListed region' fs (f ∷ (before ++ after))) (sym (with-none firsts (t.size - words) (t.place + words + 1) h))
          (listed-small region' firsts (before ++ after) (t.place + words) (t.size - words)
          (listed-same region region' firsts (before ++ after) lists same (let a = few in let b = size in omega arith)) h))
          (λ (h : 4 ≤ t.size - words).
          subst (λ (fs : List ℕ). IsListed region' fs (f ∷ (before ++ after))) (sym (with-first firsts (t.size - words) (t.place + words + 1) h))
          (subst (λ (z : ℕ). IsListed region' (slice_set firsts (class_in (t.size - words)) z) (f ∷ (before ++ after))) {x = suc (t.place + words)} (omega arith)
          (listed-push region region' firsts (before ++ after) (t.place + words) (t.size - words) lists h many same (closed.linked h) (let a = few in let b = size in omega arith))))
          (cases_lt (t.size - words) 4)

-- ---- a chunk is taken

pub record IsTook (region region' firsts' : List ℕ) (p owner words free : ℕ) : Type 0 where
  pub tiles : List Tile
  pub renew : IsRenewed region' firsts' tiles (free - words)
  pub vacant : chunk region (tiles_of region) p ≡ no_chunk
  pub chunks : (k : ℕ) → chunk region' tiles k ≡ with_chunk (chunk region (tiles_of region)) p (chunk_in region' (used_tile p words owner)) k
  pub largest : largest_in (tiles_of region) ≤ largest_in tiles + words
  pub room : words ≤ largest_in (tiles_of region)
  pub fits : words ≤ free
  pub low : p + words ≤ length region
  pub same_size : length region' ≡ length region

-- the same, of a chunk that came out
took : (region new region' firsts' : List ℕ) (ts us : List Tile) (p owner words free : ℕ) → ts ≡ tiles_of region → ((k : ℕ) → chunk new ts k ≡ chunk region ts k)
    → IsTakenOut new region' firsts' ts us p owner words (free - words) → words ≤ largest_in ts → words ≤ free → p + words ≤ length region → length region' ≡ length region
    → IsTook region region' firsts' p owner words free
took region new region' firsts' ts us p owner words free e same out room fits low size = record {
  tiles = us;
  renew = out.renew;
  vacant = subst (λ (vs : List Tile). chunk region vs p ≡ no_chunk) e (sym (same p) ∙ out.vacant);
  chunks = λ k. subst (λ (vs : List Tile). chunk region' us k ≡ with_chunk (chunk region vs) p (chunk_in region' (used_tile p words owner)) k) e
      (out.chunks k ∙ ap (λ (x : Chunk). cond (k == p) (chunk_in region' (used_tile p words owner)) x) (same k));
  largest = let a = out.largest in let b = ap (λ (vs : List Tile). largest_in vs) e in omega arith;
  room = let b = ap (λ (vs : List Tile). largest_in vs) e in omega arith;
  fits = fits;
  low = low;
  same_size = size;
}

pub takes : (region f0 new f1 region' f2 : List ℕ) (p owner words free : ℕ) → IsLaid region f0 (tiles_of region) free → IsUnlisted region new f1 p → length f1 ≡ 66
    → IsCarved new region' f1 f2 p owner words (size_in new p) → 0 < owner → 4 ≤ words → words ≤ size_in region p → IsTook region region' f2 p owner words free
takes region f0 new f1 region' f2 p owner words free laid x many carved own some enough =
    let is = out region new f0 f1 free p laid x in
    let t = x.tile in
    let ts = x.before ++ t ∷ x.after in
    let fits : words ≤ t.size = (let a = is.was in omega arith) in
    let spans : Spans 0 ts (length new) = subst (Spans 0 ts) (sym x.same_size) (subst (λ (us : List Tile). Spans 0 us (length region)) x.split laid.spans) in
    let tiles : AreTiles new ts = subst (AreTiles new) x.split x.tiles in
    let counted : free ≡ free_in ts = laid.counted ∙ ap (λ (us : List Tile). free_in us) x.split in
    let same : (k : ℕ) → chunk new ts k ≡ chunk region ts k = subst (λ (us : List Tile). (k : ℕ) → chunk new us k ≡ chunk region us k) x.split x.chunks in
    let opened : IsOpened new carved.middle t.place owner words = subst (λ (z : ℕ). IsOpened new carved.middle z owner words) (sym x.place) carved.opened in
    let fa = free-split x.before (t ∷ x.after) in let fb = free-split (t ∷ []) x.after in let fc = free-one t x.free in
    let la = largest-split x.before (t ∷ x.after) in let lb = largest-split (t ∷ []) x.after in let lc = largest-one t x.free in
    let low : p + words ≤ length region = (let a = is.low in let b = x.same_size in omega arith) in
    let by : (r fs : List ℕ) (us : List Tile) → IsTakenOut new r fs ts us t.place owner words (free - words) → length r ≡ length region → IsTook region r fs p owner words free =
    λ r fs us h size. took region new r fs ts us p owner words free (sym x.split) same
    (subst (λ (z : ℕ). IsTakenOut new r fs ts us z owner words (free - words)) x.place h) (omega arith) (omega arith) low size in
    ⊎_elim
    (λ (h : (size_in new p ≡ words) × (region' ≡ carved.middle) × (f2 ≡ f1)).
    subst (λ (fs : List ℕ). IsTook region region' fs p owner words free) (sym h.2)
    (subst (λ (r : List ℕ). IsTook region r f1 p owner words free) (sym h.1)
    (by carved.middle f1 (x.before ++ ((used_tile t.place words owner ∷ []) ++ x.after))
    (taken-whole new carved.middle f1 free owner words x.before t x.after own some x.free fits spans tiles counted x.listed many opened (sym is.sized ∙ h.0))
    (carved.opened.same_size ∙ x.same_size))))
    (λ (h : (words < size_in new p) × IsClosed carved.middle region' (p + words) (size_in new p - words) (first_in f1 (class_in (size_in new p - words)))
    × (f2 ≡ with_first f1 (size_in new p - words) (p + words + 1))).
    let closed : IsClosed carved.middle region' (t.place + words) (t.size - words) (first_in f1 (class_in (t.size - words))) =
    subst (λ (z : ℕ). IsClosed carved.middle region' (z + words) (t.size - words) (first_in f1 (class_in (t.size - words)))) (sym x.place)
    (subst (λ (z : ℕ). IsClosed carved.middle region' (p + words) (z - words) (first_in f1 (class_in (z - words)))) is.sized h.1) in
    let firsts : f2 ≡ with_first f1 (t.size - words) (t.place + words + 1) = h.2 ∙ ap (λ (z : ℕ). with_first f1 (z - words) (p + words + 1)) is.sized
    ∙ ap (λ (z : ℕ). with_first f1 (t.size - words) (z + words + 1)) (sym x.place) in
    subst (λ (fs : List ℕ). IsTook region region' fs p owner words free) (sym firsts)
    (by region' (with_first f1 (t.size - words) (t.place + words + 1)) (x.before ++ ((used_tile t.place words owner ∷ free_tile (t.place + words) (t.size - words) ∷ []) ++ x.after))
    (taken-part new carved.middle f1 free owner words x.before t x.after own some x.free fits spans tiles counted x.listed many opened region' (let a = is.sized in let b = h.0 in omega arith) closed)
    (h.1.same_size ∙ carved.opened.same_size ∙ x.same_size)))
    carved.rest
