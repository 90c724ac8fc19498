-- A chunk becomes free, or others do in its place: what a segment keeps, and what it stands for.
use Rattle.std.proofs.Common.{suc, ◌≡◌, ◌≢◌, ℕ, ◌+◌, ◌<◌, ◌≤◌, ◌==◌, ◌⊎◌, inl, inr, Bool, true, false, cond, List, [], ◌∷◌, ◌++◌, length, replicate, refl, sym, ◌∙◌, ap, subst, arith, ⊎_elim}
use Rattle.std.proofs.lemmas.Bool.{cases_eq, cases_lt}
use Rattle.std.proofs.lemmas.Bool.Decides.{nat_tests}
use Rattle.std.proofs.lemmas.List.{get_or-replicate}
use Rattle.std.proofs.Math.ListN.{length-replicate}
use Rattle.std.specs.Prelude.{nat_lt}
use Rattle.std.specs.List.{slice_set}
use Rattle.core_segment.specs.Chunks.{Chunk, no_chunk, with_chunk}
use Rattle.core_segment.specs.Heads.{IsClosed, IsOpened}
use Rattle.core_segment.specs.Lists.{Tile, free_tile, class_in, first_in, with_first, weigh_free, IsListed}
use Rattle.core_segment.specs.Layout.{IsTile, AreTiles, Spans, IsLaid, tiles_of, free_in, largest_in}
use Rattle.core_segment.proofs.ListLaws.{at, among, weigh-split, weight-used, SameLinks, listed, listed-by, listed-push}
use Rattle.core_segment.proofs.LayoutLaws.{SameWords, spans-cut, spans-join, spans-order, are-cut, are-join, are-same, tiles-are, free-split, free-one, free-used, largest-split, largest-one, largest-none}
use Rattle.core_segment.proofs.PlaceLaws.{chunk_in, chunk, chunk-here, chunk-next, chunk-free, IsEdit, edit-outside, edit-new, edit-old}

-- ---- what a segment keeps

pub record IsRenewed (region firsts : List ℕ) (ts : List Tile) (free : ℕ) : Type 0 where
  pub is : tiles_of region ≡ ts
  pub whole : IsLaid region firsts (tiles_of region) free

pub renewed : (region firsts : List ℕ) (ts : List Tile) (free : ℕ) → Spans 0 ts (length region) → AreTiles region ts → IsListed region firsts ts → free ≡ free_in ts
    → IsRenewed region firsts ts free
unfolding tiles_of
renewed region firsts ts free spans tiles listed counted =
    let few = spans-order 0 (length region) ts spans in
    let e = tiles-are region (length region) 0 ts spans tiles (omega arith) in
    record {
      is = e;
      whole = subst (λ (us : List Tile). IsLaid region firsts us free) (sym e) (record { spans = spans; tiles = tiles; listed = listed; counted = counted });
    }

-- ---- lists

pub length-split : (before : List Tile) (t : Tile) (after : List Tile) → length (before ++ t ∷ after) ≡ suc (length (before ++ after))
length-split [] t after = refl
length-split (b ∷ bs) t after = ap suc (length-split bs t after)

-- the links of free chunks are as they were where all words are
pub links-same : (region region' : List ℕ) (p q : ℕ) (ts : List Tile) → Spans p ts q → SameWords region region' p q → SameLinks region region' ts
links-same region region' p q ts spans same c k low high some =
    let is = among c k ts some in
    let cut = spans-cut p q is.before (is.tile ∷ is.after) (subst (λ (us : List Tile). Spans p us q) is.split spans) in
    let place = cut.right.0 in
    let first = spans-order p cut.at is.before cut.left in
    let last = spans-order (cut.at + is.tile.size) q is.after cut.right.2 in
    let there = is.is.place in let class = is.is.class in
    let a = same (k + 2) (omega arith) (omega arith) in
    let b = same (k + 2 + 1) (omega arith) (omega arith) in
    omega arith

pub links-join : (region region' : List ℕ) (before after : List Tile) → SameLinks region region' before → SameLinks region region' after → SameLinks region region' (before ++ after)
links-join region region' before after l r c q low high some = ⊎_elim
    (λ (h : 0 < weigh_free c (at q) before). l c q low high h)
    (λ (h : weigh_free c (at q) before ≤ 0). r c q low high (let e = weigh-split c (at q) before after in omega arith))
    (cases_lt 0 (weigh_free c (at q) before))

-- a used chunk is in no list
pub listed-without : (region firsts : List ℕ) (before : List Tile) (u : Tile) (after : List Tile) → 0 < u.owner → IsListed region firsts (before ++ u ∷ after)
    → IsListed region firsts (before ++ after)
listed-without region firsts before u after own is = listed-by region firsts (before ++ u ∷ after) (before ++ after) is
    (λ c f. let a = weigh-split c f before (u ∷ after) in let b = weigh-split c f before after in let d = weight-used c f u own in omega arith)

pub listed-with : (region firsts : List ℕ) (before : List Tile) (u : Tile) (after : List Tile) → 0 < u.owner → IsListed region firsts (before ++ after)
    → IsListed region firsts (before ++ u ∷ after)
listed-with region firsts before u after own is = listed-by region firsts (before ++ after) (before ++ u ∷ after) is
    (λ c f. let a = weigh-split c f before (u ∷ after) in let b = weigh-split c f before after in let d = weight-used c f u own in omega arith)

-- the place of a chunk among others is of no account
pub listed-at : (region firsts : List ℕ) (before : List Tile) (t : Tile) (after : List Tile) → IsListed region firsts (t ∷ (before ++ after))
    → IsListed region firsts (before ++ t ∷ after)
listed-at region firsts before t after is = listed-by region firsts (t ∷ (before ++ after)) (before ++ t ∷ after) is
    (λ c f. let a = weigh-split c f before (t ∷ after) in let b = weigh-split c f before after in omega arith)

pub with-first : (firsts : List ℕ) (size link : ℕ) → 4 ≤ size → with_first firsts size link ≡ slice_set firsts (class_in size) link
with-first firsts size link some = let test : nat_lt size 4 ≡ false = grind (arith, nat_tests) in ap (λ (b : Bool). cond b firsts (slice_set firsts (class_in size) link)) test

pub with-none : (firsts : List ℕ) (size link : ℕ) → size < 4 → with_first firsts size link ≡ firsts
with-none firsts size link some = let test : nat_lt size 4 ≡ true = grind (arith, nat_tests) in ap (λ (b : Bool). cond b firsts (slice_set firsts (class_in size) link)) test

-- lists of none
pub listed-none : (region : List ℕ) → IsListed region (replicate 66 0) []
listed-none region = listed region (replicate 66 0) [] (λ c. []) (record {
  leads = λ c low high. get_or-replicate 66 c 0 0 (omega arith);
  holds = λ c low high f. refl;
})
    (omega arith)

-- ---- chunks whose first words were written

pub tile-closed : (region region' : List ℕ) (p size link : ℕ) → IsClosed region region' p size link → IsTile region' (free_tile p size)
tile-closed region region' p size link is = record { sized = is.sized; owned = is.free; used = λ h. absurd (omega arith); long = λ h e. is.long h }

pub tile-opened : (region region' : List ℕ) (p owner size : ℕ) → IsOpened region region' p owner size → 0 < owner → 4 ≤ size
    → IsTile region' (record { place = p; size = size; owner = owner })
tile-opened region region' p owner size is own some = record { sized = is.sized; owned = is.owned; used = λ h. some; long = λ h e. absurd (omega arith) }

-- ---- the used chunk at a place

pub record IsFound (region : List ℕ) (ts : List Tile) (p : ℕ) : Type 0 where
  pub before : List Tile
  pub tile : Tile
  pub after : List Tile
  pub split : ts ≡ before ++ tile ∷ after
  pub place : tile.place ≡ p
  pub own : 0 < tile.owner
  pub is : chunk region ts p ≡ chunk_in region tile

found-later : (region : List ℕ) (t : Tile) (ts : List Tile) (p : ℕ) → chunk region (t ∷ ts) p ≡ chunk region ts p → IsFound region ts p → IsFound region (t ∷ ts) p
found-later region t ts p e more =
    record { before = t ∷ more.before; tile = more.tile; after = more.after; split = ap (λ (us : List Tile). t ∷ us) more.split; place = more.place; own = more.own; is = e ∙ more.is }

pub found : (region : List ℕ) (ts : List Tile) (p : ℕ) → 0 < (chunk region ts p).owner → IsFound region ts p
found region [] p h = absurd (omega arith)
found region (t ∷ ts) p h =
    let later = λ (e : chunk region (t ∷ ts) p ≡ chunk region ts p). found-later region t ts p e (found region ts p (subst (λ (c : Chunk). 0 < c.owner) e h)) in ⊎_elim
    (λ (e : t.place ≡ p). ⊎_elim
    (λ (f : t.owner ≡ 0). later (chunk-free region t ts p f))
    (λ (f : t.owner ≢ 0). record { before = []; tile = t; after = ts; split = refl; place = e; own = omega arith; is = chunk-here region t ts p (omega arith) e })
    (cases_eq t.owner 0))
    (λ (e : t.place ≢ p). later (chunk-next region t ts p e))
    (cases_eq t.place p)

-- ---- a used chunk becomes free

pub record IsGiven (region region' firsts' : List ℕ) (ts us : List Tile) (p size free : ℕ) : Type 0 where
  pub renew : IsRenewed region' firsts' us free
  pub chunks : (k : ℕ) → chunk region' us k ≡ with_chunk (chunk region ts) p no_chunk k
  pub largest : largest_in ts ≤ largest_in us
  pub room : size ≤ largest_in us

module _ (region region' firsts : List ℕ) (free : ℕ) (before : List Tile) (u : Tile) (after : List Tile) (own : 0 < u.owner)
    (laid : IsLaid region firsts (before ++ u ∷ after) free) (many : length firsts ≡ 66)
    (closed : IsClosed region region' u.place u.size (first_in firsts (class_in u.size))) where
  abbrev f : Tile
  f = free_tile u.place u.size

  some : 4 ≤ u.size
  some = ((are-cut region before (u ∷ after) laid.tiles).1.0).used own

  low : u.place + u.size ≤ length region
  low = let cut = spans-cut 0 (length region) before (u ∷ after) laid.spans in let e = cut.right.0 in
      let a = spans-order (cut.at + u.size) (length region) after cut.right.2 in omega arith

  left : Spans 0 before u.place
  left = let cut = spans-cut 0 (length region) before (u ∷ after) laid.spans in subst (Spans 0 before) (sym cut.right.0) cut.left

  right : Spans (u.place + u.size) after (length region)
  right = let cut = spans-cut 0 (length region) before (u ∷ after) laid.spans in subst (λ (z : ℕ). Spans (z + u.size) after (length region)) (sym cut.right.0) cut.right.2

  size : length region' ≡ length region
  size = closed.same_size

  spans : Spans 0 (before ++ f ∷ after) (length region')
  spans = subst (Spans 0 (before ++ f ∷ after)) (sym size) (spans-join 0 u.place (length region) before (f ∷ after) left (refl, omega (arith, some), right))

  tiles : AreTiles region' (before ++ f ∷ after)
  tiles =
      let cut = are-cut region before (u ∷ after) laid.tiles in
      are-join region' before (f ∷ after)
      (are-same region region' 0 u.place before left cut.0 (λ i h l. closed.below i l)) (
        tile-closed region region' u.place u.size (first_in firsts (class_in u.size)) closed,
        are-same region region' (u.place + u.size) (length region) after right cut.1.1 (λ i h l. closed.above i h),
      )

  lists : IsListed region' (with_first firsts u.size (u.place + 1)) (before ++ f ∷ after)
  lists =
      let cut = spans-order 0 (length region) (before ++ u ∷ after) laid.spans in
      let count = length-split before u after in
      let most = low in
      subst (λ (fs : List ℕ). IsListed region' fs (before ++ f ∷ after)) (sym (with-first firsts u.size (u.place + 1) some))
      (listed-at region' (slice_set firsts (class_in u.size) (u.place + 1)) before f after
      (subst (λ (z : ℕ). IsListed region' (slice_set firsts (class_in u.size) z) (f ∷ (before ++ after))) {x = suc u.place} (omega arith)
      (listed-push region region' firsts (before ++ after) u.place u.size (listed-without region firsts before u after own laid.listed) some many
      (links-join region region' before after (links-same region region' 0 u.place before left (λ i h l. closed.below i l))
      (links-same region region' (u.place + u.size) (length region) after right (λ i h l. closed.above i h)))
      (closed.linked some) (let e = size in omega arith))))

  edit : IsEdit region region' before (u ∷ []) (f ∷ []) after u.place (u.place + u.size)
  edit = record {
    left = left;
    was = (refl, omega (arith, some), refl);
    is = (refl, omega (arith, some), refl);
    right = right;
    same_size = size;
    below = λ i h l. closed.below i l;
    above = λ i h l. closed.above i h;
  }

  chunks : (k : ℕ) → chunk region' (before ++ f ∷ after) k ≡ with_chunk (chunk region (before ++ u ∷ after)) u.place no_chunk k
  chunks k = ⊎_elim
      (λ (e : k ≡ u.place).
      let test : (k == u.place) ≡ true = grind (arith, nat_tests) in
      edit-new region region' before (u ∷ []) (f ∷ []) after u.place (u.place + u.size) edit k (omega arith) (omega (arith, some))
      ∙ chunk-free region' f [] k refl
      ∙ sym (ap (λ (b : Bool). cond b no_chunk (chunk region (before ++ u ∷ after) k)) test))
      (λ (e : k ≢ u.place).
      let test : (k == u.place) ≡ false = grind (arith, nat_tests) in
      other k e ∙ sym (ap (λ (b : Bool). cond b no_chunk (chunk region (before ++ u ∷ after) k)) test))
      (cases_eq k u.place)
    where
      outside : (k : ℕ) → (k < u.place) ⊎ (u.place + u.size ≤ k) → chunk region' (before ++ f ∷ after) k ≡ chunk region (before ++ u ∷ after) k
      outside k h = edit-outside region region' before (u ∷ []) (f ∷ []) after u.place (u.place + u.size) edit k h

      other : (k : ℕ) → k ≢ u.place → chunk region' (before ++ f ∷ after) k ≡ chunk region (before ++ u ∷ after) k
      other k e = ⊎_elim
          (λ (h : k < u.place). outside k (inl h))
          (λ (h : u.place ≤ k). ⊎_elim
          (λ (l : k < u.place + u.size).
          edit-new region region' before (u ∷ []) (f ∷ []) after u.place (u.place + u.size) edit k h l
          ∙ chunk-free region' f [] k refl
          ∙ sym (chunk-next region u [] k (λ x. e (sym x)))
          ∙ sym (edit-old region region' before (u ∷ []) (f ∷ []) after u.place (u.place + u.size) edit k h l))
          (λ (l : u.place + u.size ≤ k). outside k (inr l))
          (cases_lt k (u.place + u.size)))
          (cases_lt k u.place)

  pub given : IsGiven region region' (with_first firsts u.size (u.place + 1)) (before ++ u ∷ after) (before ++ f ∷ after) u.place u.size (free + u.size)
  given =
      let fa = free-split before (u ∷ after) in let fb = free-split before (f ∷ after) in
      let fc = free-split (u ∷ []) after in let fd = free-split (f ∷ []) after in
      let fe = free-used u own in let ff = free-one f refl in
      let la = largest-split before (u ∷ after) in let lb = largest-split before (f ∷ after) in
      let lc = largest-split (u ∷ []) after in let ld = largest-split (f ∷ []) after in
      let le = largest-none u own in let lf = largest-one f refl in
      record {
        renew = renewed region' (with_first firsts u.size (u.place + 1)) (before ++ f ∷ after) (free + u.size) spans tiles lists (let e = laid.counted in omega arith);
        chunks = chunks;
        largest = omega arith;
        room = omega arith;
      }

-- ---- a region of one free chunk

module _ (region region' : List ℕ) (words : ℕ) (size : length region ≡ words) (some : 4 ≤ words)
    (closed : IsClosed region region' 0 words (first_in (replicate 66 0) (class_in words))) where
  pub made : IsRenewed region' (with_first (replicate 66 0) words (0 + 1)) (free_tile 0 words ∷ []) words
  made =
      let same = closed.same_size in
      let one = free-one (free_tile 0 words) refl in
      renewed region' (with_first (replicate 66 0) words (0 + 1)) (free_tile 0 words ∷ []) words
      (refl, omega (arith, some), omega arith)
      (tile-closed region region' 0 words (first_in (replicate 66 0) (class_in words)) closed, tt)
      (subst (λ (fs : List ℕ). IsListed region' fs (free_tile 0 words ∷ [])) (sym (with-first (replicate 66 0) words (0 + 1) some))
      (listed-push region region' (replicate 66 0) [] 0 words (listed-none region) some (length-replicate {A = ℕ} 66 0) (λ c q low high h. absurd (omega arith)) (closed.linked some) (omega arith)))
      (omega arith)

  pub made-none : (k : ℕ) → chunk region' (free_tile 0 words ∷ []) k ≡ no_chunk
  made-none k = chunk-free region' (free_tile 0 words) [] k refl

  pub made-largest : largest_in (free_tile 0 words ∷ []) ≡ words
  made-largest = largest-one (free_tile 0 words) refl
