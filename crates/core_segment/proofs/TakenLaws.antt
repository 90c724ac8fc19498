-- A used chunk takes the first words of a free one that is in no list, and the rest is free.
use Rattle.std.proofs.Common.{◌≡◌, ◌≢◌, ℕ, ◌+◌, ◌-◌, ◌<◌, ◌≤◌, ◌==◌, ◌⊎◌, inl, inr, Bool, true, false, cond, List, [], ◌∷◌, ◌++◌, length, refl, sym, ◌∙◌, ap, subst, arith, ⊎_elim}
use Rattle.std.proofs.lemmas.Bool.{cases_eq, cases_lt}
use Rattle.std.proofs.lemmas.Bool.Decides.{nat_tests}
use Rattle.core_segment.specs.Chunks.{no_chunk, with_chunk}
use Rattle.core_segment.specs.Lists.{Tile, free_tile, IsListed}
use Rattle.core_segment.specs.Layout.{IsTile, AreTiles, Spans, free_in, largest_in}
use Rattle.core_segment.proofs.ListLaws.{weight-other}
use Rattle.core_segment.proofs.LayoutLaws.{SameWords, spans-cut, spans-join, are-cut, are-join, are-same, free-split, free-one, free-used, largest-split, largest-one, largest-none}
use Rattle.core_segment.proofs.PlaceLaws.{chunk_in, chunk, chunk-here, chunk-next, chunk-free, IsEdit, edit-outside, edit-new, edit-old}
use Rattle.core_segment.proofs.GiveLaws.{IsRenewed, renewed}

-- a used chunk at a place
abbrev pub used_tile : ℕ → ℕ → ℕ → Tile
used_tile place size owner = record { place = place; size = size; owner = owner }

pub record IsTakenOut (region region' firsts' : List ℕ) (ts us : List Tile) (p owner words free : ℕ) : Type 0 where
  pub renew : IsRenewed region' firsts' us free
  pub vacant : chunk region ts p ≡ no_chunk
  pub chunks : (k : ℕ) → chunk region' us k ≡ with_chunk (chunk region ts) p (chunk_in region' (used_tile p words owner)) k
  pub largest : largest_in ts ≤ largest_in us + words

-- `rest` is what stays of the free chunk: none, or one free chunk

module _ (region region' firsts' : List ℕ) (free owner words : ℕ) (before : List Tile) (t : Tile) (rest after : List Tile) (none : t.owner ≡ 0) (own : 0 < owner)
    (few : 4 ≤ words) (enough : words ≤ t.size)
    (spans : Spans 0 (before ++ t ∷ after) (length region)) (tiles : AreTiles region (before ++ t ∷ after)) (counted : free ≡ free_in (before ++ t ∷ after))
    (size : length region' ≡ length region) (below : SameWords region region' 0 t.place) (above : SameWords region region' (t.place + t.size) (length region))
    (tile : IsTile region' (used_tile t.place words owner)) (others : AreTiles region' rest) (lie : Spans (t.place + words) rest (t.place + t.size))
    (vacant : (k : ℕ) → chunk region' rest k ≡ no_chunk) (left-free : free_in rest ≡ t.size - words) (left-large : largest_in rest ≡ t.size - words)
    (lists : IsListed region' firsts' (before ++ ((used_tile t.place words owner ∷ rest) ++ after))) where
  left : Spans 0 before t.place
  left = let cut = spans-cut 0 (length region) before (t ∷ after) spans in subst (Spans 0 before) (sym cut.right.0) cut.left

  right : Spans (t.place + t.size) after (length region)
  right = let cut = spans-cut 0 (length region) before (t ∷ after) spans in subst (λ (z : ℕ). Spans (z + t.size) after (length region)) (sym cut.right.0) cut.right.2

  mid : Spans t.place (used_tile t.place words owner ∷ rest) (t.place + t.size)
  mid = (refl, omega (arith, few), lie)

  edit : IsEdit region region' before (t ∷ []) (used_tile t.place words owner ∷ rest) after t.place (t.place + t.size)
  edit = record {
    left = left;
    was = (refl, omega (arith, few, enough), refl);
    is = mid;
    right = right;
    same_size = size;
    below = below;
    above = above;
  }

  are : AreTiles region' (before ++ ((used_tile t.place words owner ∷ rest) ++ after))
  are =
      let cut = are-cut region before (t ∷ after) tiles in
      are-join region' before ((used_tile t.place words owner ∷ rest) ++ after)
      (are-same region region' 0 t.place before left cut.0 below)
      (are-join region' (used_tile t.place words owner ∷ rest) after (tile, others)
      (are-same region region' (t.place + t.size) (length region) after right cut.1.1 above))

  all : Spans 0 (before ++ ((used_tile t.place words owner ∷ rest) ++ after)) (length region')
  all = subst (Spans 0 (before ++ ((used_tile t.place words owner ∷ rest) ++ after))) (sym size)
      (spans-join 0 t.place (length region) before ((used_tile t.place words owner ∷ rest) ++ after) left
      (spans-join t.place (t.place + t.size) (length region) (used_tile t.place words owner ∷ rest) after mid right))

  -- no used chunk began in the free one
  was : (k : ℕ) → t.place ≤ k → k < t.place + t.size → chunk region (before ++ t ∷ after) k ≡ no_chunk
  was k low high = edit-old region region' before (t ∷ []) (used_tile t.place words owner ∷ rest) after t.place (t.place + t.size) edit k low high ∙ chunk-free region t [] k none

  chunks : (k : ℕ) → chunk region' (before ++ ((used_tile t.place words owner ∷ rest) ++ after)) k
      ≡ with_chunk (chunk region (before ++ t ∷ after)) t.place (chunk_in region' (used_tile t.place words owner)) k
  chunks k = ⊎_elim
      (λ (e : k ≡ t.place).
      let test : (k == t.place) ≡ true = grind (arith, nat_tests) in
      edit-new region region' before (t ∷ []) (used_tile t.place words owner ∷ rest) after t.place (t.place + t.size) edit k (omega arith) (omega (arith, few, enough))
      ∙ chunk-here region' (used_tile t.place words owner) rest k own (sym e)
      ∙ sym (ap (λ (b : Bool). cond b (chunk_in region' (used_tile t.place words owner)) (chunk region (before ++ t ∷ after) k)) test))
      (λ (e : k ≢ t.place).
      let test : (k == t.place) ≡ false = grind (arith, nat_tests) in
      other e ∙ sym (ap (λ (b : Bool). cond b (chunk_in region' (used_tile t.place words owner)) (chunk region (before ++ t ∷ after) k)) test))
      (cases_eq k t.place)
    where
      outside : (k < t.place) ⊎ (t.place + t.size ≤ k) → chunk region' (before ++ ((used_tile t.place words owner ∷ rest) ++ after)) k ≡ chunk region (before ++ t ∷ after) k
      outside h = edit-outside region region' before (t ∷ []) (used_tile t.place words owner ∷ rest) after t.place (t.place + t.size) edit k h

      other : k ≢ t.place → chunk region' (before ++ ((used_tile t.place words owner ∷ rest) ++ after)) k ≡ chunk region (before ++ t ∷ after) k
      other e = ⊎_elim
          (λ (h : k < t.place). outside (inl h))
          (λ (h : t.place ≤ k). ⊎_elim
          (λ (l : k < t.place + t.size).
          edit-new region region' before (t ∷ []) (used_tile t.place words owner ∷ rest) after t.place (t.place + t.size) edit k h l
          ∙ chunk-next region' (used_tile t.place words owner) rest k (λ x. e (sym x)) ∙ vacant k ∙ sym (was k h l))
          (λ (l : t.place + t.size ≤ k). outside (inr l))
          (cases_lt k (t.place + t.size)))
          (cases_lt k t.place)

  pub taken-out : IsTakenOut region region' firsts' (before ++ t ∷ after) (before ++ ((used_tile t.place words owner ∷ rest) ++ after)) t.place owner words (free - words)
  taken-out =
      let fa = free-split before (t ∷ after) in let fb = free-split (t ∷ []) after in let fc = free-one t none in
      let fd = free-split before ((used_tile t.place words owner ∷ rest) ++ after) in let fe = free-split (used_tile t.place words owner ∷ rest) after in
      let ff = free-split (used_tile t.place words owner ∷ []) rest in let fg = free-used (used_tile t.place words owner) own in
      let la = largest-split before (t ∷ after) in let lb = largest-split (t ∷ []) after in let lc = largest-one t none in
      let ld = largest-split before ((used_tile t.place words owner ∷ rest) ++ after) in let le = largest-split (used_tile t.place words owner ∷ rest) after in
      let lf = largest-split (used_tile t.place words owner ∷ []) rest in let lg = largest-none (used_tile t.place words owner) own in
      let lh = left-free in let li = left-large in let e = counted in let m = enough in
      record {
        renew = renewed region' firsts' (before ++ ((used_tile t.place words owner ∷ rest) ++ after)) (free - words) all are lists (omega arith);
        vacant = was t.place (omega arith) (omega (arith, few, enough));
        chunks = chunks;
        largest = omega arith;
      }

-- ---- a small free chunk is in no list

pub listed-small : (region firsts : List ℕ) (ts : List Tile) (p size : ℕ) → IsListed region firsts ts → size < 4 → IsListed region firsts (free_tile p size ∷ ts)
listed-small region firsts ts p size is few = record {
  leads = is.leads;
  holds = λ c low high f. is.holds c low high f ∙ (let a = weight-other c f p size (λ e. absurd (omega arith)) in omega arith);
}
