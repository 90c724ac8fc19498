use Rattle.core_segment.specs.Words.{words_of}
use Rattle.std.proofs.Common.{zero, suc, ◌≡◌, ◌≢◌, ℕ, ◌+◌, ◌<◌, ◌≤◌, ◌==◌, true, false, Bool, cond, List, [], ◌∷◌, length, get_or, sum_by, sym, ap, subst, arith, ⊎_elim}
use Rattle.std.proofs.lemmas.Bool.{cases_eq}
use Rattle.std.proofs.lemmas.Bool.Decides.{nat_tests}
use Rattle.std.proofs.lemmas.List.Sums.{sum_by-cons}
use Rattle.core_segment.specs.Chunks.{Placed, room_of}
use Rattle.core_segment.specs.Lists.{Tile}
use Rattle.core_segment.specs.Layout.{AreTiles, Spans, placed_in, free_in, tiles_of}
use Rattle.core_segment.specs.Segment.{chunks_of, free_of, size_of}
use Rattle.core_segment.proofs.LayoutLaws.{spans-order, free-split, free-one, free-used}
use Rattle.core_segment.proofs.PlaceLaws.{chunk_in}
use Rattle.core_segment.proofs.WordLaws.{length-range}
use Rattle.core_segment.proofs.laws.chunks_never_overlap.Goals as goal

-- the used chunks from one place to another, and the free words among them
record IsApart (p q : ℕ) (cs : List Placed) (free : ℕ) : Type 0 where
  from : (k : ℕ) (d : Placed) → k < length cs → p ≤ (get_or cs k d).place
  within : (k : ℕ) (d : Placed) → k < length cs → (get_or cs k d).place + room_of (get_or cs k d) ≤ q
  apart : (j k : ℕ) (d : Placed) → j < k → k < length cs → (get_or cs j d).place + room_of (get_or cs j d) ≤ (get_or cs k d).place
  owned : (k : ℕ) (d : Placed) → k < length cs → 0 < (get_or cs k d).chunk.owner
  all : p + (free + sum_by room_of cs) ≡ q

-- one more chunk lies before the others
one-more : (p m q free : ℕ) (c : Placed) (cs : List Placed) → c.place ≡ p → p + room_of c ≡ m → m ≤ q → 0 < c.chunk.owner → IsApart m q cs free → IsApart p q (c ∷ cs) free
one-more p m q free c cs place room order own is = record { from = from; within = within; apart = apart; owned = owned; all = let a = is.all in omega (arith, sum_by-cons room_of c cs) }
  where
    from : (k : ℕ) (d : Placed) → k < length (c ∷ cs) → p ≤ (get_or (c ∷ cs) k d).place
    from zero d h = omega arith
    from (suc k) d h = let a = is.from k d (omega arith) in omega arith

    within : (k : ℕ) (d : Placed) → k < length (c ∷ cs) → (get_or (c ∷ cs) k d).place + room_of (get_or (c ∷ cs) k d) ≤ q
    within zero d h = omega arith
    within (suc k) d h = is.within k d (omega arith)

    apart : (j k : ℕ) (d : Placed) → j < k → k < length (c ∷ cs) → (get_or (c ∷ cs) j d).place + room_of (get_or (c ∷ cs) j d) ≤ (get_or (c ∷ cs) k d).place
    apart j zero d h l = absurd (omega arith)
    apart zero (suc k) d h l = let a = is.from k d (omega arith) in omega arith
    apart (suc j) (suc k) d h l = is.apart j k d (omega arith) (omega arith)

    owned : (k : ℕ) (d : Placed) → k < length (c ∷ cs) → 0 < (get_or (c ∷ cs) k d).chunk.owner
    owned zero d h = own
    owned (suc k) d h = is.owned k d (omega arith)

apart-of : (region : List ℕ) (p q : ℕ) (ts : List Tile) → Spans p ts q → AreTiles region ts → q ≤ length region → IsApart p q (placed_in region ts) (free_in ts)
apart-of region p q [] spans tiles low = record {
  from = λ k d h. absurd (omega arith);
  within = λ k d h. absurd (omega arith);
  apart = λ j k d h l. absurd (omega arith);
  owned = λ k d h. absurd (omega arith);
  all = let e = spans in omega arith;
}
apart-of region p q (t ∷ ts) spans tiles low =
    let more : IsApart (p + t.size) q (placed_in region ts) (free_in ts) = apart-of region (p + t.size) q ts spans.2 tiles.1 low in
    let order = spans-order (p + t.size) q ts spans.2 in
    let place = spans.0 in
    let free = free-split (t ∷ []) ts in ⊎_elim
    (λ (e : t.owner ≡ 0).
    let test : (t.owner == 0) ≡ true = grind (arith, nat_tests) in
    let same = ap (λ (b : Bool). cond b (placed_in region ts) (record { place = t.place; chunk = chunk_in region t } ∷ placed_in region ts)) test in
    subst (λ (cs : List Placed). IsApart p q cs (free_in (t ∷ ts))) (sym same) (record {
      from = λ k d h. let a = more.from k d h in omega arith;
      within = more.within;
      apart = more.apart;
      owned = more.owned;
      all = let a = more.all in let b = free-one t e in omega arith;
    }))
    (λ (e : t.owner ≢ 0).
    let test : (t.owner == 0) ≡ false = grind (arith, nat_tests) in
    let same = ap (λ (b : Bool). cond b (placed_in region ts) (record { place = t.place; chunk = chunk_in region t } ∷ placed_in region ts)) test in
    let some = tiles.0.used (omega arith) in
    let words = length-range region (t.place + 4) (t.place + t.size) (omega arith) in
    subst (λ (cs : List Placed). IsApart p q cs (free_in (t ∷ ts))) (sym same)
    (one-more p (p + t.size) q (free_in (t ∷ ts)) (record { place = t.place; chunk = chunk_in region t }) (placed_in region ts) place (omega arith) (omega arith) (omega arith)
    (subst (IsApart (p + t.size) q (placed_in region ts)) (let b = free-used t (omega arith) in omega arith) more)))
    (cases_eq t.owner 0)

pub returns : goal.returns
unfolding chunks_of free_of size_of
returns c =
    let g = c.args.segment.now in let items = (words_of g.region) in
    let is = apart-of items 0 (length items) (tiles_of items) g.whole.spans g.whole.tiles (omega arith) in
    record {
      within = is.within;
      apart = is.apart;
      owned = is.owned;
      all = let a = is.all in let b = g.whole.counted in omega arith;
    }
