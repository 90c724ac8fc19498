-- Chunks that tile a region.
use Rattle.std.proofs.Common.{zero, suc, ◌≡◌, ◌≢◌, ℕ, ◌+◌, ◌<◌, ◌≤◌, ◌==◌, max, Bool, true, false, cond, List, [], ◌∷◌, ◌++◌, length, refl, sym, ◌∙◌, ap, subst, arith, ⊎_elim}
use Rattle.std.proofs.lemmas.Bool.{cases_eq}
use Rattle.std.proofs.lemmas.Bool.Decides.{nat_tests}
use Rattle.std.specs.Prelude.{nat_lt}
use Rattle.core_segment.specs.Heads.{word_at, size_in, owner_in, pair_in, HasHead}
use Rattle.core_segment.specs.Lists.{Tile}
use Rattle.core_segment.specs.Layout.{IsTile, AreTiles, Spans, tiles_from, free_in, largest_in}

-- ---- one behind the other

pub record IsCut (p q : ℕ) (before after : List Tile) : Type 0 where
  pub at : ℕ
  pub left : Spans p before at
  pub right : Spans at after q

pub spans-cut : (p q : ℕ) (before after : List Tile) → Spans p (before ++ after) q → IsCut p q before after
spans-cut p q [] after s = record { at = p; left = refl; right = s }
spans-cut p q (t ∷ ts) after s = let more = spans-cut (p + t.size) q ts after s.2 in record { at = more.at; left = (s.0, s.1, more.left); right = more.right }

pub spans-join : (p m q : ℕ) (before after : List Tile) → Spans p before m → Spans m after q → Spans p (before ++ after) q
spans-join p m q [] after l r = subst (λ (z : ℕ). Spans z after q) (sym l) r
spans-join p m q (t ∷ ts) after l r = (l.0, l.1, spans-join (p + t.size) m q ts after l.2 r)

pub spans-order : (p q : ℕ) (ts : List Tile) → Spans p ts q → p + length ts ≤ q
spans-order p q [] s = omega arith
spans-order p q (t ∷ ts) s = let more = spans-order (p + t.size) q ts s.2 in let some = s.1 in omega arith

-- ---- what the words tell

pub are-cut : (region : List ℕ) (before after : List Tile) → AreTiles region (before ++ after) → AreTiles region before × AreTiles region after
are-cut region [] after a = (tt, a)
are-cut region (t ∷ ts) after a = let more = are-cut region ts after a.1 in ((a.0, more.0), more.1)

pub are-join : (region : List ℕ) (before after : List Tile) → AreTiles region before → AreTiles region after → AreTiles region (before ++ after)
are-join region [] after a b = b
are-join region (t ∷ ts) after a b = (a.0, are-join region ts after a.1 b)

-- the words of a part are as they were
abbrev pub SameWords : List ℕ → List ℕ → ℕ → ℕ → Type 0
SameWords region region' p q = (i : ℕ) → p ≤ i → i < q → word_at region' i ≡ word_at region i

-- the first words of a chunk that tell its size and its owner are as they were
pub record SameHead (region region' : List ℕ) (p : ℕ) : Type 0 where
  pub first : word_at region' p ≡ word_at region p
  pub second : word_at region p ≡ 0 → word_at region' (p + 1) ≡ word_at region (p + 1)
  pub used : word_at region p ≡ 0 → word_at region (p + 1) ≢ 0 → pair_in region' (p + 2) ≡ pair_in region (p + 2)
  pub free : word_at region p ≡ 0 → word_at region (p + 1) ≡ 0 → pair_in region' (p + 4) ≡ pair_in region (p + 4)

module _ (region region' : List ℕ) (p : ℕ) (same : SameHead region region' p) where
  -- the size behind a first word 0
  abbrev later : List ℕ → ℕ → ℕ
  later r w = cond (w == 0) (pair_in r (p + 4)) (pair_in r (p + 2))

  same-later : word_at region p ≡ 0 → later region' (word_at region' (p + 1)) ≡ later region (word_at region (p + 1))
  same-later e = ap (later region') (same.second e) ∙ ⊎_elim
      (λ (f : word_at region (p + 1) ≡ 0).
      let b : (word_at region (p + 1) == 0) ≡ true = grind (arith, nat_tests) in
      ap (λ (x : Bool). cond x (pair_in region' (p + 4)) (pair_in region' (p + 2))) b ∙ same.free e f
      ∙ sym (ap (λ (x : Bool). cond x (pair_in region (p + 4)) (pair_in region (p + 2))) b))
      (λ (f : word_at region (p + 1) ≢ 0).
      let b : (word_at region (p + 1) == 0) ≡ false = grind (arith, nat_tests) in
      ap (λ (x : Bool). cond x (pair_in region' (p + 4)) (pair_in region' (p + 2))) b ∙ same.used e f
      ∙ sym (ap (λ (x : Bool). cond x (pair_in region (p + 4)) (pair_in region (p + 2))) b))
      (cases_eq (word_at region (p + 1)) 0)

  same-size : size_in region' p ≡ size_in region p
  same-size = ap (λ (w : ℕ). cond (w == 0) (later region' (word_at region' (p + 1))) w) same.first ∙ ⊎_elim
      (λ (e : word_at region p ≡ 0).
      ap (λ (z : ℕ). cond (word_at region p == 0) z (word_at region p)) (same-later e))
      (λ (e : word_at region p ≢ 0).
      let a : (word_at region p == 0) ≡ false = grind (arith, nat_tests) in
      ap (λ (x : Bool). cond x (later region' (word_at region' (p + 1))) (word_at region p)) a
      ∙ sym (ap (λ (x : Bool). cond x (later region (word_at region (p + 1))) (word_at region p)) a))
      (cases_eq (word_at region p) 0)

  same-owner : owner_in region' p ≡ owner_in region p
  same-owner = ap (λ (w : ℕ). cond (w == 0) (word_at region' (p + 1)) 0) same.first ∙ ⊎_elim
      (λ (e : word_at region p ≡ 0).
      ap (λ (z : ℕ). cond (word_at region p == 0) z 0) (same.second e))
      (λ (e : word_at region p ≢ 0).
      let a : (word_at region p == 0) ≡ false = grind (arith, nat_tests) in
      ap (λ (x : Bool). cond x (word_at region' (p + 1)) 0) a ∙ sym (ap (λ (x : Bool). cond x (word_at region (p + 1)) 0) a))
      (cases_eq (word_at region p) 0)

pub tile-told : (region region' : List ℕ) (t : Tile) → IsTile region t → SameHead region region' t.place → IsTile region' t
tile-told region region' t is same = record {
  sized = same-size region region' t.place same ∙ is.sized;
  owned = same-owner region region' t.place same ∙ is.owned;
  used = is.used;
  long = λ h. is.long (sym same.first ∙ h);
}

-- behind a first word 0 the second one is the owner
pub second-owner : (region : List ℕ) (t : Tile) → IsTile region t → word_at region t.place ≡ 0 → word_at region (t.place + 1) ≡ t.owner
second-owner region t is e = let a : (word_at region t.place == 0) ≡ true = grind (arith, nat_tests) in
    sym (ap (λ (x : Bool). cond x (word_at region (t.place + 1)) 0) a) ∙ is.owned

-- a used chunk whose first four words are as they were
pub tile-kept : (region region' : List ℕ) (t : Tile) → IsTile region t → 0 < t.owner → SameWords region region' t.place (t.place + 4) → IsTile region' t
tile-kept region region' t is own same = tile-told region region' t is (record {
  first = same t.place (omega arith) (omega arith);
  second = λ e. same (t.place + 1) (omega arith) (omega arith);
  used = λ e f. let third = same (t.place + 2) (omega arith) (omega arith) in let fourth = same (t.place + 2 + 1) (omega arith) (omega arith) in omega arith;
  free = λ e f. let owner = second-owner region t is e in absurd (omega arith);
})

-- a free chunk in which nothing changes but its link
pub tile-linked : (region region' : List ℕ) (t : Tile) → IsTile region t → t.owner ≡ 0 → SameWords region region' t.place (t.place + 2)
    → SameWords region region' (t.place + 4) (t.place + t.size) → IsTile region' t
tile-linked region region' t is own below above = tile-told region region' t is (record {
  first = below t.place (omega arith) (omega arith);
  second = λ e. below (t.place + 1) (omega arith) (omega arith);
  used = λ e f. let owner = second-owner region t is e in absurd (f (owner ∙ own));
  free = λ e f. let long = is.long e own in
      let fifth = above (t.place + 4) (omega arith) (omega arith) in let sixth = above (t.place + 4 + 1) (omega arith) (omega arith) in omega arith;
})

pub tile-same : (region region' : List ℕ) (t : Tile) → IsTile region t → 0 < t.size → SameWords region region' t.place (t.place + t.size) → IsTile region' t
tile-same region region' t is some same = ⊎_elim
    (λ (own : t.owner ≡ 0). tile-told region region' t is (record {
      first = same t.place (omega arith) (omega arith);
      second = λ e. let long = is.long e own in same (t.place + 1) (omega arith) (omega arith);
      used = λ e f. let owner = second-owner region t is e in absurd (f (owner ∙ own));
      free = λ e f. let long = is.long e own in
          let fifth = same (t.place + 4) (omega arith) (omega arith) in let sixth = same (t.place + 4 + 1) (omega arith) (omega arith) in omega arith;
    }))
    (λ (own : t.owner ≢ 0). let four = is.used (omega arith) in tile-kept region region' t is (omega arith) (λ i h l. same i h (omega arith)))
    (cases_eq t.owner 0)

pub are-same : (region region' : List ℕ) (p q : ℕ) (ts : List Tile) → Spans p ts q → AreTiles region ts → SameWords region region' p q → AreTiles region' ts
are-same region region' p q [] s a same = tt
are-same region region' p q (t ∷ ts) s a same =
    let place = s.0 in let some = s.1 in let low = spans-order (p + t.size) q ts s.2 in (
      tile-same region region' t a.0 s.1 (λ i h l. same i (omega arith) (omega arith)),
      are-same region region' (p + t.size) q ts s.2 a.1 (λ i h l. same i (omega arith) l),
    )

-- the walk over a region finds its chunks
pub tiles-are : (region : List ℕ) (n p : ℕ) (ts : List Tile) → Spans p ts (length region) → AreTiles region ts → length ts ≤ n → tiles_from region n p ≡ ts
tiles-are region zero p [] s a few = refl
tiles-are region (suc n) p [] s a few = let test : nat_lt p (length region) ≡ false = grind (arith, nat_tests) in
    ap (λ (b : Bool). cond b (record { place = p; size = size_in region p; owner = owner_in region p } ∷ tiles_from region n (p + size_in region p)) []) test
tiles-are region zero p (t ∷ ts) s a few = absurd (omega arith)
tiles-are region (suc n) p (t ∷ ts) s a few =
    let low = spans-order (p + t.size) (length region) ts s.2 in let some = s.1 in let place = s.0 in
    let test : nat_lt p (length region) ≡ true = grind (arith, nat_tests) in
    let size : size_in region p ≡ t.size = ap (size_in region) (sym place) ∙ a.0.sized in
    let owner : owner_in region p ≡ t.owner = ap (owner_in region) (sym place) ∙ a.0.owned in
    ap (λ (b : Bool). cond b (record { place = p; size = size_in region p; owner = owner_in region p } ∷ tiles_from region n (p + size_in region p)) []) test
    ∙ ap (λ (z : ℕ). record { place = p; size = z; owner = owner_in region p } ∷ tiles_from region n (p + z)) size
    ∙ ap (λ (z : ℕ). record { place = p; size = t.size; owner = z } ∷ tiles_from region n (p + t.size)) owner
    ∙ ap (λ (z : ℕ). record { place = z; size = t.size; owner = t.owner } ∷ tiles_from region n (p + t.size)) (sym place)
    ∙ ap (λ (us : List Tile). t ∷ us) (tiles-are region n (p + t.size) ts s.2 a.1 (omega arith))

-- ---- what is free

free-head : (t : Tile) (ts : List Tile) → t.owner ≡ 0 → free_in (t ∷ ts) ≡ t.size + free_in ts
free-head t ts e = let test : (t.owner == 0) ≡ true = grind (arith, nat_tests) in ap (λ (b : Bool). cond b (t.size + free_in ts) (free_in ts)) test

used-head : (t : Tile) (ts : List Tile) → 0 < t.owner → free_in (t ∷ ts) ≡ free_in ts
used-head t ts e = let test : (t.owner == 0) ≡ false = grind (arith, nat_tests) in ap (λ (b : Bool). cond b (t.size + free_in ts) (free_in ts)) test

pub free-split : (before after : List Tile) → free_in (before ++ after) ≡ free_in before + free_in after
free-split [] after = omega arith
free-split (t ∷ ts) after = let more = free-split ts after in ⊎_elim
    (λ (e : t.owner ≡ 0). let a = free-head t (ts ++ after) e in let b = free-head t ts e in omega arith)
    (λ (e : t.owner ≢ 0). let a = used-head t (ts ++ after) (omega arith) in let b = used-head t ts (omega arith) in omega arith)
    (cases_eq t.owner 0)

pub free-one : (t : Tile) → t.owner ≡ 0 → free_in (t ∷ []) ≡ t.size
free-one t e = let a = free-head t [] e in omega arith

pub free-used : (t : Tile) → 0 < t.owner → free_in (t ∷ []) ≡ 0
free-used t e = used-head t [] e

largest-head : (t : Tile) (ts : List Tile) → t.owner ≡ 0 → largest_in (t ∷ ts) ≡ max t.size (largest_in ts)
largest-head t ts e = let test : (t.owner == 0) ≡ true = grind (arith, nat_tests) in ap (λ (b : Bool). cond b (max t.size (largest_in ts)) (largest_in ts)) test

largest-used : (t : Tile) (ts : List Tile) → 0 < t.owner → largest_in (t ∷ ts) ≡ largest_in ts
largest-used t ts e = let test : (t.owner == 0) ≡ false = grind (arith, nat_tests) in ap (λ (b : Bool). cond b (max t.size (largest_in ts)) (largest_in ts)) test

pub largest-split : (before after : List Tile) → largest_in (before ++ after) ≡ max (largest_in before) (largest_in after)
largest-split [] after = omega arith
largest-split (t ∷ ts) after = let more = largest-split ts after in ⊎_elim
    (λ (e : t.owner ≡ 0). let a = largest-head t (ts ++ after) e in let b = largest-head t ts e in omega arith)
    (λ (e : t.owner ≢ 0). let a = largest-used t (ts ++ after) (omega arith) in let b = largest-used t ts (omega arith) in omega arith)
    (cases_eq t.owner 0)

pub largest-one : (t : Tile) → t.owner ≡ 0 → largest_in (t ∷ []) ≡ t.size
largest-one t e = let a = largest-head t [] e in omega arith

pub largest-none : (t : Tile) → 0 < t.owner → largest_in (t ∷ []) ≡ 0
largest-none t e = largest-used t [] e

-- the first words of a chunk lie within the region
pub has-head : (region : List ℕ) (t : Tile) → IsTile region t → 0 < t.size → t.place + t.size ≤ length region → HasHead region t.place
has-head region t is some low = record {
  first = omega arith;
  fourth = λ e. ⊎_elim
      (λ (f : t.owner ≡ 0). let a = is.long e f in omega arith)
      (λ (f : t.owner ≢ 0). let a = is.used (omega arith) in omega arith)
      (cases_eq t.owner 0);
  sixth = λ e f. let test : (word_at region t.place == 0) ≡ true = grind (arith, nat_tests) in
      let own : word_at region (t.place + 1) ≡ t.owner = sym (ap (λ (x : Bool). cond x (word_at region (t.place + 1)) 0) test) ∙ is.owned in
      let a = is.long e (sym own ∙ f) in omega arith;
}

-- the first of the chunks that lie from a place on
pub record IsMet (region : List ℕ) (rest : List Tile) (at : ℕ) : Type 0 where
  pub tile : Tile
  pub more : List Tile
  pub split : rest ≡ tile ∷ more
  pub place : tile.place ≡ at
  pub some : 0 < tile.size
  pub low : at + tile.size ≤ length region
  pub head : HasHead region at
  pub sized : size_in region at ≡ tile.size
  pub owned : owner_in region at ≡ tile.owner
  pub right : Spans (at + tile.size) more (length region)
  pub tiles : AreTiles region more

pub met : (region : List ℕ) (rest : List Tile) (at : ℕ) → AreTiles region rest → Spans at rest (length region) → at < length region → IsMet region rest at
met region [] at are spans low = absurd (omega arith)
met region (t ∷ ts) at are spans low =
    let place = spans.0 in
    let last = spans-order (at + t.size) (length region) ts spans.2 in
    record {
      tile = t;
      more = ts;
      split = refl;
      place = place;
      some = spans.1;
      low = omega arith;
      head = subst (HasHead region) place (has-head region t are.0 spans.1 (omega arith));
      sized = ap (size_in region) (sym place) ∙ are.0.sized;
      owned = ap (owner_in region) (sym place) ∙ are.0.owned;
      right = spans.2;
      tiles = are.1;
    }

pub free-within : (p q : ℕ) (ts : List Tile) → Spans p ts q → p + free_in ts ≤ q
free-within p q [] s = let e = s in omega arith
free-within p q (t ∷ ts) s = let more = free-within (p + t.size) q ts s.2 in ⊎_elim
    (λ (e : t.owner ≡ 0). let a = free-head t ts e in omega arith)
    (λ (e : t.owner ≢ 0). let a = used-head t ts (omega arith) in omega arith)
    (cases_eq t.owner 0)
