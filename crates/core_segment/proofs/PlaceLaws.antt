-- Used chunks at their places, as a part of the chunks becomes another.
use Rattle.std.proofs.Common.{◌≡◌, ◌≢◌, ℕ, ◌+◌, ◌<◌, ◌≤◌, ◌==◌, Bool, true, false, cond, List, [], ◌∷◌, ◌++◌, length, refl, sym, ◌∙◌, ap, arith, ⊎_elim, ◌⊎◌}
use Rattle.std.proofs.lemmas.Bool.{cases_eq}
use Rattle.std.proofs.lemmas.Bool.Decides.{nat_tests}
use Rattle.std.specs.List.{slice_range}
use Rattle.core_segment.specs.Chunks.{Chunk, no_chunk, at_place}
use Rattle.core_segment.specs.Lists.{Tile}
use Rattle.core_segment.specs.Layout.{Spans, placed_in}
use Rattle.core_segment.proofs.LayoutLaws.{SameWords, spans-order, spans-join}
use Rattle.core_segment.proofs.WordLaws.{range-same}

-- the words of a used chunk
abbrev pub chunk_in : List ℕ → Tile → Chunk
chunk_in region t = record { owner = t.owner; words = slice_range region (t.place + 4) (t.place + t.size) }

-- the used chunk that begins at a place
abbrev pub chunk : List ℕ → List Tile → ℕ → Chunk
chunk region ts k = at_place (placed_in region ts) k

pub chunk-free : (region : List ℕ) (t : Tile) (ts : List Tile) (k : ℕ) → t.owner ≡ 0 → chunk region (t ∷ ts) k ≡ chunk region ts k
chunk-free region t ts k e = let test : (t.owner == 0) ≡ true = grind (arith, nat_tests) in
    ap (λ (b : Bool). at_place (cond b (placed_in region ts) (record { place = t.place; chunk = chunk_in region t } ∷ placed_in region ts)) k) test

chunk-used : (region : List ℕ) (t : Tile) (ts : List Tile) (k : ℕ) → 0 < t.owner → chunk region (t ∷ ts) k ≡ cond (t.place == k) (chunk_in region t) (chunk region ts k)
chunk-used region t ts k e = let test : (t.owner == 0) ≡ false = grind (arith, nat_tests) in
    ap (λ (b : Bool). at_place (cond b (placed_in region ts) (record { place = t.place; chunk = chunk_in region t } ∷ placed_in region ts)) k) test

pub chunk-here : (region : List ℕ) (t : Tile) (ts : List Tile) (k : ℕ) → 0 < t.owner → t.place ≡ k → chunk region (t ∷ ts) k ≡ chunk_in region t
chunk-here region t ts k own e = let test : (t.place == k) ≡ true = grind (arith, nat_tests) in
    chunk-used region t ts k own ∙ ap (λ (b : Bool). cond b (chunk_in region t) (chunk region ts k)) test

pub chunk-next : (region : List ℕ) (t : Tile) (ts : List Tile) (k : ℕ) → t.place ≢ k → chunk region (t ∷ ts) k ≡ chunk region ts k
chunk-next region t ts k e = ⊎_elim
    (λ (f : t.owner ≡ 0). chunk-free region t ts k f)
    (λ (f : t.owner ≢ 0). let test : (t.place == k) ≡ false = grind (arith, nat_tests) in
    chunk-used region t ts k (omega arith) ∙ ap (λ (b : Bool). cond b (chunk_in region t) (chunk region ts k)) test)
    (cases_eq t.owner 0)

-- none begins outside of them
pub chunk-below : (region : List ℕ) (p q : ℕ) (ts : List Tile) (k : ℕ) → Spans p ts q → k < p → chunk region ts k ≡ no_chunk
chunk-below region p q [] k s h = refl
chunk-below region p q (t ∷ ts) k s h = let place = s.0 in chunk-next region t ts k (λ e. absurd (omega arith)) ∙ chunk-below region (p + t.size) q ts k s.2 (omega arith)

pub chunk-above : (region : List ℕ) (p q : ℕ) (ts : List Tile) (k : ℕ) → Spans p ts q → q ≤ k → chunk region ts k ≡ no_chunk
chunk-above region p q [] k s h = refl
chunk-above region p q (t ∷ ts) k s h = let place = s.0 in let some = s.1 in let low = spans-order (p + t.size) q ts s.2 in
    chunk-next region t ts k (λ e. absurd (omega arith)) ∙ chunk-above region (p + t.size) q ts k s.2 h

-- it is one of the first or one of the others
pub chunk-left : (region : List ℕ) (p m q : ℕ) (before after : List Tile) (k : ℕ) → Spans p before m → Spans m after q → k < m → chunk region (before ++ after) k ≡ chunk region before k
chunk-left region p m q [] after k l r h = chunk-below region m q after k r h
chunk-left region p m q (t ∷ ts) after k l r h = ⊎_elim
    (λ (e : t.place ≡ k). ⊎_elim
    (λ (f : t.owner ≡ 0). chunk-free region t (ts ++ after) k f ∙ chunk-left region (p + t.size) m q ts after k l.2 r h ∙ sym (chunk-free region t ts k f))
    (λ (f : t.owner ≢ 0). chunk-here region t (ts ++ after) k (omega arith) e ∙ sym (chunk-here region t ts k (omega arith) e))
    (cases_eq t.owner 0))
    (λ (e : t.place ≢ k). chunk-next region t (ts ++ after) k e ∙ chunk-left region (p + t.size) m q ts after k l.2 r h ∙ sym (chunk-next region t ts k e))
    (cases_eq t.place k)

pub chunk-right : (region : List ℕ) (p m q : ℕ) (before after : List Tile) (k : ℕ) → Spans p before m → Spans m after q → m ≤ k → chunk region (before ++ after) k ≡ chunk region after k
chunk-right region p m q [] after k l r h = refl
chunk-right region p m q (t ∷ ts) after k l r h = let place = l.0 in let some = l.1 in let low = spans-order (p + t.size) m ts l.2 in
    chunk-next region t (ts ++ after) k (λ e. absurd (omega arith)) ∙ chunk-right region (p + t.size) m q ts after k l.2 r h

-- the words of chunks are as they were
pub chunk-same : (region region' : List ℕ) (p q : ℕ) (ts : List Tile) (k : ℕ) → Spans p ts q → q ≤ length region → length region' ≡ length region
    → SameWords region region' p q → chunk region' ts k ≡ chunk region ts k
chunk-same region region' p q [] k s low size same = refl
chunk-same region region' p q (t ∷ ts) k s low size same =
    let place = s.0 in let some = s.1 in let order = spans-order (p + t.size) q ts s.2 in
    let more : chunk region' ts k ≡ chunk region ts k = chunk-same region region' (p + t.size) q ts k s.2 low size (λ i h l. same i (omega arith) l) in
    let words : chunk_in region' t ≡ chunk_in region t = ap (λ (ws : List ℕ). record { owner = t.owner; words = ws })
    (range-same region region' (t.place + 4) (t.place + 4) (t.place + t.size) (t.place + t.size) (omega arith) (omega arith) refl (λ i h. same (t.place + 4 + i) (omega arith) (omega arith))) in
    ⊎_elim
    (λ (f : t.owner ≡ 0). chunk-free region' t ts k f ∙ more ∙ sym (chunk-free region t ts k f))
    (λ (f : t.owner ≢ 0). chunk-used region' t ts k (omega arith) ∙ ap (λ (c : Chunk). cond (t.place == k) c (chunk region' ts k)) words
    ∙ ap (λ (c : Chunk). cond (t.place == k) (chunk_in region t) c) more ∙ sym (chunk-used region t ts k (omega arith)))
    (cases_eq t.owner 0)

-- ---- a part of the chunks becomes another

-- the words outside of a part are as they were
pub record IsEdit (region region' : List ℕ) (before old new after : List Tile) (m n : ℕ) : Type 0 where
  pub left : Spans 0 before m
  pub was : Spans m old n
  pub is : Spans m new n
  pub right : Spans n after (length region)
  pub same_size : length region' ≡ length region
  pub below : SameWords region region' 0 m
  pub above : SameWords region region' n (length region)

module _ (region region' : List ℕ) (before old new after : List Tile) (m n : ℕ) (edit : IsEdit region region' before old new after m n) where
  within : n ≤ length region
  within = let a = spans-order n (length region) after edit.right in omega arith

  order : m ≤ n
  order = let a = spans-order m n old edit.was in omega arith

  pub edit-outside : (k : ℕ) → (k < m) ⊎ (n ≤ k) → chunk region' (before ++ (new ++ after)) k ≡ chunk region (before ++ (old ++ after)) k
  edit-outside k h = ⊎_elim
      (λ (low : k < m). chunk-left region' 0 m (length region) before (new ++ after) k edit.left (spans-join m n (length region) new after edit.is edit.right) low
      ∙ chunk-same region region' 0 m before k edit.left (let a = within in let b = order in omega arith) edit.same_size edit.below
      ∙ sym (chunk-left region 0 m (length region) before (old ++ after) k edit.left (spans-join m n (length region) old after edit.was edit.right) low))
      (λ (high : n ≤ k). let o = order in
      chunk-right region' 0 m (length region) before (new ++ after) k edit.left (spans-join m n (length region) new after edit.is edit.right) (omega arith)
      ∙ chunk-right region' m n (length region) new after k edit.is edit.right high
      ∙ chunk-same region region' n (length region) after k edit.right (omega arith) edit.same_size edit.above
      ∙ sym (chunk-right region m n (length region) old after k edit.was edit.right high)
      ∙ sym (chunk-right region 0 m (length region) before (old ++ after) k edit.left (spans-join m n (length region) old after edit.was edit.right) (omega arith)))
      h

  pub edit-new : (k : ℕ) → m ≤ k → k < n → chunk region' (before ++ (new ++ after)) k ≡ chunk region' new k
  edit-new k low high = chunk-right region' 0 m (length region) before (new ++ after) k edit.left (spans-join m n (length region) new after edit.is edit.right) low
      ∙ chunk-left region' m n (length region) new after k edit.is edit.right high

  pub edit-old : (k : ℕ) → m ≤ k → k < n → chunk region (before ++ (old ++ after)) k ≡ chunk region old k
  edit-old k low high = chunk-right region 0 m (length region) before (old ++ after) k edit.left (spans-join m n (length region) old after edit.was edit.right) low
      ∙ chunk-left region m n (length region) old after k edit.was edit.right high
