-- Used chunks with their words, as a part of the chunks becomes another.
use Rattle.std.proofs.Common.{◌≡◌, ◌≢◌, ℕ, ◌+◌, ◌<◌, ◌≤◌, ◌==◌, Bool, true, false, cond, List, [], ◌∷◌, ◌++◌, length, refl, sym, ◌∙◌, ap, arith, ⊎_elim}
use Rattle.std.proofs.lemmas.Bool.{cases_eq}
use Rattle.std.proofs.lemmas.Bool.Decides.{nat_tests}
use Rattle.core_segment.specs.Chunks.{Chunk, Placed}
use Rattle.core_segment.specs.Lists.{Tile}
use Rattle.core_segment.specs.Layout.{Spans, placed_in}
use Rattle.core_segment.proofs.LayoutLaws.{SameWords, spans-order}
use Rattle.core_segment.proofs.PlaceLaws.{chunk_in, IsEdit}
use Rattle.core_segment.proofs.WordLaws.{range-same}

pub placed-free : (region : List ℕ) (t : Tile) (ts : List Tile) → t.owner ≡ 0 → placed_in region (t ∷ ts) ≡ placed_in region ts
placed-free region t ts e = let test : (t.owner == 0) ≡ true = grind (arith, nat_tests) in
    ap (λ (b : Bool). cond b (placed_in region ts) (record { place = t.place; chunk = chunk_in region t } ∷ placed_in region ts)) test

pub placed-used : (region : List ℕ) (t : Tile) (ts : List Tile) → 0 < t.owner → placed_in region (t ∷ ts) ≡ record { place = t.place; chunk = chunk_in region t } ∷ placed_in region ts
placed-used region t ts h = let test : (t.owner == 0) ≡ false = grind (arith, nat_tests) in
    ap (λ (b : Bool). cond b (placed_in region ts) (record { place = t.place; chunk = chunk_in region t } ∷ placed_in region ts)) test

pub placed-split : (region : List ℕ) (before after : List Tile) → placed_in region (before ++ after) ≡ placed_in region before ++ placed_in region after
placed-split region [] after = refl
placed-split region (t ∷ ts) after = let more = placed-split region ts after in ⊎_elim
    (λ (e : t.owner ≡ 0). placed-free region t (ts ++ after) e ∙ more ∙ sym (ap (λ (cs : List Placed). cs ++ placed_in region after) (placed-free region t ts e)))
    (λ (e : t.owner ≢ 0). placed-used region t (ts ++ after) (omega arith)
    ∙ ap (λ (cs : List Placed). record { place = t.place; chunk = chunk_in region t } ∷ cs) more
    ∙ sym (ap (λ (cs : List Placed). cs ++ placed_in region after) (placed-used region t ts (omega arith))))
    (cases_eq t.owner 0)

-- the words of chunks are as they were
pub placed-same : (region region' : List ℕ) (p q : ℕ) (ts : List Tile) → Spans p ts q → q ≤ length region → length region' ≡ length region
    → SameWords region region' p q → placed_in region' ts ≡ placed_in region ts
placed-same region region' p q [] s low size same = refl
placed-same region region' p q (t ∷ ts) s low size same =
    let place = s.0 in let some = s.1 in let order = spans-order (p + t.size) q ts s.2 in
    let more : placed_in region' ts ≡ placed_in region ts = placed-same region region' (p + t.size) q ts s.2 low size (λ i h l. same i (omega arith) l) in
    let words : chunk_in region' t ≡ chunk_in region t = ap (λ (ws : List ℕ). record { owner = t.owner; words = ws })
    (range-same region region' (t.place + 4) (t.place + 4) (t.place + t.size) (t.place + t.size) (omega arith) (omega arith) refl (λ i h. same (t.place + 4 + i) (omega arith) (omega arith))) in
    ⊎_elim
    (λ (f : t.owner ≡ 0). placed-free region' t ts f ∙ more ∙ sym (placed-free region t ts f))
    (λ (f : t.owner ≢ 0). placed-used region' t ts (omega arith) ∙ ap (λ (c : Chunk). record { place = t.place; chunk = c } ∷ placed_in region' ts) words
    ∙ ap (λ (cs : List Placed). record { place = t.place; chunk = chunk_in region t } ∷ cs) more ∙ sym (placed-used region t ts (omega arith)))
    (cases_eq t.owner 0)

-- free chunks become others
pub placed-edit : (region region' : List ℕ) (before old new after : List Tile) (m n : ℕ) → IsEdit region region' before old new after m n
    → placed_in region' new ≡ [] → placed_in region old ≡ [] → placed_in region' (before ++ (new ++ after)) ≡ placed_in region (before ++ (old ++ after))
placed-edit region region' before old new after m n edit is was =
    let o = spans-order m n old edit.was in let r = spans-order n (length region) after edit.right in
    placed-split region' before (new ++ after)
    ∙ ap (λ (cs : List Placed). cs ++ placed_in region' (new ++ after)) (placed-same region region' 0 m before edit.left (omega arith) edit.same_size edit.below)
    ∙ ap (λ (cs : List Placed). placed_in region before ++ cs)
    (placed-split region' new after ∙ ap (λ (cs : List Placed). cs ++ placed_in region' after) is
    ∙ placed-same region region' n (length region) after edit.right (omega arith) edit.same_size edit.above
    ∙ sym (placed-split region old after ∙ ap (λ (cs : List Placed). cs ++ placed_in region after) was))
    ∙ sym (placed-split region before (old ++ after))
