-- The words of used chunks were all written, as chunks come, change, move and go.
use Rattle.std.proofs.Common.{◌≡◌, ◌≢◌, ℕ, ◌+◌, ◌<◌, ◌≤◌, ◌==◌, Bool, true, false, cond, List, ◌∷◌, ◌++◌, length, refl, sym, ◌∙◌, ap, subst, arith, ⊎_elim}
use Rattle.std.proofs.lemmas.Bool.{cases_eq}
use Rattle.std.proofs.lemmas.Bool.Decides.{nat_tests}
use Rattle.std.proofs.Math.ListN.{length-set}
use Rattle.std.specs.List.{slice_set}
use Rattle.core_segment.specs.Chunks.{Chunk, no_chunk, with_chunk, with_word}
use Rattle.core_segment.specs.Lists.{Tile, free_tile}
use Rattle.core_segment.specs.Layout.{AreTiles, Spans, AreBelow}
use Rattle.core_segment.proofs.LayoutLaws.{IsMet}
use Rattle.core_segment.proofs.GapLaws.{IsGap}
use Rattle.core_segment.proofs.PlaceLaws.{chunk_in, chunk, chunk-here, chunk-free, chunk-right}
use Rattle.core_segment.proofs.WordLaws.{length-range}

pub below-none : (new : ℕ → Chunk) (n : ℕ) → new ≡ (λ p. no_chunk) → AreBelow new n
below-none new n e p own = let none : (new p).owner ≡ 0 = ap (λ (f : ℕ → Chunk). (f p).owner) e in absurd (omega arith)

pub below-same : (old new : ℕ → Chunk) (n m : ℕ) → new ≡ old → AreBelow old n → n ≤ m → AreBelow new m
below-same old new n m e are more = subst (λ (f : ℕ → Chunk). AreBelow f m) (sym e) (λ p own. let low = are p own in omega arith)

pub below-with : (old new : ℕ → Chunk) (n m p : ℕ) (x : Chunk) → new ≡ with_chunk old p x → AreBelow old n → n ≤ m → (0 < x.owner → p + 4 + length x.words ≤ m) → AreBelow new m
below-with old new n m p x e are more is = subst (λ (f : ℕ → Chunk). AreBelow f m) (sym e) all
  where
    all : AreBelow (with_chunk old p x) m
    all q own = ⊎_elim
        (λ (same : q ≡ p).
        let here : with_chunk old p x q ≡ x = ap (λ (b : Bool). cond b x (old q)) (let t : (q == p) ≡ true = grind (arith, nat_tests) in t) in
        let low = is (subst (λ (c : Chunk). 0 < c.owner) here own) in
        let long = ap (λ (c : Chunk). length c.words) here in
        omega arith)
        (λ (away : q ≢ p).
        let there : with_chunk old p x q ≡ old q = ap (λ (b : Bool). cond b x (old q)) (let t : (q == p) ≡ false = grind (arith, nat_tests) in t) in
        let low = are q (subst (λ (c : Chunk). 0 < c.owner) there own) in
        let long = ap (λ (c : Chunk). length c.words) there in
        omega arith)
        (cases_eq q p)

-- another word
pub below-word : (old new : ℕ → Chunk) (n m p i w : ℕ) → new ≡ with_word old p i w → AreBelow old n → n ≤ m → AreBelow new m
below-word old new n m p i w e are more =
    below-with old new n m p (record { owner = (old p).owner; words = slice_set (old p).words i w }) e are more
    (λ own. let low = are p own in let size = length-set (old p).words i w in omega arith)

-- a chunk that moves down
pub below-moved : (old new : ℕ → Chunk) (n m from to : ℕ) → new ≡ with_chunk (with_chunk old from no_chunk) to (old from) → AreBelow old n → n ≤ m → to < from → AreBelow new m
below-moved old new n m from to e are more down =
    below-with (with_chunk old from no_chunk) new n m to (old from) e
    (below-with old (with_chunk old from no_chunk) n n from no_chunk refl are (omega arith) (λ own. absurd (omega arith))) more
    (λ own. let low = are from own in omega arith)

-- the chunk behind the first free one
pub pair-chunk : (region firsts : List ℕ) (ts : List Tile) (free to gap : ℕ) (g : IsGap region firsts ts free to gap) (m : IsMet region g.after (to + gap)) → 0 < m.tile.owner
    → chunk region ts (to + gap) ≡ chunk_in region m.tile
pair-chunk region firsts ts free to gap g m own =
    ap (λ (us : List Tile). chunk region us (to + gap)) (g.split ∙ ap (λ (us : List Tile). g.before ++ free_tile to gap ∷ us) m.split)
    ∙ chunk-right region 0 to (length region) g.before (free_tile to gap ∷ m.tile ∷ m.more) (to + gap) g.left
    (refl, g.some, subst (λ (us : List Tile). Spans (to + gap) us (length region)) m.split g.right) (omega arith)
    ∙ chunk-free region (free_tile to gap) (m.tile ∷ m.more) (to + gap) refl ∙ chunk-here region m.tile m.more (to + gap) own m.place

pub pair-below : (region firsts : List ℕ) (ts : List Tile) (free to gap n : ℕ) (g : IsGap region firsts ts free to gap) (m : IsMet region g.after (to + gap)) → 0 < m.tile.owner
    → AreBelow (chunk region ts) n → to + gap + m.tile.size ≤ n
pair-below region firsts ts free to gap n g m own are =
    let is = pair-chunk region firsts ts free to gap g m own in
    let low = are (to + gap) (subst (λ (c : Chunk). 0 < c.owner) (sym is) own) in
    let some : 4 ≤ m.tile.size = (subst (AreTiles region) m.split g.upper).0.used own in
    let place = m.place in
    let end = m.low in
    let long = length-range region (m.tile.place + 4) (m.tile.place + m.tile.size) (omega arith) in
    let words = ap (λ (c : Chunk). length c.words) is in
    omega arith
