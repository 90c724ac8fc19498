use Rattle.core_segment.specs.Words.{filled_of, words_of}
use Rattle.std.proofs.Common.{ℕ, ◌≡◌, ◌+◌, ◌≤◌, List, ◌∷◌, [], length, replicate, ap, arith, refl, sym, subst, ◌∙◌}
use Rattle.std.proofs.Math.ListN.{length-replicate}
use Rattle.std.proofs.Math.Path.{fun_ext}
use Rattle.core_segment.specs.Heads.{IsClosed}
use Rattle.core_segment.specs.Lists.{Tile, free_tile, class_in, first_in, with_first}
use Rattle.core_segment.specs.Layout.{tiles_of, largest_in}
use Rattle.core_segment.specs.Segment.{chunks_of, chunk_at, size_of, free_of, largest_of}
use Rattle.core_segment.proofs.PlaceLaws.{chunk}
use Rattle.core_segment.proofs.GiveLaws.{IsRenewed, made, made-none, made-largest}
use Rattle.core_segment.proofs.FilledLaws.{below-none}
use Rattle.core_segment.proofs.segment.Segment.new.Goals as goal

sized : (items : List ℕ) (n : ℕ) → items ≡ replicate n 0 → length items ≡ n
sized items n e = ap (λ (l : List ℕ). length l) e ∙ length-replicate n 0

-- the one free chunk, of lists that were empty
made-of : (region region' firsts firsts' : List ℕ) (words : ℕ) → firsts ≡ replicate 66 0 → length region ≡ words → 4 ≤ words
    → IsClosed region region' 0 words (first_in firsts (class_in words)) → firsts' ≡ with_first firsts words (0 + 1)
    → IsRenewed region' firsts' (free_tile 0 words ∷ []) words
made-of region region' firsts firsts' words none size some closed is =
    subst (λ (fs : List ℕ). IsRenewed region' fs (free_tile 0 words ∷ []) words) (sym (is ∙ ap (λ (fs : List ℕ). with_first fs words (0 + 1)) none))
    (made region region' words size some (subst (λ (fs : List ℕ). IsClosed region region' 0 words (first_in fs (class_in words))) none closed))

pub invariant_of-result : goal.invariant_of-result
unfolding chunk_at chunks_of
invariant_of-result c =
    let region = (words_of c.in_ok-region.region) in
    let region' = (words_of c.push.new.region) in
    let size = sized region c.args.words c.in_ok-region.ensures in
    let m = made-of region region' c.none-lists.result.firsts c.push.new.self.firsts c.args.words c.none-lists.ensures size c.requires.some c.push.ensures.closed c.push.ensures.firsts in
    record {
      small = let same = c.push.ensures.closed.same_size in let most = c.requires.most in omega arith;
      whole = m.whole;
      filled = below-none (chunk region' (tiles_of region')) (filled_of c.push.new.region)
          (fun_ext (λ k. ap (λ (us : List Tile). chunk region' us k) m.is
          ∙ made-none region region' c.args.words size c.requires.some (subst (λ (fs : List ℕ). IsClosed region region' 0 c.args.words (first_in fs (class_in c.args.words))) c.none-lists.ensures c.push.ensures.closed) k));
      going = tt;
    }

pub returns-clause-chunks : goal.returns-clause-chunks
unfolding chunk_at chunks_of
returns-clause-chunks c =
    let region = (words_of c.in_ok-region.region) in
    let region' = (words_of c.push.new.region) in
    let size = sized region c.args.words c.in_ok-region.ensures in
    let m = made-of region region' c.none-lists.result.firsts c.push.new.self.firsts c.args.words c.none-lists.ensures size c.requires.some c.push.ensures.closed c.push.ensures.firsts in
    fun_ext (λ k. ap (λ (us : List Tile). chunk region' us k) m.is
    ∙ made-none region region' c.args.words size c.requires.some (subst (λ (fs : List ℕ). IsClosed region region' 0 c.args.words (first_in fs (class_in c.args.words))) c.none-lists.ensures c.push.ensures.closed) k)

pub returns-clause-size : goal.returns-clause-size
unfolding size_of
returns-clause-size c = c.push.ensures.closed.same_size ∙ sized (words_of c.in_ok-region.region) c.args.words c.in_ok-region.ensures

pub returns-clause-free : goal.returns-clause-free
unfolding free_of largest_of
returns-clause-free c =
    let region = (words_of c.in_ok-region.region) in
    let region' = (words_of c.push.new.region) in
    let size = sized region c.args.words c.in_ok-region.ensures in
    let m = made-of region region' c.none-lists.result.firsts c.push.new.self.firsts c.args.words c.none-lists.ensures size c.requires.some c.push.ensures.closed c.push.ensures.firsts in (
      refl,
      ap (λ (us : List Tile). largest_in us) m.is
          ∙ made-largest region region' c.args.words size c.requires.some (subst (λ (fs : List ℕ). IsClosed region region' 0 c.args.words (first_in fs (class_in c.args.words))) c.none-lists.ensures c.push.ensures.closed),
    )
