use Rattle.std.proofs.Common.{◌≡◌, ◌+◌, ◌∷◌, ◌++◌, [], ℕ, List, length, sym, ◌∙◌, ap, arith}
use Rattle.std.proofs.lemmas.List.{length_push}
use Rattle.core_segment.specs.Memory.{with_zeros}
use Rattle.core_segment.proofs.ZeroLaws.{zeros-add}
use Rattle.core_segment.proofs.words.Words.fill.Goals as goal

-- one word more is written, and they are the same
grown : (ws new : List ℕ) (n m : ℕ) → new ≡ ws ++ 0 ∷ [] → m + 1 ≡ n → with_zeros new m ≡ with_zeros ws n
grown ws new n m e f = ap (λ (l : List ℕ). with_zeros l m) e ∙ zeros-add ws n m f

pub invariant_of-self : goal.invariant_of-self
invariant_of-self c =
    let w = c.loop-self.self in
    let n = c.add.new.self in
    let same = grown w.cells.items n.items w.cells.spare n.spare c.add.ensures.1 c.add.ensures.2 in
    let size = ap (λ (l : List ℕ). length l) c.add.ensures.1 ∙ length_push w.cells.items 0 in
    let spare = c.add.ensures.2 in
    let written = w.written in
    let roomy = w.roomy in
    record {
      written = omega arith;
      sized = w.sized ∙ ap (λ (l : List ℕ). length l) (sym same);
      roomy = omega arith;
      small = w.small;
      there = c.add.ensures.0 ∙ w.there;
      leased = w.leased;
    }

pub loop-self-preserved : goal.loop-self-preserved
loop-self-preserved c =
    let w = c.loop-self.self in
    let n = c.add.new.self in record {
      same = grown w.cells.items n.items w.cells.spare n.spare c.add.ensures.1 c.add.ensures.2 ∙ c.loop-self.invariant.same;
      grown =
          let size = ap (λ (l : List ℕ). length l) c.add.ensures.1 ∙ length_push w.cells.items 0 in
          let before = c.loop-self.invariant.grown in
          omega arith;
    }
