use Rattle.std.proofs.Common.{◌≡◌, ℕ, List, [], length, replicate, ◌∙◌, ap, sym, arith}
use Rattle.std.proofs.Math.ListN.{length-replicate}
use Rattle.core_segment.specs.Memory.{with_zeros}
use Rattle.core_segment.proofs.ZeroLaws.{zeros-none}
use Rattle.core_segment.proofs.words.Words.make.Goals as goal

-- room in which no word is written
made : (ws : List ℕ) (m n : ℕ) → ws ≡ [] → m ≡ n → with_zeros ws m ≡ replicate n 0
made ws m n e f = ap (λ (l : List ℕ). with_zeros l m) e ∙ zeros-none m ∙ ap (λ (k : ℕ). replicate k 0) f

pub invariant_of-result : goal.invariant_of-result
invariant_of-result c =
    let cells = c.in-Some.cells in
    let e = c.in-Some.ensures.1 in
    let f = c.in-Some.ensures.2 in
    let none = ap (λ (l : List ℕ). length l) e in
    let fits = c.ranges.n.fits in
    record {
      written = sym none;
      sized = sym (ap (λ (l : List ℕ). length l) (made cells.items cells.spare c.args.n e f) ∙ length-replicate c.args.n 0);
      roomy = omega arith;
      small = omega arith;
      there = c.in-Some.ensures.0;
      leased = (c.in-Some.ensures.3, c.in-Some.ensures.4, c.in-Some.ensures.5);
    }

pub returns-in-Some : goal.returns-in-Some
returns-in-Some c = made c.in-Some.cells.items c.in-Some.cells.spare c.args.n c.in-Some.ensures.1 c.in-Some.ensures.2
