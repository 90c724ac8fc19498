use Rattle.std.proofs.Common.{ℕ, List, length, sym, ◌∙◌, ap, arith}
use Rattle.std.proofs.Math.ListN.{length-set}
use Rattle.core_segment.specs.Memory.{with_zeros}
use Rattle.core_segment.proofs.ZeroLaws.{changed}
use Rattle.core_segment.proofs.words.Words.put_written.Goals as goal

pub invariant_of-self : goal.invariant_of-self
invariant_of-self c =
    let w = c.args.self.now in
    let n = c.put.new.self in
    let same = changed w.cells.items n.items w.cells.spare n.spare c.args.i c.args.w c.requires c.put.ensures.1 c.put.ensures.2 in
    let size = ap (λ (l : List ℕ). length l) c.put.ensures.1 ∙ length-set w.cells.items c.args.i c.args.w in
    let spare = c.put.ensures.2 in
    let written = w.written in
    let roomy = w.roomy in
    record {
      written = omega arith;
      sized = w.sized ∙ sym (ap (λ (l : List ℕ). length l) same ∙ length-set (with_zeros w.cells.items w.cells.spare) c.args.i c.args.w);
      roomy = omega arith;
      small = w.small;
      there = c.put.ensures.0 ∙ w.there;
      leased = w.leased;
    }

pub returns-clause-words : goal.returns-clause-words
returns-clause-words c =
    let w = c.args.self.now in
    let n = c.put.new.self in
    changed w.cells.items n.items w.cells.spare n.spare c.args.i c.args.w c.requires c.put.ensures.1 c.put.ensures.2

pub returns-clause-filled : goal.returns-clause-filled
returns-clause-filled c = ap (λ (l : List ℕ). length l) c.put.ensures.1 ∙ length-set c.args.self.now.cells.items c.args.i c.args.w
