use Rattle.std.proofs.Common.{◌∙◌, sym, arith}
use Rattle.core_segment.proofs.ZeroLaws.{zeros-length, zeros-first, zeros-rest}
use Rattle.core_segment.proofs.words.Words.get.Goals as goal

pub returns-then-i-self : goal.returns-then-i-self
returns-then-i-self c =
    let w = c.args.self.now in
    let written = w.written in
    c.get.ensures ∙ sym (zeros-first w.cells.items w.cells.spare c.args.i (omega (arith, c.if-i-self.true)))

pub returns : goal.returns
returns c =
    let w = c.args.self.now in
    let written = w.written in
    let size = zeros-length w.cells.items w.cells.spare in
    let low = c.requires in
    sym (zeros-rest w.cells.items w.cells.spare c.args.i (omega (arith, c.if-i-self.false)) (omega arith))
