use Rattle.std.proofs.Common.{◌∙◌, sym}
use Rattle.core_segment.proofs.ZeroLaws.{zeros-first}
use Rattle.core_segment.proofs.words.Words.get_from.Goals as goal

pub returns : goal.returns
returns c =
    let w = c.args.self.now in
    c.get.ensures ∙ sym (zeros-first w.cells.items w.cells.spare c.args.i c.requires.written)
