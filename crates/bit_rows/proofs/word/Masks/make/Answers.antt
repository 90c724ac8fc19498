use Rattle.std.proofs.Common.{◌∙◌}
use Rattle.blue_model.specs.Forms.{left_bit}
use Rattle.bit_rows.proofs.BitLemmas.{left_bit-lt}
use Rattle.bit_rows.proofs.MaskLemmas.{masks-made}
use Rattle.bit_rows.proofs.word.Masks.make.Goals as goal

pub returns : goal.returns
returns c rule j are h =
    masks-made c.args.self.keep c.args.self.flip c.args.self.source_keep c.args.self.source_flip c.args.s c.args.d j
    ∙ are j (left_bit c.args.s j) (left_bit c.args.d j) h (left_bit-lt c.args.s j) (left_bit-lt c.args.d j)
