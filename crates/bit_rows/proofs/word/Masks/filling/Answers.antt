use Rattle.std.proofs.Common.{◌∙◌}
use Rattle.blue_model.specs.Forms.{left_bit}
use Rattle.bit_rows.proofs.BitLemmas.{left_bit-lt}
use Rattle.bit_rows.proofs.MaskLemmas.{masks-filling}
use Rattle.bit_rows.proofs.word.Masks.filling.Goals as goal

pub returns : goal.returns
returns c rule j d are h l =
    masks-filling c.args.self.keep c.args.self.flip c.args.self.source_keep c.args.self.source_flip c.args.s d j l
    ∙ are j (left_bit c.args.s j) d h (left_bit-lt c.args.s j) l
