use Rattle.std.proofs.Common.{◌∙◌, ap, arith}
use Rattle.long_names.specs.Record.{four_bytes}
use Rattle.image_format.proofs.Heads.{word-back}
use Rattle.image_format.proofs.head.word_at.Goals as goal

pub returns : goal.returns
returns c = ap four_bytes c.from_be_bytes.ensures ∙ word-back c.args.bytes.now c.args.at (λ i. omega (arith, c.type_inv.bytes i)) c.requires
