use Rattle.std.proofs.Common.{List, ℕ, ◌∙◌, ap}
use Rattle.blue_model.specs.Forms.{row_bytes}
use Rattle.devices.specs.Inside.{words_told}
use Rattle.devices.proofs.PictureLaws.{exits_bits, row_is}
use Rattle.devices.proofs.drawing.draw_row.Goals as goal

pub returns-in_err-read_row-clause-serves : goal.returns-in_err-read_row-clause-serves
returns-in_err-read_row-clause-serves g c = λ cpu. exits_bits _ _ c.from_residual.ensures.1 (c.in_err-read_row.ensures.serves cpu)

pub returns-clause-bytes : goal.returns-clause-bytes
returns-clause-bytes g c = λ told.
    c.row_bytes.ensures.bytes
    ∙ ap (λ (words : List ℕ). row_bytes c.args.width words 0) (c.in_ok-read_row.ensures.words told)
    ∙ row_is (words_told (g.M.ObjectMemory.told c.args.m.now) 13) c.args.width c.args.y
