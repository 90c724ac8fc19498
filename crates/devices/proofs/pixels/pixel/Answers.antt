use Rattle.std.proofs.Common.{sym, ◌∙◌, ap, cond, true, arith, ◌≡◌, nat_lt}
use Rattle.std.proofs.lemmas.Bool.Decides.{nat_tests}
use Rattle.blue_model.specs.Forms.{pixel}
use Rattle.devices.proofs.PixelLaws.{pixel_is, bit_is}
use Rattle.devices.proofs.pixels.pixel.Goals as goal

pub returns-then-x-width-clause-pixel : goal.returns-then-x-width-clause-pixel
returns-then-x-width-clause-pixel c =
    let words = c.args.words.now in
    let x = c.args.x in
    let within : nat_lt x c.args.width ≡ true = grind (arith, nat_tests, c.if-x-width.true) in
    sym (ap (λ b. cond b (pixel c.args.width words x 0) 0) within ∙ pixel_is words c.args.width x ∙ bit_is words x)
