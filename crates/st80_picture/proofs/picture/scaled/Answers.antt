use Rattle.std.proofs.Common.{◌≡◌, ◌*◌, ℕ, length, ap, ◌∙◌, arith}
use Rattle.st80_picture.specs.Pictures.{row_bytes}
use Rattle.st80_picture.proofs.PixelLaws.{larger_at}
use Rattle.st80_picture.proofs.picture.scaled.Goals as goal

pub returns-clause-pixels : goal.returns-clause-pixels
returns-clause-pixels c =
    let p = c.args.picture.now in
    let end : c.loop-y.y ≡ c.in-Some.height = omega arith in
    let len : length c.loop-y.rows ≡ c.in-Some.height * row_bytes c.in-Some.width = c.loop-y.invariant.len ∙ ap (λ (k : ℕ). k * row_bytes c.in-Some.width) end in
    larger_at p.width p.height c.args.times p.rows c.loop-y.rows c.in-Some.width c.in-Some.height c.in-Some.ensures.width.0 c.in-Some.ensures.height.0 c.in-Some.ensures.times c.loop-y.invariant.pixels len
