use Rattle.std.proofs.Common.{◌≡◌, ℕ, ◌+◌, ◌*◌, ◌<◌, List, [], ◌∷◌, length, length-append, ap, subst, sym, arith}
use Rattle.st80_picture.specs.Pictures.{HasPixels, larger_of, row_bytes}
use Rattle.st80_picture.proofs.PixelLaws.{pixels_more}
use Rattle.st80_picture.proofs.picture.put_row.Goals as goal

pub loop-first-preserved : goal.loop-first-preserved
loop-first-preserved c =
    let p = c.args.picture.now in
    let stride : ℕ = row_bytes c.args.width in
    let first : c.loop-first.first < stride = let test = c.loop-first-test.true in omega (arith, test, c.stride_of-first-end.ensures) in
    let place : length c.loop-first.rows ≡ c.args.y * stride + c.loop-first.first = omega (arith, c.loop-first.invariant.len, c.requires.place) in
    record {
      len = omega (arith, ap length c.in_ok-push.ensures.ok, length-append c.loop-first.rows (c.eight_of.result ∷ []), c.loop-first.invariant.len);
      pixels = subst (λ (rows : List ℕ). HasPixels rows stride (larger_of p.width p.height p.rows c.args.times)) (sym c.in_ok-push.ensures.ok)
          (pixels_more c.loop-first.rows stride c.loop-first.first c.args.y c.eight_of.result (larger_of p.width p.height p.rows c.args.times) c.loop-first.invariant.pixels place first c.eight_of.ensures);
    }
