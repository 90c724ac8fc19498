use Rattle.std.proofs.Common.{◌≡◌, ◌++◌, take, List, ℕ, OnOk, subst, ap, ap₂, ◌∙◌}
use Rattle.st80_picture.specs.Png.{stored, block}
use Rattle.st80_picture.proofs.chunks.put_block.Goals as goal

pub returns : goal.returns
unfolding block
returns c =
    let part = c.front-part.ensures.front ∙ ap (take 65535) c.split_at.ensures.back in
    subst (λ (b : List ℕ). OnOk c.put_stored.result (c.put_stored.new.file ≡ c.args.file.now ++ b)) (ap₂ stored c.from-last.ensures part) c.put_stored.ensures
