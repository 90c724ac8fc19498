use Rattle.std.proofs.Common.{List, ℕ, ◌++◌, ◌∙◌, ap, ap₂, codes}
use Rattle.blue_model.specs.Forms.{picture_head}
use Rattle.devices.proofs.drawing.head.Goals as goal

pub returns : goal.returns
unfolding picture_head
returns c =
    let join = λ (x y : List ℕ). x ++ y in
    let width = c.in_ok-extend.ensures.ok ∙ ap₂ join c.in_ok-text.ensures.ok (c.as_bytes.ensures.value ∙ c.format.ensures.text) in
    let space = c.in_ok-extend-2.ensures.ok ∙ ap (λ (x : List ℕ). x ++ codes " ") width in
    let height = c.in_ok-extend-3.ensures.ok ∙ ap₂ join space (c.as_bytes-2.ensures.value ∙ c.format-2.ensures.text) in
    c.in_ok-extend-4.ensures.ok ∙ ap (λ (x : List ℕ). x ++ codes "\n") height
