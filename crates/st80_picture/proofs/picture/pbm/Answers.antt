use Rattle.std.proofs.Common.{List, ℕ, ◌∷◌, [], ◌++◌, ◌∙◌, ap, ap₂}
use Rattle.st80_picture.specs.Pictures.{pbm}
use Rattle.st80_picture.proofs.picture.pbm.Goals as goal

pub returns : goal.returns
unfolding pbm
returns c =
    let join = λ (x y : List ℕ). x ++ y in
    let width = c.in_ok-extend.ensures.ok ∙ ap₂ join c.in_ok-file.ensures.ok (c.as_bytes.ensures.value ∙ c.format.ensures.text) in
    let space = c.in_ok-push.ensures.ok ∙ ap (λ (x : List ℕ). x ++ 32 ∷ []) width in
    let height = c.in_ok-extend-2.ensures.ok ∙ ap₂ join space (c.as_bytes-2.ensures.value ∙ c.format-2.ensures.text) in
    let head = c.in_ok-push-2.ensures.ok ∙ ap (λ (x : List ℕ). x ++ 10 ∷ []) height in
    c.in_ok-extend-3.ensures.ok ∙ ap₂ join head c.bytes.ensures
