use Rattle.std.proofs.Common.{◌++◌, ◌∷◌, decimal, refl, sym, ◌∙◌, lit≤}
use Rattle.st80_picture.proofs.HeadLaws.{begun, behind_begin, not_begun, one_split, whole_head}
use Rattle.st80_picture.proofs.picture.head_of.Goals as goal

pub returns-then-not-starts_with-clause-none : goal.returns-then-not-starts_with-clause-none
returns-then-not-starts_with-clause-none c = λ none width height rest ws hs is. not_begun c.args.bytes.now width height rest c.if-not-starts_with.ensures.value is

pub returns-in_err-width-clause-none : goal.returns-in_err-width-clause-none
returns-in_err-width-clause-none c = λ none width height rest ws hs is.
    c.in_err-width.ensures.none refl width (decimal height ++ 10 ∷ rest) ws (c.split_at.ensures.back ∙ behind_begin c.args.bytes.now width height rest is)

pub returns-in_err-height-clause-none : goal.returns-in_err-height-clause-none
returns-in_err-height-clause-none c = λ none width height rest ws hs is.
    c.in_err-height.ensures.none refl height rest hs
    (one_split 32 c.in_ok-width.width width c.in_ok-width.rest.now (decimal height ++ 10 ∷ rest) (lit≤ tt) c.in_ok-width.ensures.small ws
    (sym c.in_ok-width.ensures.some ∙ c.split_at.ensures.back ∙ behind_begin c.args.bytes.now width height rest is))

pub returns-clause-some : goal.returns-clause-some
returns-clause-some c =
    whole_head c.args.bytes.now c.in_ok-width.rest.now c.in_ok-height.rest.now c.in_ok-width.width c.in_ok-height.height (begun c.args.bytes.now c.if-not-starts_with.ensures.value)
    (sym c.split_at.ensures.back ∙ c.in_ok-width.ensures.some) c.in_ok-height.ensures.some
