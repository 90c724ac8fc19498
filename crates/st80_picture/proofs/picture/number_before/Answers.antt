use Rattle.std.proofs.Common.{◌≡◌, ℕ, List, length, take, Option, Some, None, decimal, ◌++◌, ◌∷◌, sym, ap, ◌∙◌, arith}
use Rattle.text_lines.specs.Parts.{long_of}
use Rattle.text_lines.proofs.OneSpelling.{some_is}
use Rattle.st80_picture.proofs.HeadLaws.{found, spelled}
use Rattle.st80_picture.proofs.picture.number_before.Goals as goal

pub returns-in_err-at-clause-none : goal.returns-in_err-at-clause-none
returns-in_err-at-clause-none c = λ none n rest small is.
    let f = found c.args.end n c.args.bytes.now rest c.requires small is in
    let clash : ◌≡◌ {A = Option ℕ} None (Some (length (decimal n))) = c.in_err-at.ensures ∙ f.place in
    absurd (cc)

pub returns-in_err-number-clause-none : goal.returns-in_err-number-clause-none
returns-in_err-number-clause-none c = λ none n rest small is.
    let f = found c.args.end n c.args.bytes.now rest c.requires small is in
    let here : c.in_ok-at.at ≡ length (decimal n) = some_is _ _ (c.in_ok-at.ensures ∙ f.place) in
    let clash : ◌≡◌ {A = Option ℕ} None (Some n) = c.in_err-number.ensures ∙ ap long_of (c.split_at.ensures.front ∙ ap (λ (k : ℕ). take k c.args.bytes.now) here) ∙ f.part in
    absurd (cc)

pub returns-then-number-gt-MOST_SIDE-clause-none : goal.returns-then-number-gt-MOST_SIDE-clause-none
returns-then-number-gt-MOST_SIDE-clause-none c = λ none n rest small is.
    let f = found c.args.end n c.args.bytes.now rest c.requires small is in
    let here : c.in_ok-at.at ≡ length (decimal n) = some_is _ _ (c.in_ok-at.ensures ∙ f.place) in
    let same : c.in_ok-number.number ≡ n = some_is _ _ (c.in_ok-number.ensures ∙ ap long_of (c.split_at.ensures.front ∙ ap (λ (k : ℕ). take k c.args.bytes.now) here) ∙ f.part) in
    omega (arith, same, small)

pub returns-clause-some : goal.returns-clause-some
returns-clause-some c =
    spelled c.args.end c.args.bytes.now c.in_ok-at.at c.in_ok-number.number (sym c.in_ok-at.ensures) (sym (c.in_ok-number.ensures ∙ ap long_of c.split_at.ensures.front))
    ∙ ap (λ (r : List ℕ). decimal c.in_ok-number.number ++ c.args.end ∷ r) (sym c.split_at-2.ensures.back)
