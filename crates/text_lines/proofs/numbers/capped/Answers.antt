use Rattle.std.proofs.Common.{◌≡◌, ℕ, ◌+◌, ◌*◌, ◌^◌, true, min, take, get_or, sym, ap, ap₂, ◌∙◌}
use Rattle.std.proofs.lemmas.Int.Digits.{digits_value_more}
use Rattle.std.proofs.lemmas.List.Sums.{AllPass-from_list_all}
use Rattle.std.specs.Char.{digit_value, is_ascii_digit}
use Rattle.std.specs.Str.Parse.{digits_value}
use Rattle.text_lines.proofs.PartLaws.{capped-more, digit-is}
use Rattle.text_lines.proofs.numbers.capped.Goals as goal

pub loop-digit-preserved : goal.loop-digit-preserved
loop-digit-preserved c =
    let digits = c.args.digits.now in
    let i = c.loop-digit.digit-index in
    let digit = get_or digits i 0 in
    let is : is_ascii_digit digit ≡ true = AllPass-from_list_all is_ascii_digit digits c.requires i 0 c.loop-digit-test.true in
    c.min-number.ensures
    ∙ ap₂ (λ (n d : ℕ). min (n * 10 + d) (2 ^ 32)) c.loop-digit.invariant (c.from.ensures ∙ c.saturating_sub.ensures ∙ sym (digit-is digit is))
    ∙ capped-more (digits_value 10 (take i digits)) (digit_value digit)
    ∙ ap (λ (n : ℕ). min n (2 ^ 32)) (sym (digits_value_more 10 digits i c.loop-digit-test.true))
