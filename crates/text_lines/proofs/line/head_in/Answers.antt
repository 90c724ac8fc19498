use Rattle.std.proofs.Common.{◌≡◌, true, false, ◌∷◌, None, rules, sym, ap, ◌∙◌}
use Rattle.std.specs.Prelude.{option_map}
use Rattle.text_lines.specs.Inside.{head_as}
use Rattle.text_lines.specs.Parts.{parts_behind, is_loom}
use Rattle.text_lines.proofs.LineLaws.{head_gives, head_is, no_head, not_loom}
use Rattle.text_lines.proofs.line.head_in.Goals as goal

pub returns-then-ne : goal.returns-then-ne
returns-then-ne c =
    let first = c.first_part.result.0.now in
    let parts = parts_behind c.first_part.result.1.tail.now in
    let other : is_loom first ≡ false = search rules in
    head_gives c.args.line.now (first ∷ parts) None c.if-line-gt-LONGEST_LINE.false c.first_part.ensures (ap (option_map head_as) (not_loom first parts other))

pub returns-in_err-longs : goal.returns-in_err-longs
returns-in_err-longs c =
    let first = c.first_part.result.0.now in
    let parts = parts_behind c.first_part.result.1.tail.now in
    let loom : is_loom first ≡ true = search rules in
    let gone : c.from_residual.result ≡ None = search rules in
    head_gives c.args.line.now (first ∷ parts) _ c.if-line-gt-LONGEST_LINE.false c.first_part.ensures (ap (option_map head_as) (no_head first parts loom c.in_err-longs.ensures.none) ∙ sym gone)

pub returns : goal.returns
returns c =
    let first = c.first_part.result.0.now in
    let parts = parts_behind c.first_part.result.1.tail.now in
    let loom : is_loom first ≡ true = search rules in
    head_gives c.args.line.now (first ∷ parts) _ c.if-line-gt-LONGEST_LINE.false c.first_part.ensures (ap (option_map head_as) (head_is first parts c.in_ok-longs.longs loom c.in_ok-longs.ensures.some.0 c.in_ok-longs.ensures.some.1))
