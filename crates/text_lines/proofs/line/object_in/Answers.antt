use Rattle.std.proofs.Common.{ℕ, List, ◌∷◌, ◌^◌, min, Some, None, sym, ap, ◌∙◌}
use Rattle.std.specs.Prelude.{option_map}
use Rattle.text_lines.specs.Inside.{stated_as}
use Rattle.text_lines.specs.Parts.{parts_behind, number_of}
use Rattle.text_lines.proofs.LineLaws.{no_name, no_number, object_gives, object_is}
use Rattle.text_lines.proofs.line.object_in.Goals as goal

pub returns-in_default : goal.returns-in_default
returns-in_default c =
    let first = c.first_part.result.0.now in
    let parts = parts_behind c.first_part.result.1.tail.now in
    object_gives c.args.line.now (first ∷ parts) None c.if-line-gt-LONGEST_LINE.false c.first_part.ensures
    (ap (option_map stated_as) (no_name first parts (no_number (number_of first) (λ n. min n (2 ^ 32)) c.in_default.ensures)))

pub returns-in-Some-2 : goal.returns-in-Some-2
returns-in-Some-2 c =
    let first = c.first_part.result.0.now in
    let parts = parts_behind c.first_part.result.1.tail.now in
    let s = c.in-Some-class_and_kind.ensures.some in
    object_gives c.args.line.now (first ∷ parts) _ c.if-line-gt-LONGEST_LINE.false c.first_part.ensures
    (object_is (first ∷ parts) (parts_behind c.class_and_kind.new.parts.tail.now) first s.0 s.1 c.in-Some.name _ _ (ap (λ (ps : List (List ℕ)). first ∷ ps) s.2) (sym c.in-Some.ensures) s.3 s.4
    (Some c.in-Some-2.body) (sym c.in-Some-2.is ∙ c.in_ok-body.ensures))

pub returns-in-None : goal.returns-in-None
returns-in-None c =
    let first = c.first_part.result.0.now in
    let parts = parts_behind c.first_part.result.1.tail.now in
    let s = c.in-Some-class_and_kind.ensures.some in
    object_gives c.args.line.now (first ∷ parts) None c.if-line-gt-LONGEST_LINE.false c.first_part.ensures
    (object_is (first ∷ parts) (parts_behind c.class_and_kind.new.parts.tail.now) first s.0 s.1 c.in-Some.name _ _ (ap (λ (ps : List (List ℕ)). first ∷ ps) s.2) (sym c.in-Some.ensures) s.3 s.4
    None (sym c.in-None.is ∙ c.in_ok-body.ensures))
