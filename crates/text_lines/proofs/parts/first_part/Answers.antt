use Rattle.std.proofs.Common.{ℕ, ◌∷◌, List, take, drop, sym, ap, ap₂, ◌∙◌}
use Rattle.text_lines.specs.Parts.{parts_behind}
use Rattle.text_lines.proofs.PartLaws.{cut-first}
use Rattle.text_lines.proofs.parts.first_part.Goals as goal

pub returns : goal.returns
returns c =
    let front = c.split_at.ensures.front ∙ ap (λ (n : ℕ). take n c.args.line.now) c.first_space.ensures.at in
    let back = c.split_at.ensures.back ∙ ap (λ (n : ℕ). drop n c.args.line.now) c.first_space.ensures.at in
    cut-first c.args.line.now ∙ ap₂ (λ (part tail : List ℕ). part ∷ parts_behind tail) (sym front) (sym back)
