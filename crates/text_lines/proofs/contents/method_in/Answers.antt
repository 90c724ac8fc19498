use Rattle.std.proofs.Common.{ℤ, Some, sym, ap, ◌∙◌}
use Rattle.long_names.specs.declared.object.Body.TheVariants.{Method}
use Rattle.text_lines.proofs.LineLaws.{header_kept, method_none, method_some}
use Rattle.text_lines.proofs.contents.method_in.Goals as goal

pub returns-in-Some-2 : goal.returns-in-Some-2
returns-in-Some-2 c =
    let h = c.in-Some.ensures.some in
    ap (λ (z : ℤ). Some (Method z c.in-Some-2.literals c.in-Some-2.code)) (header_kept h.0 c.in-Some.header h.2)
    ∙ sym (method_some _ _ h.0 c.in-Some.header (c.in-Some-2.literals, c.in-Some-2.code) h.1 h.2 (sym c.in_ok-literals.ensures ∙ c.in-Some-2.is))

pub returns-in-None : goal.returns-in-None
returns-in-None c = let h = c.in-Some.ensures.some in sym (method_none _ _ h.0 c.in-Some.header h.1 h.2 (sym c.in_ok-literals.ensures ∙ c.in-None.is))
