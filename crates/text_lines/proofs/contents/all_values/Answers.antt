use Rattle.std.proofs.Common.{List, sym, ap, ◌∙◌}
use Rattle.long_names.specs.declared.value.Value.{Value}
use Rattle.text_lines.specs.Grammar.{each_of}
use Rattle.text_lines.specs.Inside.{in_front}
use Rattle.text_lines.specs.Parts.{parts_behind, value_of}
use Rattle.text_lines.proofs.EachLaws.{front_end, front_more, front_stop}
use Rattle.text_lines.proofs.contents.all_values.Goals as goal

pub each-preserved : goal.each-preserved
each-preserved c =
    c.each.invariant
    ∙ front_more value_of c.each.values c.in-Some-value_in.value _ _ c.in-Some.part.now c.in-Some.ensures.some (sym c.in-Some-value_in.ensures)
    ∙ ap (λ (xs : List Value). in_front xs (each_of value_of (parts_behind c.next.new.self.tail.now))) (sym c.in_ok-push-in-Some-value_in.ensures.ok)

pub returns-in-None : goal.returns-in-None
returns-in-None c = sym (c.each.invariant ∙ front_stop value_of c.each.values _ _ c.in-Some.part.now c.in-Some.ensures.some (sym c.in-None.ensures))

pub returns : goal.returns
returns c = sym (c.each.invariant ∙ front_end value_of c.each.values _ c.in_default.ensures.none)
