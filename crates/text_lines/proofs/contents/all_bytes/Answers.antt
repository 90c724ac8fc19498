use Rattle.std.proofs.Common.{ℕ, List, sym, ap, ◌∙◌}
use Rattle.text_lines.specs.Grammar.{each_of}
use Rattle.text_lines.specs.Inside.{in_front}
use Rattle.text_lines.specs.Parts.{parts_behind, byte_of}
use Rattle.text_lines.proofs.EachLaws.{front_end, front_more, front_stop}
use Rattle.text_lines.proofs.contents.all_bytes.Goals as goal

pub each-preserved : goal.each-preserved
each-preserved c =
    c.each.invariant
    ∙ front_more byte_of c.each.bytes c.in-Some-byte_in.byte _ _ c.in-Some.part.now c.in-Some.ensures.some (sym c.in-Some-byte_in.ensures)
    ∙ ap (λ (xs : List ℕ). in_front xs (each_of byte_of (parts_behind c.next.new.self.tail.now))) (sym c.in_ok-push-in-Some-byte_in.ensures.ok)

pub returns-in-None : goal.returns-in-None
returns-in-None c = sym (c.each.invariant ∙ front_stop byte_of c.each.bytes _ _ c.in-Some.part.now c.in-Some.ensures.some (sym c.in-None.ensures))

pub returns : goal.returns
returns c = sym (c.each.invariant ∙ front_end byte_of c.each.bytes _ c.in_default.ensures.none)
