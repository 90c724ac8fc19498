use Rattle.std.proofs.Common.{ℕ, List, sym, ap, ◌∙◌}
use Rattle.text_lines.specs.Grammar.{each_of}
use Rattle.text_lines.specs.Inside.{in_front}
use Rattle.text_lines.specs.Parts.{parts_behind, word_of}
use Rattle.text_lines.proofs.EachLaws.{front_end, front_more, front_stop}
use Rattle.text_lines.proofs.contents.all_words.Goals as goal

pub each-preserved : goal.each-preserved
each-preserved c =
    c.each.invariant
    ∙ front_more word_of c.each.words c.in-Some-word_in.word _ _ c.in-Some.part.now c.in-Some.ensures.some (sym c.in-Some-word_in.ensures)
    ∙ ap (λ (xs : List ℕ). in_front xs (each_of word_of (parts_behind c.next.new.self.tail.now))) (sym c.in_ok-push-in-Some-word_in.ensures.ok)

pub returns-in-None : goal.returns-in-None
returns-in-None c = sym (c.each.invariant ∙ front_stop word_of c.each.words _ _ c.in-Some.part.now c.in-Some.ensures.some (sym c.in-None.ensures))

pub returns : goal.returns
returns c = sym (c.each.invariant ∙ front_end word_of c.each.words _ c.in_default.ensures.none)
