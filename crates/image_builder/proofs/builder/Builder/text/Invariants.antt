use Rattle.std.proofs.Common.{◌≡◌, ◌++◌, length}
use Rattle.image_format.specs.Text.{head_text}
use Rattle.image_builder.specs.Parts.{count_in, texts_with}
use Rattle.image_builder.proofs.builder.Builder.text.Given as goal

-- what is written, and what is to come
abbrev pub invariant-loop-name : goal.invariant-loop-name
invariant-loop-name l =
    l.out ++ texts_with (count_in l.fn.counts) l.name-iterator ≡ head_text (length l.fn.self.objects.entries) l.fn.next ++ texts_with (count_in l.fn.counts) l.fn.self.objects.entries
