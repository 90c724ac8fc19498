use Rattle.std.proofs.Common.{◌≡◌, ◌++◌, ◌<◌, ◌^◌, take}
use Rattle.std.specs.Prelude.{All}
use Rattle.long_names.specs.Record.{words_text}
use Rattle.image_format.proofs.encoding.put_words.Given as goal

abbrev pub invariant-loop-i : goal.invariant-loop-i
invariant-loop-i l = (l.out ≡ l.fn.out ++ words_text (take l.i l.words)) × All (λ w. w < 2 ^ 16) (take l.i l.words)
