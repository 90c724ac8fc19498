use Rattle.std.proofs.Common.{ap, ◌∙◌, ◌++◌}
use Rattle.long_names.specs.Words.{long_word}
use Rattle.long_names.specs.Record.{four_bytes}
use Rattle.image_format.proofs.Writing.{one_more}
use Rattle.image_format.proofs.encoding.put_values.Goals as goal

pub loop-i-preserved : goal.loop-i-preserved
loop-i-preserved c =
    one_more (λ v. four_bytes (long_word v)) c.args.out.now c.loop-i.out c.put_u32.new.out c.args.values.now c.loop-i.i c.item-value.result.now c.item-value.ensures c.loop-i.invariant
    (c.in_ok-put_u32.ensures.ok ∙ ap (λ w. c.loop-i.out ++ four_bytes w) c.long_word.ensures.word)
