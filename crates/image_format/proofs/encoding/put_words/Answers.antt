use Rattle.std.proofs.Common.{◌<◌, ◌^◌, arith}
use Rattle.std.proofs.lemmas.List.Elements.{All-push}
use Rattle.long_names.specs.Record.{two_bytes}
use Rattle.image_format.proofs.Writing.{one_more, push_taken}
use Rattle.image_format.proofs.encoding.put_words.Goals as goal

pub loop-i-preserved : goal.loop-i-preserved
loop-i-preserved c =
    let fits : c.item-word.result.now < 2 ^ 16 = omega arith in (
      one_more two_bytes c.args.out.now c.loop-i.out c.put_u16.new.out c.args.words.now c.loop-i.i c.item-word.result.now c.item-word.ensures c.loop-i.invariant.0 c.in_ok-put_u16.ensures.ok,
      rw (push_taken c.args.words.now c.loop-i.i c.item-word.result.now c.item-word.ensures) (All-push (λ w. w < 2 ^ 16) _ c.item-word.result.now c.loop-i.invariant.1 fits),
    )
