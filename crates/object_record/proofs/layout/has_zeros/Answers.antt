use Rattle.std.proofs.Common.{ℕ, List, arith}
use Rattle.object_record.specs.Buffer.{long_at, word_at, kind_numbered}
use Rattle.object_record.proofs.Numbers.{AreBytes}
use Rattle.object_record.proofs.Judging.{room, word-below}
use Rattle.object_record.proofs.layout.has_zeros.Goals as goal

pub split_at-requires : goal.split_at-requires
split_at-requires c =
    let b : List ℕ = c.args.bytes.now in
    let fits : AreBytes b = record { below = λ i. omega (arith, c.type_inv.bytes i) } in
    omega (arith, c.end_of-end.ensures.end, c.requires.room, room (kind_numbered (word_at b 16)) (word_at b 18) (long_at b 20) (long_at b 24) (word-below b 18 fits) c.requires.size)
