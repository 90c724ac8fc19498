use Rattle.std.proofs.Common.{[], refl, arith}
use Rattle.image_writer.proofs.GatherLaws.{write_gathers, then_gathers, stop_gathers}
use Rattle.image_writer.proofs.pieces.put.Goals as goal

pub push-requires : goal.push-requires
push-requires g c = omega (arith, c.room.ensures, c.if-bytes-room.true)

pub returns-in_err-flush-clause-gathers : goal.returns-in_err-flush-clause-gathers
returns-in_err-flush-clause-gathers g c =
    stop_gathers g.H.Host _ _ c.args.gathered.now [] _ [] c.args.bytes.now c.in_err-flush.field-0.0 c.from_residual.result c.in_err-flush.ensures.gathers c.from_residual.ensures.1

pub returns-clause-gathers : goal.returns-clause-gathers
returns-clause-gathers g c =
    then_gathers g.H.Host _ _ _ c.args.gathered.now [] _ [] c.args.bytes.now _ c.write.result c.in_ok-flush.ensures.gathers
    (write_gathers g.H.Host _ _ [] _ c.args.bytes.now c.write.result refl c.in_ok-flush.ensures.none c.write.ensures.puts)
