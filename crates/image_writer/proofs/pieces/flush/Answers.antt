use Rattle.std.proofs.Common.{[], Ok, Err, refl}
use Rattle.image_writer.proofs.PutsLaws.{puts_of}
use Rattle.image_writer.proofs.GatherLaws.{flush_gathers, stop_gathers}
use Rattle.image_writer.proofs.pieces.flush.Goals as goal

pub returns-in_err-write-clause-gathers : goal.returns-in_err-write-clause-gathers
returns-in_err-write-clause-gathers g c =
    stop_gathers g.H.Host _ _ c.args.gathered.now [] [] [] [] c.in_err-write.field-0.0 c.from_residual.result
    (flush_gathers g.H.Host _ _ c.args.gathered.now [] (Err c.in_err-write.field-0.0) tt (puts_of g.H.Host _ _ _ _ _ c.bytes.ensures c.in_err-write.ensures.puts))
    c.from_residual.ensures.1

pub returns-clause-gathers : goal.returns-clause-gathers
returns-clause-gathers g c =
    flush_gathers g.H.Host _ _ c.args.gathered.now [] (Ok tt) refl (puts_of g.H.Host _ _ _ _ _ c.bytes.ensures c.in_ok-write.ensures.puts)
