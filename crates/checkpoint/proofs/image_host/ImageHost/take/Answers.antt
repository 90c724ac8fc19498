use Rattle.std.proofs.Common.{arith}
use Rattle.checkpoint.specs.ImageHost.{image_of}
use Rattle.checkpoint.proofs.ImageHostLaws.{took-next}
use Rattle.checkpoint.proofs.image_host.ImageHost.take.Goals as goal

pub returns-clause-took : goal.returns-clause-took
unfolding image_of
returns-clause-took g c =
    let self = c.args.self.now in
    took-next self.image.now c.args.buf.now c.copy_from_slice.new.self _ self.refused self.at c.min-n.result
    (let e = c.min-n.ensures in let w = self.within in omega (arith, e)) c.copy_from_slice.ensures.after
