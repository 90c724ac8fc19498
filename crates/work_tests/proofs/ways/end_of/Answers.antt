use Rattle.image_memory.proofs.ImageLaws.{image-is}
use Rattle.work_tests.proofs.ways.end_of.Goals as goal

pub leaves-requires : goal.leaves-requires
leaves-requires c =
    let x = c.in-Ok.ensures.loads in
    let is = image-is _ c.begin-disk.result.host.now c.load.new.disk.host.now _ c.load.new.disk.rest c.in-Ok.loaded x.0 x.1 x.3 x.4 c.in-Ok.ensures.heap in
    record { image = rw (c.apart-host.ensures.now, c.apart-host.ensures.rest) is }
