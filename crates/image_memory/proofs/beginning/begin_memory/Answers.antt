use Rattle.std.proofs.Common.{refl}
use Rattle.image_reader.specs.Loaded.{heap_on}
use Rattle.loom_memory.specs.Memory.{loom_told}
use Rattle.image_memory.proofs.ImageLaws.{begins-with, has-loaded, may-begin, said-before}
use Rattle.image_memory.proofs.beginning.begin_memory.Goals as goal

pub joined-requires-clause-loaded : goal.joined-requires-clause-loaded
joined-requires-clause-loaded g c = has-loaded g.H.Host c.args.disk.host.now c.args.disk.rest c.args.loaded.now c.requires.image

pub joined-requires-clause-even : goal.joined-requires-clause-even
joined-requires-clause-even g c = c.requires.image.even

pub returns-clause-begins : goal.returns-clause-begins
returns-clause-begins g c = λ told.
    let now = c.args.disk.host.now in
    let rest = c.args.disk.rest in
    let x = c.args.loaded.now in
    begins-with g.H.Host now rest x (loom_told g.H.Host c.joined.result) c.args.core c.args.entries _ _ _ told c.requires.image c.joined.ensures.first
    (c.joined.ensures.heap told (heap_on g.H.Host now rest x.next) (may-begin g.H.Host now rest x told c.requires.image) refl)

pub returns-clause-transcript : goal.returns-clause-transcript
returns-clause-transcript g c = said-before g.H.Host c.args.disk.host.now c.joined.result c.joined.ensures.now
