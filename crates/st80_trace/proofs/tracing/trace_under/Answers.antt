use Rattle.image_reader.specs.Loaded.{heap_on}
use Rattle.loom_memory.specs.Memory.{loom_told}
use Rattle.loom_run.proofs.RunLaws.{image-again, image-begins}
use Rattle.st80_trace.proofs.tracing.trace_under.Goals as goal

pub begin_memory-memory-requires-clause-image : goal.begin_memory-memory-requires-clause-image
begin_memory-memory-requires-clause-image g c = image-again g.H.Host c.args.host.now c.again-disk.result.host.now c.args.rest c.again-disk.result.rest c.args.loaded.now c.again-disk.ensures.now c.again-disk.ensures.rest c.requires.image

pub trace_machine-status-requires-clause-begins : goal.trace_machine-status-requires-clause-begins
trace_machine-status-requires-clause-begins g c = λ told.
    let d = c.again-disk.result in
    let x = c.args.loaded.now in (
      heap_on g.H.Host d.host.now d.rest x.next,
      image-begins g.H.Host c.args.host.now d.host.now c.args.rest d.rest x c.again-disk.ensures.now c.again-disk.ensures.rest c.requires.image (loom_told g.H.Host c.begin_memory-memory.result) told (c.begin_memory-memory.ensures.begins told),
    )
