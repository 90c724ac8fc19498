use Rattle.loom_outside.specs.Files.{names}
use Rattle.loom_outside.proofs.Places.{newest-named}
use Rattle.loom_outside.proofs.reading.open.Goals as goal

pub returns-clause-name : goal.returns-clause-name
returns-clause-name c = rw (← c.in_ok-file.ensures.newest) at (newest-named (names c.args.files.now) c.args.name.now)
