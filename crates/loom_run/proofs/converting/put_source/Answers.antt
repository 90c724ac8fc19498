-- What was read lies on the disk, and nothing is pending.
use Rattle.std.proofs.Common.{[]}
use Rattle.loom_run.proofs.converting.put_source.Goals as goal

pub list-requires-clause-stands : goal.list-requires-clause-stands
list-requires-clause-stands g c = λ work. let x = c.requires.source.idle work in (x.0, [], x.1, tt)

pub save-requires-clause-stands : goal.save-requires-clause-stands
save-requires-clause-stands g c = λ work. let x = c.requires.source.idle work in (x.0, [], x.1, tt)
