use Rattle.std.proofs.Common.{refl}
use Rattle.work_directory.proofs.directory.search_end.Goals as goal

pub returns-in-None : goal.returns-in-None
returns-in-None c = rw (c.in-None.is, c.damaged.ensures, c.turn.ensures.place, c.paged_home.ensures.place, c.get.ensures.value) refl
