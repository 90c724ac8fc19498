use Rattle.std.proofs.Common.{refl}
use Rattle.purger.proofs.FreeingLaws.{levels-free}
use Rattle.purger.proofs.pager.Pager.free_pending.Goals as goal

pub returns-clause-frees : goal.returns-clause-frees
returns-clause-frees g c = levels-free c.args.self.now _ c.drain_pending.result refl c.drain_pending.ensures.frees
