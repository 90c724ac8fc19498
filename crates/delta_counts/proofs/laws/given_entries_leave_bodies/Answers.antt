use Rattle.delta_counts.proofs.GiveLaws.{giving-tight}
use Rattle.delta_counts.proofs.laws.given_entries_leave_bodies.Goals as goal

pub returns : goal.returns
returns c = giving-tight
