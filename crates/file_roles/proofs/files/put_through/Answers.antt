use Rattle.file_roles.proofs.OpenLaws.{writes-leaves, writes-then}
use Rattle.file_roles.proofs.files.put_through.Goals as goal

pub returns-in_err-settle-clause-writes : goal.returns-in_err-settle-clause-writes
returns-in_err-settle-clause-writes g c told order used = let first = c.in_ok-n.ensures.writes told order used in writes-then _ _ _ _ _ first (writes-leaves _ _ _ _ (c.settle.ensures told (first.others.uses _ _ used)))

pub returns-clause-writes : goal.returns-clause-writes
returns-clause-writes g c told order used = let first = c.in_ok-n.ensures.writes told order used in writes-then _ _ _ _ _ first (writes-leaves _ _ _ _ (c.settle.ensures told (first.others.uses _ _ used)))
