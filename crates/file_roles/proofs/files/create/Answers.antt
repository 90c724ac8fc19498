use Rattle.file_roles.specs.Open.{whatever}
use Rattle.file_roles.proofs.OpenLaws.{kept-ok, kept-way, leaves-before, leaves-same, leaves-shut, leaves-then, opened-before, opened-later}
use Rattle.file_roles.proofs.files.create.Goals as goal

pub returns-in_err-path-clause-leaves : goal.returns-in_err-path-clause-leaves
returns-in_err-path-clause-leaves g c told = leaves-same whatever _ _ (c.in_err-path.ensures told)

pub returns-in_err-used-clause-leaves : goal.returns-in_err-used-clause-leaves
returns-in_err-used-clause-leaves g c told = leaves-before whatever _ _ _ (c.in_ok-path.ensures told) (c.in_err-used.ensures.leaves told)

pub returns-clause-leaves : goal.returns-clause-leaves
returns-clause-leaves g c told = leaves-shut whatever _ _ _ _ (opened-before _ _ _ _ (c.in_ok-path.ensures told) (c.in_ok-used.ensures.opened told)).free (leaves-then whatever _ _ _ (leaves-before whatever _ _ _ (c.in_ok-path.ensures told) (c.in_ok-used.ensures.leaves told)) (c.settle_name-settled.ensures told)) (c.or_shut.ensures.leaves told)

pub returns-clause-opened : goal.returns-clause-opened
returns-clause-opened g c told = kept-ok _ _ _ _ c.or_shut.result (opened-later whatever _ _ _ _ (opened-before _ _ _ _ (c.in_ok-path.ensures told) (c.in_ok-used.ensures.opened told)) (c.settle_name-settled.ensures told)) c.or_shut.ensures.same (c.or_shut.ensures.still told)

pub returns-clause-way : goal.returns-clause-way
returns-clause-way g c = kept-way _ _ c.or_shut.result c.in_ok-used.ensures.way c.or_shut.ensures.same
