use Rattle.work_directory.proofs.directory.Directory.find.Goals as goal

pub returns-in-Held-clause-found : goal.returns-in-Held-clause-found
returns-in-Held-clause-found g c = λ told. rw c.in-Held.is at (c.in_ok-slot.ensures.found told)

pub returns-in-Vacant-clause-found : goal.returns-in-Vacant-clause-found
returns-in-Vacant-clause-found g c = λ told. rw c.in-Vacant.is at (c.in_ok-slot.ensures.found told)
