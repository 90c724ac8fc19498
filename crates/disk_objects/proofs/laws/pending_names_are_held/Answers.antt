use Rattle.disk_objects.proofs.laws.pending_names_are_held.Goals as goal

pub returns-clause-held : goal.returns-clause-held
returns-clause-held c = λ rest work objects pending k. k.kept.are_pending.held

pub returns-clause-once : goal.returns-clause-once
returns-clause-once c = λ rest work objects pending k. k.kept.are_pending.once
