use Rattle.contexts.proofs.ServesLaws.{exits}
use Rattle.devices.proofs.DueLaws.{thinned, purge_refused}
use Rattle.devices.proofs.events.take_event.Goals as goal

pub returns-in-Word-clause-serves : goal.returns-in-Word-clause-serves
returns-in-Word-clause-serves g c = rw c.in-Word.is c.join_queue.ensures.serves

pub returns-in_err-purge_all-in-Purge-clause-serves : goal.returns-in_err-purge_all-in-Purge-clause-serves
returns-in_err-purge_all-in-Purge-clause-serves g c = rw c.in-Purge.is (exits _ c.from_residual.ensures.1 (purge_refused c.in_err-purge_all-in-Purge.ensures.called))

pub returns-in_ok-purge_all-in-Purge-clause-serves : goal.returns-in_ok-purge_all-in-Purge-clause-serves
returns-in_ok-purge_all-in-Purge-clause-serves g c =
    let purged = c.in_ok-purge_all-in-Purge.ensures in
    rw c.in-Purge.is (thinned c.requires.fit.ready purged.fit.ready purged.called.later purged.called.ok)

pub returns-in-Compact-clause-serves : goal.returns-in-Compact-clause-serves
returns-in-Compact-clause-serves g c = rw c.in-Compact.is (thinned c.requires.fit.ready c.compact.ensures.fit.ready c.compact.ensures.later c.compact.ensures.follows)
