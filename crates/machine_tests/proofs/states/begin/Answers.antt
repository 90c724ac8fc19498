use Rattle.std.proofs.Common.{◌≡◌, ℕ, true, Option, Some, None, IsTrue, IfSome}
use Rattle.long_names.specs.Names.{is_known}
use Rattle.long_names.specs.Kept.{no_roots}
use Rattle.long_names.proofs.KeptLaws.{kept-known}
use Rattle.object_memory.specs.Told.{Told, IsReady}
use Rattle.devices.specs.States.{StaysThere}
use Rattle.machine_tests.proofs.states.begin.Goals as goal

-- the object of a known name is kept with no roots
known_stays : (t : Told) (name : Option ℕ) → IsReady t → IfSome name (λ n. is_known n ≡ true) → IsTrue t.tells → StaysThere t.heap name
known_stays t None ready is told = tt
known_stays t (Some n) ready is told = kept-known t.heap no_roots n is ((ready.whole told).known n is)

pub restore-requires-clause-display : goal.restore-requires-clause-display
restore-requires-clause-display g c = λ told. known_stays _ _ c.in_ok-start.ensures.fit.ready c.known_one-display.ensures told

pub restore-requires-clause-input : goal.restore-requires-clause-input
restore-requires-clause-input g c = λ told. known_stays _ _ c.in_ok-start.ensures.fit.ready c.known_one-input.ensures told

pub restore-requires-clause-timer : goal.restore-requires-clause-timer
restore-requires-clause-timer g c = λ told. known_stays _ _ c.in_ok-start.ensures.fit.ready c.known_one-timer.ensures told
