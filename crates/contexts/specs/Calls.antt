-- What each call over a memory asks of it, and what it leaves beside what it does.
use Rattle.std.specs.Prelude.{◌≡◌, Result, OnOk}
use Rattle.object_memory.specs.Told.{IsReady}
use Rattle.object_memory.specs.declared.memory.ObjectMemory.{Ghosts}
use Rattle.contexts.specs.declared.stop.Stop.{Stop}
use Rattle.contexts.specs.Serves.{StaysSound}

-- It may be called again, but after a fault that leaves nothing known. Its loan and what it leaves of its host are as before.
pub record StaysFit {M A : Type 0} (memory : Ghosts M) (old new : M) (answer : Result A Stop) : Type 0 where
  pub sound : StaysSound answer (memory.sound new)
  pub ready : OnOk answer (IsReady (memory.told new))
  pub lender : memory.lender new ≡ memory.lender old
  pub outside : memory.outside new ≡ memory.outside old
