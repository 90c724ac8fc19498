-- What a call over a memory asks of it, and what it leaves beside what it does. The words are the memory's: what it keeps of its own,
-- what it tells, the loan by which it holds a host, and what it leaves of that host. `Calls.antt` has them of the trait.
use Rattle.std.specs.Prelude.{◌≡◌, ℕ, Result, OnOk}
use Rattle.object_memory.specs.Told.{Told, IsReady}
use Rattle.object_memory.specs.Contract.{KeepsSound}
use Rattle.object_memory.specs.declared.fault.MemFault.{MemFault}

-- the memory may be called
pub record MayCall {M : Type 0} (keeps : M → Type 0) (tells : M → Told) (m : M) : Type 0 where
  pub sound : keeps m
  pub ready : IsReady (tells m)

-- It may be called again, but after a fault that leaves nothing known. Its loan and what it leaves of its host are as before.
pub record StaysCallable {M A H : Type 0} (keeps : M → Type 0) (tells : M → Told) (lent : M → ℕ) (leaves : M → H) (old new : M) (answer : Result A MemFault) : Type 0 where
  pub sound : KeepsSound answer (keeps new)
  pub ready : OnOk answer (IsReady (tells new))
  pub lender : lent new ≡ lent old
  pub outside : leaves new ≡ leaves old

-- The same of a call that is never refused, and that may come where the memory isn't ready: where it was, it is ready again.
pub record KeepsCallable {M H : Type 0} (keeps : M → Type 0) (tells : M → Told) (lent : M → ℕ) (leaves : M → H) (old new : M) : Type 0 where
  pub sound : keeps new
  pub ready : IsReady (tells old) → IsReady (tells new)
  pub lender : lent new ≡ lent old
  pub outside : leaves new ≡ leaves old
