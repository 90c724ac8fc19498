-- What a function that is generic in the memory asks of it, and what it leaves beside what it does.
use Rattle.std.specs.Prelude.{Result}
use Rattle.object_memory.specs.Fit.{MayCall, StaysCallable}
use Rattle.object_memory.specs.declared.memory.ObjectMemory.{Ghosts}
use Rattle.object_memory.specs.declared.fault.MemFault.{MemFault}

-- the memory may be called
abbrev pub IsFit : {M : Type 0} → Ghosts M → M → Type 0
IsFit memory m = MayCall memory.sound memory.told m

-- It may be called again, but after a fault that leaves nothing known. Its loan and what it leaves of its host are as before.
abbrev pub KeepsFit : {M A : Type 0} → Ghosts M → M → M → Result A MemFault → Type 0
KeepsFit memory old new answer = StaysCallable memory.sound memory.told memory.lender memory.outside old new answer
