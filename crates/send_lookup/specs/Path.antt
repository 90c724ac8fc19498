-- What a lookup leaves on its path: all that it looks at is marked, where no mark was taken away meanwhile.
use Rattle.std.specs.Prelude.{◌≡◌, ℕ, true, false, List, Result, OnOk, IsTrue}
use Rattle.long_names.specs.declared.value.Value.{Value}
use Rattle.object_memory.specs.Told.{Told}
use Rattle.object_memory.specs.Contract.{is_marked}
use Rattle.object_memory.specs.Shape.{is_among}
use Rattle.blue_model.specs.declared.cpu.Cpu.{Cpu}
use Rattle.blue_model.specs.Machine.{Machine, Rule, log_of, ◌>>◌, done, look}
use Rattle.contexts.specs.declared.stop.Stop.{Stop}
use Rattle.contexts.specs.Cache.{IsRead}
use Rattle.contexts.specs.Serves.{Stands, Serves}

-- looks at the object that a value names, and no more
abbrev pub look_at : Value → Rule (Unit {0})
look_at v = look v >> done tt

-- where the path is whole now, it was whole before, and no mark was taken away
pub record KeepsPath (old new : Told) : Type 0 where
  pub path : IsTrue new.cache.path → IsTrue old.cache.path
  pub marks : IsTrue new.cache.path → (n : ℕ) → old.cache.marks n ≡ true → new.cache.marks n ≡ true

-- the same, and all registers but these are as before
pub record Passes (filled : List ℕ) (old new : Told) : Type 0 where
  pub regs : (r : ℕ) → is_among filled r ≡ false → new.regs r ≡ old.regs r
  pub keeps : KeepsPath old new

-- where the path is whole, the value is a marked name
abbrev pub IsOnPath : Told → Value → Type 0
IsOnPath t v = IsTrue t.cache.path → IsTrue (is_marked t.cache v)

-- where the heap is told and the path is whole now, all that the rule looks at is marked
abbrev pub Covers : {A : Type 0} → Told → Cpu → Told → Rule A → Type 0
Covers old cpu new rule = IsTrue old.tells → IsTrue new.cache.path → (m : Machine) → Stands old cpu m → (n : ℕ) → IsRead n (log_of (rule m)) → new.cache.marks n ≡ true

-- What was done from old to new serves a rule, and where it was answered, what the rule looks at is marked, beside what was marked before.
pub record Walks {A : Type 0} (old : Told) (cpu : Cpu) (new : Told) (rule : Rule A) (answer : Result A Stop) : Type 0 where
  pub serves : Serves old cpu new cpu rule answer
  pub keeps : OnOk answer (KeepsPath old new)
  pub covers : OnOk answer (Covers old cpu new rule)
