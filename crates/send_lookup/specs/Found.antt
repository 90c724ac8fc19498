-- What a lookup leaves, and what it answers for a pair that the cache has.
use Rattle.std.specs.Prelude.{◌≡◌, ℕ, ◌<◌, Bool, true, Result, Ok}
use Rattle.long_names.specs.declared.value.Value.{Value}
use Rattle.long_names.specs.State.{NEW_METHOD}
use Rattle.object_memory.specs.Told.{Told, Cache}
use Rattle.object_memory.specs.Contract.{row_of_values, IsFound}
use Rattle.contexts.specs.declared.stop.Stop.{Stop}

-- the registers below this one are as before
abbrev pub KeepsBelow : ℕ → Told → Told → Type 0
KeepsBelow high old new = (r : ℕ) → r < high → new.regs r ≡ old.regs r

-- the registers below this one are as before, but that of the method
abbrev pub KeepsButMethod : ℕ → Told → Told → Type 0
KeepsButMethod high old new = (r : ℕ) → r < high → (r ≡ NEW_METHOD → ⊥) → new.regs r ≡ old.regs r

-- the cache has a row of the pair
pub record HasPair (cache : Cache) (class selector : Value) : Type 0 where
  pub method : ℕ
  pub row : row_of_values cache class selector method ≡ true

-- Where the cache has a row of the pair that two registers hold, the answer is true, the method of such a row is in a third register, and
-- all else that is told is as before.
abbrev pub AnswersPair : Told → Told → ℕ → ℕ → ℕ → Result Bool Stop → Type 0
AnswersPair old new to class selector answer = HasPair old.cache (old.regs class) (old.regs selector) → (answer ≡ Ok true) × IsFound old new to class selector
