-- When a method cache is sound for a heap.
use Rattle.std.specs.Prelude.{◌≡◌, ℕ, ◌⊎◌, Bool, true, List, [], ◌∷◌, Option, Some, None}
use Rattle.long_names.specs.declared.value.Value.{Value}
use Rattle.long_names.specs.declared.value.Value.TheVariants.{Ref}
use Rattle.long_names.specs.Heap.{Heap}
use Rattle.object_memory.specs.Told.{Cache}
use Rattle.blue_model.specs.Machine.{Machine, LogRow, Outcome, Go, Halt, Spent}
use Rattle.blue_model.specs.Lookup.{lookup}

-- the log has a row of this object
abbrev pub IsRead : ℕ → List LogRow → Type 0
IsRead n [] = ⊥
IsRead n (row ∷ rows) = (row.object ≡ n) ⊎ IsRead n rows

-- the lookup found the method, and all that it looked at is marked
abbrev pub Finds : (ℕ → Bool) → ℕ → Outcome (Option Value) → Type 0
Finds marks method (Go None m log) = ⊥
Finds marks method (Go (Some v) m log) = (v ≡ Ref method) × ((n : ℕ) → IsRead n log → marks n ≡ true)
Finds marks method (Halt c log) = ⊥
Finds marks method (Spent log) = ⊥

-- the lookup of a selector from a class in this heap finds the method; class, selector and method are marked, too
pub record IsLookup (h : Heap) (marks : ℕ → Bool) (class selector method : ℕ) : Type 0 where
  pub class_marked : marks class ≡ true
  pub selector_marked : marks selector ≡ true
  pub method_marked : marks method ≡ true
  pub finds : (m : Machine) → m.heap ≡ h → Finds marks method (lookup (Ref selector) (Ref class) m)

-- each row is a lookup in this heap, and what the lookup looks at is marked
pub record IsSound (h : Heap) (cache : Cache) : Type 0 where
  pub sound : (class selector method : ℕ) → cache.rows class selector method ≡ true → IsLookup h cache.marks class selector method
