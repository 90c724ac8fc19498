-- What a builder stands for: the finite map of the objects that were added, and the heap that it is with a next name.
use Rattle.std.specs.Prelude.{◌≡◌, ℕ, List, Option, Some, None, Result, Ok, Err}
use Rattle.std.specs.Ordering.{nat_cmp}
use Rattle.std.specs.BTreeMap.{get}
use Rattle.long_names.specs.Heap.{Heap}
use Rattle.long_names.specs.declared.object.Object.{Object}
use Rattle.image_builder.specs.declared.fault.BuildFault.{BuildFault}
use Rattle.image_builder.specs.declared.fault.BuildFault.TheVariants.{Rule, Memory}
use Rattle.image_builder.specs.declared.builder.Builder.{Builder}

-- the objects under their names, each once, by rising name
abbrev pub objects_of : Builder → List (ℕ × Object)
objects_of b = b.objects.entries

-- the object of a name
abbrev pub object_at : Builder → ℕ → Option Object
object_at b = λ n. get nat_cmp b.objects n

-- the heap of them, with this next name
abbrev pub built_heap : Builder → ℕ → Heap
built_heap b next = record { at = λ n. get nat_cmp b.objects n; next = next }

-- a builder answered with the first rule that is broken, or where none is, something else; unless memory ran out
abbrev pub Tells : {A : Type 0} → Result A BuildFault → Option (ℕ × ℕ) → Type 0
Tells (Ok x) broken = broken ≡ None
Tells (Err (Rule rule name)) broken = broken ≡ Some (rule, name)
Tells (Err Memory) broken = Unit {0}

-- it answered with a rule
abbrev pub IsRefused : {A : Type 0} → Result A BuildFault → Type 0
IsRefused (Ok x) = ⊥
IsRefused (Err (Rule rule name)) = Unit {0}
IsRefused (Err Memory) = ⊥
