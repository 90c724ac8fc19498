-- Why words couldn't be lowered, or a name freed.
use Rattle.std.specs.Prelude.{◌≡◌, ◌⊎◌, ℕ, ◌<◌, List, Bool, IsTrue, Some, slice_get}
use Rattle.long_names.specs.Counting.{Rose}
use Rattle.long_names.specs.Words.{IsValue}
use Rattle.long_names.specs.declared.value.Value.{Value}
use Rattle.loom_host.specs.declared.outside.DiskFault.{DiskFault}
use Rattle.loom_host.specs.declared.outside.DiskFault.TheVariants as fault
use Rattle.disk_objects.specs.declared.rest.DiskRest.{DiskRest}
use Rattle.disk_objects.specs.Places.{IsReadPlace, IsSlotPlace}
use Rattle.core_view.specs.Counted.{words}

-- each of these words is a value
abbrev pub AreValues : List Value → Type 0
AreValues vs = (i : ℕ) (v : Value) → slice_get vs i ≡ Some v → IsValue v

-- the place of a slot, and one of these words, for which it was read; or the place and the name of the record that has these words
abbrev pub IsWordDamage : DiskRest → List Value → ℕ → ℕ → ℕ → ℕ → Type 0
IsWordDamage rest vs place name at about = (IsSlotPlace rest at × (0 < words vs about)) ⊎ ((at ≡ place) × (about ≡ name))

-- why the words of the record at this place weren't lowered
abbrev pub IsWordsFault : Bool → ℕ → ℕ → DiskRest → List Value → ℕ → ℕ → DiskFault → Type 0
IsWordsFault tells before now rest vs place name (fault.Work count) = (count ≡ now) × Rose before now
IsWordsFault tells before now rest vs place name (fault.Full held room) = ⊥
IsWordsFault tells before now rest vs place name (fault.Damaged at about) = (IsTrue tells → ⊥) × IsWordDamage rest vs place name at about

-- why a name wasn't freed: a call on Work failed, and this is the count of its faults, which rose; or what was read at a slot or a record of a
-- host that doesn't tell Work can't be so
abbrev pub IsFreeFault : Bool → ℕ → ℕ → DiskRest → DiskFault → Type 0
IsFreeFault tells before now rest (fault.Work count) = (count ≡ now) × Rose before now
IsFreeFault tells before now rest (fault.Full held room) = ⊥
IsFreeFault tells before now rest (fault.Damaged at about) = (IsTrue tells → ⊥) × IsReadPlace rest at
