-- What a memory tells of itself.
use Rattle.std.specs.Prelude.{◌≡◌, ℕ, pos, ◌||◌, ◌&&◌, nat_le, nat_lt, Bool, true, List, Option, IsTrue, if◌then◌else◌}
use Rattle.long_names.specs.declared.value.Value.{Value}
use Rattle.long_names.specs.declared.value.Value.TheVariants.{Int}
use Rattle.long_names.specs.Objects.{is_ref}
use Rattle.long_names.specs.Heap.{Heap, Has}
use Rattle.long_names.specs.Kept.{any_below}
use Rattle.long_names.specs.Thin.{IsWhole}
use Rattle.long_names.specs.State.{State}
use Rattle.long_names.specs.declared.limits.TheConstants.{MACHINE_REGISTERS, REGISTERS, SLOTS}
use Rattle.long_names.specs.Need.{Row, words_of_row, entries_of_row, is_pinned}
use Rattle.object_memory.specs.declared.fault.Need.{Need}
use Rattle.object_memory.specs.declared.fault.MemFault.{MemFault}

-- The limits of a memory of two levels, and the numbers on which its refusals rest: how many objects lived at the last settling, if
-- that is known; how many were made since then; how often calls on Work and on Transcript failed.
pub record Bounds : Type 0 where
  pub core : ℕ
  pub entries : ℕ
  pub room : ℕ
  pub base : Option ℕ
  pub made : ℕ
  pub work_faults : ℕ
  pub said_faults : ℕ

-- the method cache: its rows (class, selector, method), the marked names, and whether the path is whole
pub record Cache : Type 0 where
  pub rows : ℕ → ℕ → ℕ → Bool
  pub marks : ℕ → Bool
  pub path : Bool

-- Registers, slots, cache, the number of refusals and the last one are always told. Heap and transcript mean something only where
-- the memory tells them.
pub record Told : Type 0 where
  pub tells : Bool
  pub speaks : Bool
  pub heap : Heap
  pub regs : ℕ → Value
  pub slots : ℕ → Option ℕ
  pub transcript : List ℕ
  pub cache : Cache
  pub refusals : ℕ
  pub last : Option MemFault
  pub bounds : Option Bounds

-- the state that it stands for
abbrev pub state_of : Told → State
state_of t = record { heap = t.heap; regs = t.regs; slots = t.slots; transcript = t.transcript }

-- The heap, where it is told, is whole with the registers and slots, and has each marked object. The method of a cached row is marked.
pub record IsReady (t : Told) : Type 0 where
  pub whole : IsTrue t.tells → IsWhole t.heap t.regs t.slots
  pub marked : IsTrue t.tells → (n : ℕ) → t.cache.marks n ≡ true → Has t.heap n
  pub cached : (c s m : ℕ) → t.cache.rows c s m ≡ true → t.cache.marks m ≡ true

-- a slot has this name
abbrev pub has_slot : (ℕ → Option ℕ) → ℕ → Bool
has_slot slots n = any_below SLOTS (λ i. is_pinned n (slots i))

-- what a row needs of a core
abbrev pub need_of : Heap → Row → Need
need_of h r = record { object = r.object; words = words_of_row h r; entries = entries_of_row h r }

-- the registers, of which the scratch ones hold 0
abbrev pub scratch_cleared : (ℕ → Value) → ℕ → Value
scratch_cleared regs r = if nat_le MACHINE_REGISTERS r && nat_lt r REGISTERS then Int (pos 0) else regs r

-- the names in registers and slots
abbrev pub is_root : Told → ℕ → Bool
is_root t n = any_below REGISTERS (λ r. is_ref n (t.regs r)) || has_slot t.slots n
