-- What a memory that is one map tells.
use Rattle.std.specs.Prelude.{ℕ, pos, Some, None, true, false, [], Option, Result, slice_index_or}
use Rattle.std.specs.Ordering.{nat_cmp}
use Rattle.std.specs.BTreeMap.{get}
use Rattle.std.specs.BTreeSet.{contains}
use Rattle.long_names.specs.declared.value.Value.{Value}
use Rattle.long_names.specs.declared.value.Value.TheVariants.{Int, Ref}
use Rattle.long_names.specs.declared.object.Object.{Object}
use Rattle.long_names.specs.Counting.{counted}
use Rattle.long_names.specs.Heap.{Heap, add_object}
use Rattle.long_names.specs.State.{set_register}
use Rattle.object_memory.specs.Told.{Told, Cache}
use Rattle.object_memory.specs.Fit.{MayCall, StaysCallable}
use Rattle.object_memory.specs.declared.fault.MemFault.{MemFault}
use Rattle.object_memory.specs.declared.plain.objects.Objects.{Objects}
use Rattle.object_memory.specs.declared.plain.registers.Registers.{Registers}
use Rattle.object_memory.specs.declared.plain.slots.Slots.{Slots}
use Rattle.object_memory.specs.declared.plain.marks.Marks.{Marks}
use Rattle.object_memory.specs.declared.plain.PlainMemory.{PlainMemory}

-- the heap of a map
abbrev pub heap_of : Objects → Heap
heap_of m = record { at = λ n. get nat_cmp m.objects n; next = m.next }

-- the values in registers, by their numbers
abbrev pub values_of : Registers → ℕ → Value
values_of registers = λ r. slice_index_or registers.values r (Int (pos 0))

-- the names in slots
abbrev pub names_of : Slots → ℕ → Option ℕ
names_of slots = λ i. slice_index_or slots.names i None

-- a cache that keeps no rows
abbrev pub cache_of : Marks → Cache
cache_of marks = record { rows = λ c s m. false; marks = λ n. contains nat_cmp marks.names n; path = marks.path }

abbrev pub plain_told : PlainMemory → Told
plain_told m = record {
  tells = true;
  speaks = true;
  heap = heap_of m.objects;
  regs = values_of m.registers;
  slots = names_of m.slots;
  transcript = m.transcript;
  cache = cache_of m.marks;
  refusals = m.refusals;
  last = m.last;
  bounds = None;
}

-- what is told at the beginning, with this heap
abbrev pub fresh : Heap → Told
fresh h = record {
  tells = true;
  speaks = true;
  heap = h;
  regs = λ r. Int (pos 0);
  slots = λ i. None;
  transcript = [];
  cache = record { rows = λ c s m. false; marks = λ n. false; path = false };
  refusals = 0;
  last = None;
  bounds = None;
}

-- what is told after a refusal that leaves all else
abbrev pub refused : Told → MemFault → Told
refused t f = record t { refusals = counted t.refusals; last = Some f }

-- what is told after a making
abbrev pub made : Told → ℕ → Object → Told
made t to o = record t { heap = add_object t.heap o; regs = set_register t.regs to (Ref t.heap.next) }

-- it may be called: it keeps nothing of its own
abbrev pub IsPlainFit : PlainMemory → Type 0
IsPlainFit m = MayCall (λ (_ : PlainMemory). Unit {0}) plain_told m

-- it may be called again; it has no host
abbrev pub StaysPlainFit : {A : Type 0} → PlainMemory → PlainMemory → Result A MemFault → Type 0
StaysPlainFit old new answer = StaysCallable (λ (_ : PlainMemory). Unit {0}) plain_told (λ (_ : PlainMemory). 0) (λ (_ : PlainMemory). tt {0}) old new answer
