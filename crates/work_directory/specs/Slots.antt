-- The slots of a directory, as bytes: a name of 4, four zeros, a count of 8 and a place of 8, each number highest byte first.
use Rattle.std.specs.Prelude.{◌≡◌, ℕ, ◌+◌, ◌*◌, ◌^◌, ◌/◌, ◌%◌, ◌<◌, ◌==◌, List, ◌++◌, drop, replicate, Option, None, Some, if◌then◌else◌}
use Rattle.byteorder.specs.Endian.{big_bytes, big_number}
use Rattle.loom_host.specs.Bytes.{window}
use Rattle.probing.specs.declared.TheConstants.{BLOCK_SLOTS}
use Rattle.work_directory.specs.declared.limits.TheConstants.{SLOT_BYTES, PAGE_BYTES}
use Rattle.work_directory.specs.declared.slot.Slot.{Slot}

-- an empty slot. No object has the name 0
abbrev pub no_slot : Slot
no_slot = record { name = 0; count = 0; place = 0 }

-- the bytes of a slot
abbrev pub spelling : Slot → List ℕ
spelling s = big_bytes 4 s.name ++ replicate 4 0 ++ big_bytes 8 s.count ++ big_bytes 8 s.place

-- the slot that bytes spell
abbrev pub slot_in : List ℕ → Slot
slot_in bytes = record { name = big_number 4 bytes; count = big_number 8 (drop 8 bytes); place = big_number 8 (drop 16 bytes) }

-- bytes spell a slot: the four bytes are zero, and its name is one of an object or 0
pub record IsSpelled (bytes : List ℕ) : Type 0 where
  pub zeros : big_number 4 (drop 4 bytes) ≡ 0
  pub even : big_number 4 bytes % 2 ≡ 0

-- where slot i begins: each block of slots has a page
abbrev pub slot_place : ℕ → ℕ
slot_place i = PAGE_BYTES * (i / BLOCK_SLOTS) + SLOT_BYTES * (i % BLOCK_SLOTS)

-- the place behind the pages of n slots
abbrev pub slots_end : ℕ → ℕ
slots_end n = PAGE_BYTES * (n / BLOCK_SLOTS + 1)

-- one of n slots begins at this place
pub record IsSlotOf (n place : ℕ) : Type 0 where
  pub at : ℕ
  pub within : at < n
  pub place_is : place ≡ slot_place at

-- the bytes of slot i
abbrev pub bytes_of : List ℕ → ℕ → List ℕ
bytes_of work i = window work (slot_place i) SLOT_BYTES

-- slot i of Work
unfoldable pub slot_at : List ℕ → ℕ → Slot
slot_at work i = slot_in (bytes_of work i)

-- a slot, where it isn't empty
abbrev pub used_slot : Slot → Option Slot
used_slot s = if s.name == 0 then None else Some s

-- each of the first n slots is spelled
unfoldable pub AreSpelled : List ℕ → ℕ → Type 0
AreSpelled work n = (i : ℕ) → i < n → IsSpelled (bytes_of work i)

-- the numbers of a slot fit their bytes
pub record FitsBytes (s : Slot) : Type 0 where
  pub name : s.name < 256 ^ 4
  pub count : s.count < 256 ^ 8
  pub place : s.place < 256 ^ 8
