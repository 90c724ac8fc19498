-- How many bytes a memory holds of its own, field by field.
use Rattle.std.specs.Prelude.{ℕ, ◌+◌, ◌*◌, length}
use Rattle.long_names.specs.declared.limits.TheConstants.{LONGEST_RECORD}
use Rattle.loom_host.specs.declared.outside.Host.{Ghosts}
use Rattle.core_segment.specs.declared.segment.Segment.{Segment}
use Rattle.core_segment.specs.Segment.{size_of}
use Rattle.object_table.specs.declared.table.Table.{Table}
use Rattle.resident_table.specs.declared.resident.Resident.{Resident}
use Rattle.leaf_lambda.specs.declared.parts.Parts.{Parts}
use Rattle.loom_memory.specs.declared.memory.LoomMemory.{LoomMemory}

-- a word of the core
abbrev pub WORD : ℕ
WORD = 2

-- an entry of the table (40), its place among the free ones (2) and among the marked ones (2), and whether it is marked (1)
abbrev pub ENTRY : ℕ
ENTRY = 45

-- a slot by which an entry is found: a name and a short name
abbrev pub SLOT : ℕ
SLOT = 8

-- What doesn't grow with its sizes: the slots by which entries are found (there are at most 131,072 of them), two records, and 65,536 bytes for all
-- else, the rows of the method cache, the marks of the directory's blocks, the lists of free chunks and free blocks, and the registers among them.
abbrev pub CONSTANT : ℕ
CONSTANT = SLOT * 131072 + 2 * LONGEST_RECORD + 65536

-- the words of the core, those that were never written among them
abbrev pub held_by_segment : Segment → ℕ
held_by_segment g = WORD * size_of g

-- the entries that were ever in use, the places of the free ones and of the marked ones, and a mark for each
abbrev pub held_by_table : Table → ℕ
held_by_table t = 40 * length t.entries.items + 2 * length t.vacant.items + 2 * length t.noted.items + length t.listed.items

abbrev pub held_by_slots : Resident → ℕ
held_by_slots r = SLOT * length r.slots.items

-- the core: its words, its entries, and the slots by which these are found
abbrev pub held_by_core : Parts → ℕ
held_by_core p = held_by_segment p.segment + held_by_table p.names.table + held_by_slots p.names.resident

-- the memory: its core, the two buffers for records, and what is of one size in every memory
abbrev pub held_by : {H : Type 0} {host : Ghosts H} → LoomMemory H host → ℕ
held_by m = held_by_core m.pager.levels.parts + 2 * LONGEST_RECORD + 65536
