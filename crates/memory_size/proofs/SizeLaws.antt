-- What a memory's lists have at most.
use Rattle.std.proofs.Common.{arith, ◌≤◌, ◌+◌, ◌*◌, ◌≡◌, ℕ, length}
use Rattle.std.proofs.lemmas.List.Sums.{count_by-le-length}
use Rattle.long_names.specs.declared.limits.TheConstants.{LONGEST_RECORD}
use Rattle.object_table.specs.declared.table.Table.{Table}
use Rattle.object_table.specs.Entries.{is_free}
use Rattle.object_table.specs.Inside.{yes}
use Rattle.object_table.specs.Table.{entries_of}
use Rattle.core_segment.specs.Segment.{size_of}
use Rattle.leaf_lambda.specs.declared.parts.Parts.{Parts}
use Rattle.memory_size.specs.Held.{CONSTANT, ENTRY, WORD, held_by_core, held_by_table}

-- a table has no more entries than it was made with, and no list of places is longer
pub table-small : (t : Table) → held_by_table t ≤ ENTRY * entries_of t
unfolding entries_of
table-small t =
    let free = count_by-le-length is_free t.entries.items in
    let marked = count_by-le-length yes t.listed.items in
    let vacant = t.known.counted in
    let size = t.marks.size in
    let few = t.marks.few in
    let within = t.within in
    omega arith

pub core-small : (p : Parts) (words entries : ℕ) → size_of p.segment ≡ words → entries_of p.names.table ≡ entries
    → held_by_core p + 2 * LONGEST_RECORD + 65536 ≤ WORD * words + ENTRY * entries + CONSTANT
core-small p words entries size many =
    let table = table-small p.names.table in
    let slots = p.names.resident.small in
    omega arith
