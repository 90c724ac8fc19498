-- All fields of the structs that a memory is made of. One that comes later is missed here.
use Rattle.std.specs.Prelude.{◌≡◌}
use Rattle.loom_host.specs.declared.outside.Host.{Ghosts}
use Rattle.core_segment.specs.declared.segment.Segment.{Segment}
use Rattle.object_table.specs.declared.table.Table.{Table}
use Rattle.resident_table.specs.declared.resident.Resident.{Resident}
use Rattle.leaf_lambda.specs.declared.parts.Parts.{Parts}
use Rattle.disk_objects.specs.declared.rest.DiskRest.{DiskRest}
use Rattle.loom_memory.specs.declared.memory.LoomMemory.{LoomMemory}

-- the memory, its pager, the two levels, and the disk's
pub record IsAllOf {H : Type 0} {host : Ghosts H} (m : LoomMemory H host) : Type 0 where
  pub memory : m ≡ record { pager = m.pager; buf = m.buf; regs = m.regs; due = m.due; thinned = m.thinned; ledger = m.ledger }
  pub pager : m.pager ≡ record { levels = m.pager.levels; out = m.pager.out; pinned = m.pager.pinned; hand = m.pager.hand }
  pub levels : m.pager.levels ≡ record { disk = m.pager.levels.disk; parts = m.pager.levels.parts; whole = m.pager.levels.whole }
  pub disk : m.pager.levels.disk ≡ record { host = m.pager.levels.disk.host; rest = m.pager.levels.disk.rest }
  pub ledger : m.ledger ≡ record { core = m.ledger.core; entries = m.ledger.entries; next = m.ledger.next; base = m.ledger.base; made = m.ledger.made; held = m.ledger.held; fetches = m.ledger.fetches; refusals = m.ledger.refusals; last = m.ledger.last; rows = m.ledger.rows; begun = m.ledger.begun; mark = m.ledger.mark }

-- the core: its segment, its table, and its slots
pub record IsAllOfCore (p : Parts) : Type 0 where
  pub parts : p ≡ record { segment = p.segment; names = record { table = p.names.table; resident = p.names.resident } }
  pub segment : p.segment ≡ record { region = p.segment.region; lists = p.segment.lists; free = p.segment.free; reached = p.segment.reached; small = p.segment.small; whole = p.segment.whole; filled = p.segment.filled; going = p.segment.going }
  pub table : p.names.table ≡ record { size = p.names.table.size; entries = p.names.table.entries; vacant = p.names.table.vacant; free = p.names.table.free; noted = p.names.table.noted; listed = p.names.table.listed; small = p.names.table.small; within = p.names.table.within; known = p.names.table.known; counted = p.names.table.counted; marks = p.names.table.marks; rooms = p.names.table.rooms }
  pub slots : p.names.resident ≡ record { slots = p.names.resident.slots; held = p.names.resident.held; room = p.names.resident.room; size = p.names.resident.size; small = p.names.resident.small; few = p.names.resident.few; table = p.names.resident.table }

-- what is known of the disk: its directory, the space of its records, and the first dead object
pub record IsAllOfDisk (d : DiskRest) : Type 0 where
  pub disk : d ≡ record { directory = d.directory; space = d.space; first = d.first }
  pub directory : d.directory ≡ record { room = d.directory.room; held = d.directory.held; written = d.directory.written; some = d.directory.some; most = d.directory.most; fits = d.directory.fits }
  pub space : d.space ≡ record { from = d.space.from; end = d.space.end; heads = d.space.heads }
