-- A disk that a memory begins over, and what is told first.
use Rattle.std.specs.Prelude.{◌≡◌, ℕ, pos, true, false, [], Option, None, Some, IsTrue}
use Rattle.long_names.specs.declared.value.Value.TheVariants.{Int}
use Rattle.long_names.specs.Names.{is_known}
use Rattle.long_names.specs.Heap.{Heap}
use Rattle.loom_host.specs.declared.outside.Host.{Ghosts}
use Rattle.loom_host.specs.declared.outside.Role.TheVariants.{Work}
use Rattle.object_table.specs.Entries.{is_used}
use Rattle.object_table.specs.Table.{entries_of}
use Rattle.core_segment.specs.Segment.{size_of}
use Rattle.disk_objects.specs.declared.rest.DiskRest.{DiskRest}
use Rattle.core_view.specs.Counts.{outside}
use Rattle.core_view.specs.Held.{Disk}
use Rattle.core_view.specs.Kept.{IsBacked, IsTight}
use Rattle.leaf_lambda.specs.declared.parts.Parts.{Parts}
use Rattle.leaf_lambda.specs.Parts.{core_of, IsParts}
use Rattle.core_view.specs.Levels.{Stored}
use Rattle.core_view.specs.Counted.{IsHeld}
use Rattle.core_view.specs.Dead.{IsImage}
use Rattle.delta_counts.specs.At.{IsStoredAt}
use Rattle.object_memory.specs.Told.{Told}
use Rattle.loom_memory.specs.declared.beginning.CoreTables.{CoreTables}

-- A disk has just the objects of a heap with their exact counts, none is pending, and only known objects have count 0.
pub record IsLoaded {H : Type 0} (host : Ghosts H) (now : H) (rest : DiskRest) (h : Heap) : Type 0 where
  pub stored : ℕ → Option Stored
  pub at : IsStoredAt host now rest stored []
  pub image : IsImage stored h
  pub uncounted : (q : ℕ) (r : Stored) → stored q ≡ Some r → r.count ≡ 0 → is_known q ≡ true
  pub held : IsHeld h

-- where the host tells Work, it has those of a heap with this next name
abbrev pub HasLoaded : {H : Type 0} → Ghosts H → H → DiskRest → ℕ → Type 0
HasLoaded host now rest next = IsTrue (host.tells Work) → (h : Heap) × IsLoaded host now rest h × (h.next ≡ next)

-- a core of so many words and entries, none of which is in use
pub record IsEmptyCore (p : Parts) (core entries : ℕ) : Type 0 where
  pub parts : IsParts p
  pub tight : IsTight (core_of p)
  pub size : size_of p.segment ≡ core
  pub entries_are : entries_of p.names.table ≡ entries
  pub unused : (s : ℕ) → is_used ((core_of p).entries s).state ≡ false
  pub outside_none : (t : ℕ) → outside (core_of p) t ≡ 0
  pub backed : (disk : Disk) → IsBacked (core_of p) disk

-- tables that were made for it
abbrev pub HasEmptyCore : CoreTables → ℕ → ℕ → Type 0
HasEmptyCore t core entries = IsEmptyCore t.parts core entries

-- what is told first: registers have 0, slots are empty, nothing is cached, nothing was made or refused
pub record IsFirst (t : Told) (core entries room base work_faults said_faults : ℕ) : Type 0 where
  pub regs : (r : ℕ) → t.regs r ≡ Int (pos 0)
  pub slots : (i : ℕ) → t.slots i ≡ None
  pub rows : (c s m : ℕ) → t.cache.rows c s m ≡ false
  pub marks : (n : ℕ) → t.cache.marks n ≡ false
  pub path : t.cache.path ≡ false
  pub refusals : t.refusals ≡ 0
  pub last : t.last ≡ None
  pub bounds : t.bounds ≡ Some (record { core = core; entries = entries; room = room; base = Some base; made = 0; work_faults = work_faults; said_faults = said_faults })
