-- What a two-level memory promises of its core and of Work, beside what it tells: `IsSparing` of each access to an object that changes
-- nothing of it, `IsSparingChange` of a store and a mark, `IsSearched` and `IsSearchedChange` of a field that may have been left on the
-- disk, `IsSparingMaking` of a making, `IsPutAway` of a swap; `BringsOne` bounds what comes in, whatever is answered; why marks and rows go is
-- `MindsCache`; and `IsAmple` says when an access is answered.
use Rattle.std.specs.Prelude.{◌≡◌, ◌≢◌, ◌⊎◌, ◌+◌, ◌≤◌, ◌<◌, ℕ, true, false, Option, None, Some, Result, IsOk, OnOk, IfErr, IsTrue}
use Rattle.long_names.specs.declared.limits.TheConstants.{LAST_NAME, MAKINGS_BEFORE_FREEING}
use Rattle.long_names.specs.Counting.{counted, Rose}
use Rattle.long_names.specs.Heap.{Has}
use Rattle.long_names.specs.Need.{Fits, words_at}
use Rattle.long_names.specs.Objects.{Making, body_made, body_words}
use Rattle.long_names.specs.Access.{Access}
use Rattle.loom_host.specs.declared.outside.Host.{Ghosts}
use Rattle.loom_host.specs.declared.outside.Role.TheVariants.{Work}
use Rattle.loom_host.specs.Work.{IsWorkRead}
use Rattle.object_memory.specs.declared.fault.MemFault.{MemFault}
use Rattle.object_memory.specs.declared.fault.Need.{Need}
use Rattle.object_memory.specs.Told.{Told, Bounds}
use Rattle.object_memory.specs.Contract.{ForBounds, IsEmptied, IsNeedOf, Lives, makes, with_mark, work_faults, said_faults}
use Rattle.disk_objects.specs.Disk.{disk_room}
use Rattle.core_view.specs.Steps.{IsAt}
use Rattle.purger.specs.Purge.{HasRoom}
use Rattle.loom_memory.specs.declared.load.TheConstants.{SPARE_ENTRIES}
use Rattle.loom_memory.specs.declared.memory.LoomMemory.{LoomMemory}
use Rattle.loom_memory.specs.Memory.{loom_told, loom_core, loom_now, loom_parts, loom_rest}
use Rattle.loom_memory.specs.Gentle.{IsIdle, KeepsCache}
use Rattle.loom_memory.specs.Residents.{is_resident, words_resident, fetched}

-- The object of a name is in the core; or as many entries are free there as a call asks for, and the words that it takes.
abbrev pub HasPlace : {H : Type 0} (host : Ghosts H) → LoomMemory H host → ℕ → Type 0
HasPlace host m n = IsTrue (is_resident m n) ⊎ (IsTrue (host.tells Work) × HasRoom (loom_parts m) (words_at (loom_told host m).heap n) SPARE_ENTRIES)

-- each object in the core stays there
abbrev pub KeepsResidents : {H : Type 0} {host : Ghosts H} → LoomMemory H host → LoomMemory H host → Type 0
KeepsResidents old new = (k : ℕ) → IsTrue (is_resident old k) → IsTrue (is_resident new k)

-- An object came in: that of the name n.
abbrev pub IsBrought : {H : Type 0} {host : Ghosts H} → LoomMemory H host → LoomMemory H host → ℕ → ℕ → Type 0
IsBrought old new n k = (k ≡ n) × (fetched new ≡ counted (fetched old))

-- No mark and no row from before is left: an object that was marked isn't in the core any more, or is one that the call is about.
pub record IsSwept {H : Type 0} (host : Ghosts H) (marked : Option ℕ) (old new : LoomMemory H host) (about : ℕ → Type 0) : Type 0 where
  pub emptied : IsEmptied marked (loom_told host old).cache (loom_told host new).cache
  pub gone : (is_resident new emptied.taken ≡ false) ⊎ about emptied.taken

-- Marks and rows of the method cache go for no other cause. A call may be about some objects: that which it brings in, those that it stores
-- into. It may mark one.
pub record MindsCache {H : Type 0} (host : Ghosts H) (marked : Option ℕ) (old new : LoomMemory H host) (about : ℕ → Type 0) : Type 0 where
  -- Each marked object is in the core,
  pub here : (k : ℕ) → (loom_told host new).cache.marks k ≡ true → IsTrue (is_resident new k)
  -- and none came there but one that the call is about.
  pub others : (k : ℕ) → is_resident old k ≡ false → IsTrue (is_resident new k) → about k
  -- Marks and rows are as they were, with the new mark; or none from before is left.
  pub cache : ((loom_told host new).cache ≡ with_mark (loom_told host old).cache marked) ⊎ IsSwept host marked old new about

-- At most one object came in; and none, unless this is so.
abbrev pub BringsOne : {H : Type 0} {host : Ghosts H} → LoomMemory H host → LoomMemory H host → Type 0 → Type 0
BringsOne old new P = (fetched new ≡ fetched old) ⊎ (P × (fetched new ≡ counted (fetched old)))

-- The object of a name was reached.
pub record IsReached {H : Type 0} (host : Ghosts H) (old new : LoomMemory H host) (n : ℕ) : Type 0 where
  -- The object is in the core now.
  pub there : IsTrue (is_resident new n)
  -- Where it was there before, or there was room for it, no other object left the core,
  pub stays : HasPlace host old n → KeepsResidents old new
  -- and Work was at most read.
  pub read : HasPlace host old n → IsWorkRead host (loom_now old) (loom_now new)
  -- Where it was there before, Work wasn't touched, and nothing came in;
  pub idle : IsTrue (is_resident old n) → IsIdle old new
  -- where it wasn't, one object came in.
  pub comes : is_resident old n ≡ false → fetched new ≡ counted (fetched old)

-- Field i of the object of a name is in the core with it: the object is there, and the field isn't left on the disk.
pub record IsAtHand {H : Type 0} {host : Ghosts H} (m : LoomMemory H host) (n i : ℕ) : Type 0 where
  pub entry : ℕ
  pub at : ℕ
  pub word : ℕ
  pub found : (loom_core m).find n ≡ Some entry
  pub there : IsAt (loom_core m) entry at i word
  pub some : word ≢ 0

-- Where the object of a name is in the core, as many entries are free as a call asks for; where it isn't, also the words that it takes.
abbrev pub HasSpace : {H : Type 0} (host : Ghosts H) → LoomMemory H host → ℕ → Type 0
HasSpace host m n = (IsTrue (is_resident m n) × HasRoom (loom_parts m) 0 SPARE_ENTRIES) ⊎ (IsTrue (host.tells Work) × HasRoom (loom_parts m) (words_at (loom_told host m).heap n) SPARE_ENTRIES)

-- The object of a name was reached by an access to a field, which may have been left on the disk.
pub record IsSearched {H : Type 0} (host : Ghosts H) (old new : LoomMemory H host) (n : ℕ) : Type 0 where
  -- The object is in the core now.
  pub there : IsTrue (is_resident new n)
  -- Where there was room, no object left the core, the method cache is as it was, and Work was at most read.
  pub stays : HasSpace host old n → KeepsResidents old new
  pub cached : HasSpace host old n → (loom_told host new).cache ≡ (loom_told host old).cache
  pub read : HasSpace host old n → IsWorkRead host (loom_now old) (loom_now new)
  -- Where it wasn't there before, one object came in; where it was, and there was room, none.
  pub comes : is_resident old n ≡ false → fetched new ≡ counted (fetched old)
  pub none : IsTrue (is_resident old n) → HasRoom (loom_parts old) 0 SPARE_ENTRIES → fetched new ≡ fetched old
  -- Marks and rows go only where an object that was marked left the core, or was brought in again.
  pub minds : MindsCache host None old new (IsBrought old new n)

-- The object of a name was reached by a store into a field, which may have been left on the disk.
pub record IsSearchedChange {H : Type 0} (host : Ghosts H) (old new : LoomMemory H host) (n : ℕ) : Type 0 where
  -- The object is in the core now.
  pub there : IsTrue (is_resident new n)
  -- Where there was room, no object left the core, and Work was at most read.
  pub stays : HasSpace host old n → KeepsResidents old new
  pub read : HasSpace host old n → IsWorkRead host (loom_now old) (loom_now new)
  -- Where it wasn't there before, one object came in; where it was, and there was room, none.
  pub comes : is_resident old n ≡ false → fetched new ≡ counted (fetched old)
  pub none : IsTrue (is_resident old n) → HasRoom (loom_parts old) 0 SPARE_ENTRIES → fetched new ≡ fetched old

-- The object of a name was reached, and its bytes were said.
pub record IsHeard {H : Type 0} (host : Ghosts H) (old new : LoomMemory H host) (n : ℕ) : Type 0 where
  -- The object is in the core now.
  pub there : IsTrue (is_resident new n)
  -- Where it was there before, or there was room for it, no other object left the core, the method cache is as it was, and Work wasn't
  -- written.
  pub stays : HasPlace host old n → KeepsResidents old new
  pub cached : HasPlace host old n → (loom_told host new).cache ≡ (loom_told host old).cache
  pub work : HasPlace host old n → host.roles (loom_now new) Work ≡ host.roles (loom_now old) Work
  pub writes : HasPlace host old n → host.writes (loom_now new) ≡ host.writes (loom_now old)
  -- Where it was there before, nothing came in; where it wasn't, one object did.
  pub none : IsTrue (is_resident old n) → fetched new ≡ fetched old
  pub comes : is_resident old n ≡ false → fetched new ≡ counted (fetched old)
  -- Marks and rows go only where an object that was marked left the core.
  pub minds : MindsCache host None old new (IsBrought old new n)

-- A store into the object of a name, and a mark of it, spares the core and Work. Where the object was there before, and Work is told, it isn't refused.
pub record IsSparingChange {A H : Type 0} (host : Ghosts H) (old new : LoomMemory H host) (n : ℕ) (result : Result A MemFault) : Type 0 where
  pub reached : OnOk result (IsReached host old new n)
  pub sure : IfErr result (λ f. IsTrue (host.tells Work) → IsTrue (is_resident old n) → ⊥)

-- So does an access that changes nothing of it. What all objects in the core take is at most its words then; and where the object was there
-- before, or there was room for it, the method cache is as it was; else marks and rows go only where an object that was marked left the core.
pub record IsSparing {A H : Type 0} (host : Ghosts H) (old new : LoomMemory H host) (n : ℕ) (result : Result A MemFault) : Type 0 where
  pub reached : OnOk result (IsReached host old new n)
  pub sure : IfErr result (λ f. IsTrue (host.tells Work) → IsTrue (is_resident old n) → ⊥)
  pub bounded : OnOk result (ForBounds (loom_told host new).bounds (λ b. words_resident new ≤ b.core))
  pub cached : OnOk result (HasPlace host old n → (loom_told host new).cache ≡ (loom_told host old).cache)
  pub minds : OnOk result (MindsCache host None old new (IsBrought old new n))

-- The object of a name isn't marked: a store into it takes no mark and no row away.
abbrev pub IsUnmarked : {H : Type 0} (host : Ghosts H) → LoomMemory H host → ℕ → Type 0
IsUnmarked host m n = (loom_told host m).cache.marks n ≡ false

-- Two objects left the core, and no other did; none came in.
pub record IsPutAway {H : Type 0} {host : Ghosts H} (old new : LoomMemory H host) (a b : ℕ) : Type 0 where
  pub first : is_resident new a ≡ false
  pub second : is_resident new b ≡ false
  pub others : (k : ℕ) → k ≢ a → k ≢ b → IsTrue (is_resident old k) → IsTrue (is_resident new k)
  pub fetches : fetched new ≡ fetched old

-- A settling had nothing to do: it is answered, and nothing changed but that makings are counted anew.
pub record HasRested {H : Type 0} {host : Ghosts H} (old new : LoomMemory H host) (result : Result (Unit {0}) MemFault) : Type 0 where
  pub ok : IsOk result
  pub same : new ≡ (record old { ledger = record old.ledger { base = None; made = 0 } })

-- A making frees nothing dead: there is room on the disk for its object, or fewer were made since the last settling than that.
abbrev pub IsUndrained : {H : Type 0} {host : Ghosts H} → LoomMemory H host → Type 0
IsUndrained m = (m.ledger.held < disk_room (loom_rest m)) ⊎ (m.ledger.made < MAKINGS_BEFORE_FREEING)

-- And as many words are free as its object takes, and as many entries as a call asks for.
abbrev pub HasSpaceFor : {H : Type 0} {host : Ghosts H} → LoomMemory H host → Making → Type 0
HasSpaceFor m what = IsUndrained m × HasRoom (loom_parts m) (4 + body_words (body_made what)) SPARE_ENTRIES

-- A making has all that it asks for: Work is told, a name and room on the disk are left, and as many words are free as its object takes, and
-- as many entries as a call asks for.
pub record HasAllFor {H : Type 0} (host : Ghosts H) (m : LoomMemory H host) (what : Making) : Type 0 where
  pub told : IsTrue (host.tells Work)
  pub name : (loom_told host m).heap.next < LAST_NAME
  pub room : m.ledger.held < disk_room (loom_rest m)
  pub space : HasRoom (loom_parts m) (4 + body_words (body_made what)) SPARE_ENTRIES

-- An object was made. Where there was room for it, no object left the core, Work wasn't touched, and the method cache is as it was. Where
-- dead objects were freed first, and the core had room, each object that is still there stays in the core.
pub record IsSparingMaking {H : Type 0} (host : Ghosts H) (old new : LoomMemory H host) (what : Making) : Type 0 where
  pub stays : HasSpaceFor old what → KeepsResidents old new
  pub idle : HasSpaceFor old what → IsIdle old new
  pub cached : HasSpaceFor old what → KeepsCache host old new
  pub kept : IsTrue (host.tells Work) → HasRoom (loom_parts old) (4 + body_words (body_made what)) SPARE_ENTRIES → (k : ℕ) → IsTrue (is_resident old k) → Has (loom_told host new).heap k → IsTrue (is_resident new k)

-- A making came as far as to ask the core: there was a name for its object, and room on the disk.
pub record IsAskedLast {H : Type 0} (host : Ghosts H) (old new : LoomMemory H host) : Type 0 where
  pub name : IsTrue (host.tells Work) → (loom_told host old).heap.next < LAST_NAME
  pub room : new.ledger.held < disk_room (loom_rest new)

-- An access has all that it asks for: heap and bounds are told, its rows fit, there are room and a name for what it makes, and no call
-- on Work or Transcript failed.
pub record IsAmple (old new : Told) (a : Access) : Type 0 where
  pub told : IsTrue old.tells
  pub limits : Bounds
  pub bounds : old.bounds ≡ Some limits
  pub fits : (need : Need) → IsNeedOf old a need → Fits limits.core limits.entries need.words need.entries
  pub room : 1 ≤ makes a → (live : ℕ) → Lives old limits live → live ≤ limits.room
  pub name : 1 ≤ makes a → old.heap.next < LAST_NAME
  pub work : Rose (work_faults old.bounds) (work_faults new.bounds) → ⊥
  pub said : Rose (said_faults old.bounds) (said_faults new.bounds) → ⊥
