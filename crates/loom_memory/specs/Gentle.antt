-- How gently a step treats what it isn't about: the objects in the core, Work, and the method cache.
--
--     word         objects                Work        cache   fetches
--     IsSteady     stay, and none comes   untouched   same    same
--     IsPeek       stay, and none comes   read        same    same
--     IsGentle     stay                   read        same
--     IsResting    stay                   untouched           same
--     IsGlance     stay                   read                same
--     IsIdle                              untouched           same
--
--     IsSteady --+-- IsPeek ----+-- IsGentle
--                |              +-- IsGlance
--                +-- IsResting -+
--                               +-- IsIdle        to the right is what follows
--
-- `IsSpared` is `IsIdle`, and where Work is told the objects stay and the cache is the same: what `IsResting` gives with `KeepsCache`. Of what may have
-- gone, `IsCalm` says what registers and slots hold still in the core, and `IsQuiet` what is told still. What calls on objects promise by these words
-- stands in `Own.antt`, and what calls within the crate leave in `Effects.antt`.
use Rattle.std.specs.Prelude.{◌≡◌, ℕ, ◌≤◌, true, None, Some, IsTrue}
use Rattle.loom_host.specs.declared.outside.Host.{Ghosts}
use Rattle.loom_host.specs.declared.outside.Role.TheVariants.{Work}
use Rattle.loom_host.specs.Work.{IsWorkRead}
use Rattle.object_memory.specs.Told.{Told}
use Rattle.object_memory.specs.Contract.{LeavesCache, Raised, SameBounds, no_names}
use Rattle.object_table.specs.Entries.{place_of}
use Rattle.core_view.specs.Core.{Core}
use Rattle.core_view.specs.Counts.{outside}
use Rattle.core_view.specs.Room.{is_among}
use Rattle.purger.specs.Marks.{AreHere, LeavesMarks}
use Rattle.purger.specs.declared.room.Pinned.{Pinned}
use Rattle.loom_memory.specs.declared.memory.LoomMemory.{LoomMemory}
use Rattle.loom_memory.specs.Memory.{loom_told, loom_core, loom_now, loom_rest}
use Rattle.loom_memory.specs.Residents.{words_resident, fetched}

-- ---- the cases

-- an entry has a body, and its name
pub record IsStill (old new : Core) (s : ℕ) : Type 0 where
  pub at : ℕ
  pub place : place_of (new.entries s).state ≡ Some at
  pub name : (new.entries s).name ≡ (old.entries s).name

-- each entry that has a body still has one, under its name
abbrev pub Remains : Core → Core → Type 0
Remains old new = (s p : ℕ) → place_of (old.entries s).state ≡ Some p → IsStill old new s

-- The method cache is as it was.
abbrev pub KeepsCache : {H : Type 0} (host : Ghosts H) → LoomMemory H host → LoomMemory H host → Type 0
KeepsCache host old new = (loom_told host new).cache ≡ (loom_told host old).cache

-- Work isn't touched, and no object comes in
pub record IsIdle {H : Type 0} {ghosts : Ghosts H} (old new : LoomMemory H ghosts) : Type 0 where
  pub host : loom_now new ≡ loom_now old
  pub rest : loom_rest new ≡ loom_rest old
  pub fetches : fetched new ≡ fetched old

-- ---- how gently

-- no object left the core, Work was at most read, and the method cache is as it was
pub record IsGentle {H : Type 0} (host : Ghosts H) (old new : LoomMemory H host) : Type 0 where
  pub remains : Remains (loom_core old) (loom_core new)
  pub read : IsWorkRead host (loom_now old) (loom_now new)
  pub cache : (loom_told host new).cache ≡ (loom_told host old).cache

-- nothing but references changed: neither Work nor a body was touched
pub record IsSteady {H : Type 0} (host : Ghosts H) (old new : LoomMemory H host) : Type 0 where
  pub gentle : IsGentle host old new
  pub words : words_resident new ≡ words_resident old
  pub idle : IsIdle old new
  pub none : Remains (loom_core new) (loom_core old)

-- no object came or went, and Work wasn't touched
pub record IsResting {H : Type 0} {host : Ghosts H} (old new : LoomMemory H host) : Type 0 where
  pub remains : Remains (loom_core old) (loom_core new)
  pub idle : IsIdle old new

-- no object came or left, and Work was at most read
pub record IsPeek {H : Type 0} (host : Ghosts H) (old new : LoomMemory H host) : Type 0 where
  pub gentle : IsGentle host old new
  pub fetches : fetched new ≡ fetched old
  pub none : Remains (loom_core new) (loom_core old)

-- the same, whatever became of the method cache
pub record IsGlance {H : Type 0} (host : Ghosts H) (old new : LoomMemory H host) : Type 0 where
  pub remains : Remains (loom_core old) (loom_core new)
  pub read : IsWorkRead host (loom_now old) (loom_now new)
  pub fetches : fetched new ≡ fetched old

-- Work wasn't touched, and no object came in; where Work is told, no object left the core, and the method cache is as it was
pub record IsSpared {H : Type 0} (host : Ghosts H) (old new : LoomMemory H host) : Type 0 where
  pub idle : IsIdle old new
  pub remains : IsTrue (host.tells Work) → Remains (loom_core old) (loom_core new)
  pub cached : IsTrue (host.tells Work) → KeepsCache host old new

-- ---- what registers and slots hold

-- objects came and went, but what registers and slots hold is as it was
pub record IsCalm (pins : Pinned) (old new : Core) : Type 0 where
  pub bound : new.bound ≡ old.bound
  pub same_outside : (t : ℕ) → outside new t ≡ outside old t
  pub live : (t : ℕ) → 1 ≤ outside old t → (new.entries t).name ≡ (old.entries t).name
  pub pinned : (t p : ℕ) → is_among pins.a pins.b pins.d t ≡ true → place_of (old.entries t).state ≡ Some p → IsStill old new t
  pub marks : LeavesMarks old new
  pub here : AreHere old → AreHere new

-- nothing of what is told changed but how often calls failed, and that all marks and rows may be gone
pub record IsQuiet (old new : Told) : Type 0 where
  pub same : new ≡ (record old { bounds = new.bounds; cache = new.cache })
  pub cache : LeavesCache no_names None old.cache old.cache new.cache
  pub bounds : SameBounds old.bounds new.bounds
  pub counts : Raised 0 old.bounds new.bounds
