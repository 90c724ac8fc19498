-- What an object says, a piece at a time.
use Rattle.std.specs.Prelude.{◌≡◌, ℕ, List, ◌++◌, take, None, Some, IsTrue}
use Rattle.long_names.specs.declared.object.Kind.TheVariants as kind
use Rattle.long_names.specs.Access.{Say, said_by}
use Rattle.object_memory.specs.Told.{Told}
use Rattle.object_memory.specs.Contract.{SameBounds, Raised, LeavesCache, no_names}
use Rattle.loom_host.specs.declared.outside.Host.{Ghosts}
use Rattle.loom_host.specs.declared.outside.Role.TheVariants.{Work}
use Rattle.object_table.specs.Entries.{place_of}
use Rattle.core_view.specs.Core.{Core}
use Rattle.core_view.specs.Words.{bytes_in}
use Rattle.loom_memory.specs.declared.memory.LoomMemory.{LoomMemory}
use Rattle.loom_memory.specs.Memory.{loom_told, loom_core, loom_now, loom_parts}

-- the first k bytes of the object of a register joined the transcript
pub record HasSaid (t u : Told) (of k : ℕ) : Type 0 where
  pub bytes : List ℕ
  pub joined : u.transcript ≡ t.transcript ++ bytes
  pub first : IsTrue t.tells → (all : List ℕ) → said_by t.heap t.regs (Say of) ≡ Some all → bytes ≡ take k all

-- and nothing else changed but counts of faults, and that all marks may be gone
pub record IsSaid (t u : Told) (of k : ℕ) : Type 0 where
  pub same : u ≡ (record t { transcript = u.transcript; bounds = u.bounds; cache = u.cache })
  pub cache : LeavesCache no_names None t.cache t.cache u.cache
  pub bounds : SameBounds t.bounds u.bounds
  pub counts : Raised 0 t.bounds u.bounds
  pub said : IsTrue t.speaks → HasSaid t u of k

-- a run of bytes joined the transcript
pub record IsPut (t u : Told) (run : List ℕ) : Type 0 where
  pub same : u ≡ (record t { transcript = u.transcript; bounds = u.bounds })
  pub bounds : SameBounds t.bounds u.bounds
  pub counts : Raised 0 t.bounds u.bounds
  pub joined : IsTrue t.speaks → u.transcript ≡ t.transcript ++ run

-- the bytes of the body of an entry
abbrev pub text_at : Core → ℕ → ℕ → List ℕ
text_at c s at = take (c.entries s).len (bytes_in (c.chunks at).words)

-- the object of a register is in the core, has bytes, and says them
pub record IsText {H : Type 0} (host : Ghosts H) (m : LoomMemory H host) (of s : ℕ) : Type 0 where
  pub at : ℕ
  pub place : place_of ((loom_core m).entries s).state ≡ Some at
  pub kind : ((loom_core m).entries s).kind ≡ kind.Bytes
  pub says : IsTrue (host.tells Work) → said_by (loom_told host m).heap (loom_told host m).regs (Say of) ≡ Some (text_at (loom_core m) s at)

-- nothing was done but with the transcript
pub record IsSpeech {H : Type 0} (host : Ghosts H) (old new : LoomMemory H host) : Type 0 where
  pub parts : loom_parts new ≡ loom_parts old
  pub ledger : new.ledger ≡ old.ledger
  pub due : new.due ≡ old.due
  pub thinned : new.thinned ≡ old.thinned
  pub work : host.roles (loom_now new) Work ≡ host.roles (loom_now old) Work
  pub writes : host.writes (loom_now new) ≡ host.writes (loom_now old)
