-- Blits over a memory: what they read and write, as rules of the model.
use Rattle.std.specs.Prelude.{◌≡◌, ℕ, ◌+◌, ◌-◌, ◌*◌, ◌≤◌, ◌&&◌, Bool, true, List, [], length, Option, Some, None, Ok, IsTrue, if◌then◌else◌}
use Rattle.std.specs.Option.{option_map_or}
use Rattle.long_names.specs.declared.value.Value.{Value}
use Rattle.long_names.specs.Objects.{words_of}
use Rattle.long_names.specs.Heap.{Heap}
use Rattle.long_names.specs.State.{part_at}
use Rattle.object_memory.specs.Told.{Told, IsReady}
use Rattle.object_memory.specs.Shape.{HasPartAt}
use Rattle.blue_model.specs.declared.cpu.Cpu.{Cpu}
use Rattle.contexts.specs.Serves.{Serves}
use Rattle.blue_model.specs.Machine.{Rule, ◌>>=◌, ◌>>◌, done, pick, look}
use Rattle.blue_model.specs.Storage.{is_same}
use Rattle.blue_model.specs.BitBlt.{put_words}
use Rattle.bitblt.specs.declared.transfer.Transfer.{Transfer}
use Rattle.bitblt.specs.Transfers.{AreDone, IsShared}

-- ---- where the bits are

abbrev pub DEST_BITS : ℕ
DEST_BITS = 13

abbrev pub SOURCE_BITS : ℕ
SOURCE_BITS = 14

-- the words of the object that a value names
abbrev pub words_at : Heap → Value → List ℕ
words_at h v = option_map_or (λ (words : List ℕ). words) (part_at h v words_of) []

abbrev pub dest_words : Told → List ℕ
dest_words m = words_at m.heap (m.regs DEST_BITS)

-- the source's words, if there is a source
abbrev pub source_words : Bool → Told → Option (List ℕ)
source_words has_source m = if has_source then Some (words_at m.heap (m.regs SOURCE_BITS)) else None

-- whether source and destination are one object
abbrev pub shares : Bool → Told → Bool
shares has_source m = has_source && is_same (m.regs DEST_BITS) (m.regs SOURCE_BITS)

-- both objects have the rows of the transfer
pub record HasRooms (t : Transfer) (m : Told) : Type 0 where
  pub dest : HasPartAt m DEST_BITS words_of (λ words. t.stride * t.bottom ≤ length words)
  pub source : t.has_source ≡ true → HasPartAt m SOURCE_BITS words_of (λ words. t.source_stride * (t.source_top + (t.bottom - t.top)) ≤ length words)

-- ---- rules

-- the source's bits are looked at, where there is a source
unfoldable pub look_at_source : Bool → Value → Rule (Unit {0})
look_at_source has_source source = pick has_source (look source >>= (λ o. done tt)) (done tt)

-- and the destination's become these words
unfoldable pub blit_words : Bool → Value → Value → List ℕ → Rule (Unit {0})
blit_words has_source source dest words = look_at_source has_source source >> put_words dest words

-- ---- what was written

-- The destination has these words, which the source has, too, where both are one object.
pub record IsWritten (t : Transfer) (old new : Told) (words : List ℕ) : Type 0 where
  pub regs : new.regs ≡ old.regs
  pub rooms : HasRooms t new
  pub dest : IsTrue old.tells → dest_words new ≡ words
  pub shared : IsTrue old.tells → IsShared (shares t.has_source old) (source_words t.has_source old) (dest_words old) (source_words t.has_source new) words

-- Some rows are done, between two calls: the destination's words were put, no register has changed, and where the heap is told, the
-- rows that are done are those after the call.
pub record IsPartly (t : Transfer) (halftone : List ℕ) (old now : Told) (done : ℕ → Bool) : Type 0 where
  pub regs : now.regs ≡ old.regs
  pub ready : IsReady now
  pub rooms : HasRooms t now
  pub serves : (cpu : Cpu) → Serves old cpu now cpu (put_words (old.regs DEST_BITS) (dest_words now)) (Ok tt)
  pub words : IsTrue old.tells → AreDone t (source_words t.has_source old) halftone (dest_words old) (dest_words now) done
  pub shared : IsTrue old.tells → IsShared (shares t.has_source old) (source_words t.has_source old) (dest_words old) (source_words t.has_source now) (dest_words now)
