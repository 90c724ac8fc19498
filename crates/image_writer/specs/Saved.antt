-- What is saved of a disk: the image of its heap, with the state of which it keeps what it holds.
use Rattle.std.specs.Prelude.{◌≡◌, ℕ, List, Option, Some, is_some, if◌then◌else◌}
use Rattle.long_names.specs.Heap.{Heap, Has, IsBounded, object_count, count_of}
use Rattle.long_names.specs.declared.object.Object.{Object}
use Rattle.loom_host.specs.declared.outside.Host.{Ghosts}
use Rattle.image_format.specs.declared.opening.TheConstants.{STATE_VERSION}
use Rattle.image_format.specs.declared.opening.State.{State}
use Rattle.image_format.specs.declared.opening.ImageHead.{ImageHead}
use Rattle.image_format.specs.Rules.{text_under}
use Rattle.disk_objects.specs.declared.rest.DiskRest.{DiskRest}
use Rattle.disk_objects.specs.Function.{disk_of, counts_of}

-- ---- the text

-- a word of the state, 0 where no object has this name
abbrev pub kept_word : (ℕ → Option Object) → ℕ → ℕ
kept_word at word = if is_some (at word) then word else 0

-- a tick goes with its timer
abbrev pub kept_state : (ℕ → Option Object) → State → State
kept_state at s = record {
  clock = s.clock;
  display = kept_word at s.display;
  input = kept_word at s.input;
  timer = kept_word at s.timer;
  tick = if is_some (at s.timer) then s.tick else 0;
}

abbrev pub saved_head : Heap → State → ImageHead
saved_head h s = record { opening = record { version = STATE_VERSION; objects = object_count h; next = h.next }; state = kept_state h.at s }

-- the image of version 2 of a heap
abbrev pub saved_text : Heap → State → List ℕ
saved_text h s = text_under (saved_head h s) h

-- ---- the heap of a disk

abbrev pub disk_heap : {H : Type 0} → Ghosts H → H → DiskRest → ℕ → Heap
disk_heap host now rest next = record { at = disk_of host now rest; next = next }

-- all names are below the next one, and each count on the disk is the number of words of its objects that are the name
pub record IsExact {H : Type 0} (host : Ghosts H) (now : H) (rest : DiskRest) (next : ℕ) : Type 0 where
  pub bounded : IsBounded (disk_heap host now rest next)
  pub counts : (n : ℕ) → Has (disk_heap host now rest next) n → counts_of host now rest n ≡ Some (count_of (disk_heap host now rest next) n)
