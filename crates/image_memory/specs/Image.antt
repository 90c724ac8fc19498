-- An image on a disk, a memory that begins over it, and what is left there at its end.
use Rattle.std.specs.Prelude.{◌≡◌, ℕ, ◌%◌, pos, Bool, false, List, [], Some, None, IsTrue}
use Rattle.long_names.specs.declared.value.Value.TheVariants.{Int}
use Rattle.long_names.specs.Heap.{Heap, IsBounded, object_count}
use Rattle.long_names.specs.Kept.{kept}
use Rattle.loom_host.specs.declared.outside.Host.{Ghosts}
use Rattle.loom_host.specs.declared.outside.Role.TheVariants.{Work}
use Rattle.loom_host.specs.Work.{work_of}
use Rattle.image_format.specs.declared.opening.State.{State}
use Rattle.image_format.specs.declared.opening.ImageHead.{ImageHead}
use Rattle.image_format.specs.Rules.{IsHeadOf, IsStateWord, text_under}
use Rattle.disk_objects.specs.declared.rest.DiskRest.{DiskRest}
use Rattle.disk_objects.specs.Disk.{Objects, IsDisk}
use Rattle.image_reader.specs.declared.loading.Loaded.{Loaded}
use Rattle.image_reader.specs.Loaded.{IsLoadedHeap, heap_on}
use Rattle.object_memory.specs.Contract.{ForBounds}
use Rattle.object_memory.specs.Told.{Told}
use Rattle.purger.specs.Closing.{HasKept}

-- ---- an image that was loaded

-- Each word of the state is 0, or names an object of the heap, and without a timer there is no tick.
pub record IsStateOf (h : Heap) (s : State) : Type 0 where
  pub display : IsStateWord h s.display
  pub input : IsStateWord h s.input
  pub timer : IsStateWord h s.timer
  pub tick : s.timer ≡ 0 → s.tick ≡ 0

-- The bytes are the text of this heap, under a head with this state.
pub record IsTextOf (bytes : List ℕ) (h : Heap) (s : State) : Type 0 where
  pub head : ImageHead
  pub of_heap : IsHeadOf h head
  pub state : head.state ≡ s
  pub text : bytes ≡ text_under head h

-- A disk has the image that was loaded: the next name is even, and where the host tells Work, the disk has just the objects of an image's
-- heap with their exact counts, none is pending, and the state is one of that heap.
pub record HasImage {H : Type 0} (host : Ghosts H) (now : H) (rest : DiskRest) (x : Loaded) : Type 0 where
  pub even : x.next % 2 ≡ 0
  pub heap : IsTrue (host.tells Work) → IsLoadedHeap host now rest x.next
  pub idle : IsTrue (host.tells Work) → (objects : Objects) × IsDisk rest (work_of host now) objects []
  pub state : IsTrue (host.tells Work) → IsStateOf (heap_on host now rest x.next) x.state

-- ---- a memory begins

-- A memory with which nothing was done yet, of this heap: registers have 0, slots are empty, no row is cached, and nothing was made. It says
-- that as many objects live as the heap has, and all of them are kept, whatever the roots are.
pub record BeginsWith (h : Heap) (t : Told) : Type 0 where
  pub heap : t.heap ≡ h
  pub regs : (r : ℕ) → t.regs r ≡ Int (pos 0)
  pub slots : (i : ℕ) → t.slots i ≡ None
  pub rows : (class selector method : ℕ) → t.cache.rows class selector method ≡ false
  pub base : ForBounds t.bounds (λ b. (b.made ≡ 0) × (b.base ≡ Some (object_count h)))
  pub lives : (root : ℕ → Bool) → kept h root ≡ h

-- ---- a memory has ended

-- The memory of a heap has ended over a disk: that has just the objects that are kept with no roots, with their exact counts, none is
-- pending, and this is the next name.
pub record HasEnded {H : Type 0} (host : Ghosts H) (now : H) (rest : DiskRest) (next : ℕ) (h : Heap) : Type 0 where
  pub left : HasKept host now rest h
  pub bounded : IsBounded h
  pub named : h.next ≡ next
