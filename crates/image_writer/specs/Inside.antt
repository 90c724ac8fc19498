-- What saving and its parts speak of.
use Rattle.std.specs.Prelude.{◌≡◌, ℕ, List, ◌++◌, Some, IsTrue, Result, OnOk}
use Rattle.long_names.specs.Heap.{Heap, Has, count_of}
use Rattle.loom_host.specs.declared.outside.Host.{Ghosts}
use Rattle.loom_host.specs.declared.outside.Role.TheVariants.{Work}
use Rattle.image_format.specs.declared.opening.TheConstants.{STATE_VERSION}
use Rattle.image_format.specs.declared.opening.Opening.{Opening}
use Rattle.disk_objects.specs.declared.rest.DiskRest.{DiskRest}
use Rattle.disk_objects.specs.Function.{disk_of, counts_of}
use Rattle.image_writer.specs.declared.fault.SaveFault.{SaveFault}
use Rattle.image_writer.specs.Puts.{Puts}

-- the disk holds the objects of a heap, with the heap's counts
pub record IsHeapOf {H : Type 0} (host : Ghosts H) (now : H) (rest : DiskRest) (h : Heap) : Type 0 where
  pub at : h.at ≡ disk_of host now rest
  pub counts : (n : ℕ) → Has h n → counts_of host now rest n ≡ Some (count_of h n)

-- the opening of version 2
abbrev pub opening_of : ℕ → ℕ → Opening
opening_of objects next = record { version = STATE_VERSION; objects = objects; next = next }

-- These bytes were gathered behind others: of all of them, the first were put to Saved, or after a refusal a prefix of these. What is left is gathered now.
pub record Gathers {H T : Type 0} (host : Ghosts H) (old new : H) (before after bytes : List ℕ) (result : Result T SaveFault) : Type 0 where
  pub done : List ℕ
  pub left : List ℕ
  pub all : IsTrue (host.tells Work) → before ++ bytes ≡ done ++ left
  pub after_is : OnOk result (left ≡ after)
  pub puts : Puts host old new done result
