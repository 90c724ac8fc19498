-- Valid images.
use Rattle.std.specs.Prelude.{◌≡◌, ℕ, true, List, Some}
use Rattle.long_names.specs.Names.{IsName, is_known}
use Rattle.long_names.specs.Objects.{IsObject, holds}
use Rattle.long_names.specs.Heap.{Heap, IsBounded, Has, object_count, count_of}
use Rattle.long_names.specs.declared.object.Object.{Object}
use Rattle.image_format.specs.Text.{IsHead, image_text}

-- a heap that an image may have
pub record IsImageHeap (h : Heap) : Type 0 where
  -- as many objects as a head may state, and its next name, which is above all names
  pub head : IsHead (object_count h) h.next
  pub bounded : IsBounded h
  -- objects have names, classes that are names, and bodies
  pub names : (n : ℕ) → Has h n → IsName n
  pub objects : (n : ℕ) (o : Object) → h.at n ≡ Some o → IsObject o
  -- each name that an object holds has an object
  pub closed : (n held : ℕ) (o : Object) → h.at n ≡ Some o → holds o held ≡ true → Has h held
  -- only a known object may be held by nothing
  pub counted : (n : ℕ) → Has h n → count_of h n ≡ 0 → is_known n ≡ true
  -- the known objects are there
  pub known : (n : ℕ) → is_known n ≡ true → Has h n

-- the text of such a heap
pub record IsValid (bytes : List ℕ) : Type 0 where
  pub heap : Heap
  pub is : IsImageHeap heap
  pub text : bytes ≡ image_text heap
