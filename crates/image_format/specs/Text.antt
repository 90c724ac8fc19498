-- The text of a heap: the one image that it has, a function of the whole map.
use Rattle.std.specs.Prelude.{◌≡◌, ℕ, ◌%◌, ◌^◌, ◌<◌, ◌≤◌, zero, suc, List, [], ◌++◌, codes}
use Rattle.std.specs.Option.{option_map_or}
use Rattle.long_names.specs.Heap.{Heap, object_count, rec_of}
use Rattle.long_names.specs.Record.{four_bytes, record_text}
use Rattle.long_names.specs.declared.object.Object.{Object}
use Rattle.image_format.specs.declared.head.TheConstants.{VERSION, FEWEST_OBJECTS, MOST_OBJECTS, LOWEST_NEXT}

-- ---- the head

-- so many objects, and a next name of 32 bits that is even and above the known names
pub record IsHead (count next : ℕ) : Type 0 where
  pub enough : FEWEST_OBJECTS ≤ count
  pub few : count ≤ MOST_OBJECTS
  pub even : next % 2 ≡ 0
  pub low : LOWEST_NEXT ≤ next
  pub high : next < 2 ^ 32

-- LOOM, the version, the number of objects, and the next name
abbrev pub head_text : ℕ → ℕ → List ℕ
head_text count next = codes "LOOM" ++ (four_bytes VERSION ++ (four_bytes count ++ four_bytes next))

-- ---- the text

-- the records of the objects below a name, by rising name
abbrev pub records_below : Heap → ℕ → List ℕ
records_below h zero = []
records_below h (suc n) = records_below h n ++ option_map_or (λ (o : Object). record_text (rec_of h n o)) (h.at n) []

-- the head, and the records of all objects
unfoldable pub image_text : Heap → List ℕ
image_text h = head_text (object_count h) h.next ++ records_below h h.next
