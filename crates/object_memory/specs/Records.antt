-- Records of a heap.
use Rattle.std.specs.Prelude.{◌≡◌, ℕ, zero, suc, ◌%◌, ◌<◌, ◌==◌, ◌++◌, if◌then◌else◌, true, List, [], ◌∷◌, All, Option, Some, None}
use Rattle.std.specs.Option.{option_map_or}
use Rattle.long_names.specs.declared.object.Object.{Object}
use Rattle.long_names.specs.declared.object.Rec.{Rec}
use Rattle.long_names.specs.Names.{is_known}
use Rattle.long_names.specs.Objects.{IsBody, holds}
use Rattle.long_names.specs.Heap.{Heap, Has, count_of}

-- the object of a record
abbrev pub object_of_rec : Rec → Object
object_of_rec r = record { class = r.class; body = r.body }

-- the object of the record of a name
abbrev pub object_in : List Rec → ℕ → Option Object
object_in [] n = None
object_in (r ∷ rs) n = if r.name == n then Some (object_of_rec r) else object_in rs n

-- the heap of records
abbrev pub heap_of_recs : List Rec → ℕ → Heap
heap_of_recs recs next = record { at = object_in recs; next = next }

-- names rise, and are above one
abbrev pub Rise : ℕ → List Rec → Type 0
Rise low [] = Unit {0}
Rise low (r ∷ rs) = (low < r.name) × Rise r.name rs

-- records of a heap with this next name: by rising name, below the next name, which is even, with bodies that objects may have. The
-- known objects are there, and each object that one holds.
pub record AreWhole (recs : List Rec) (next : ℕ) : Type 0 where
  pub even : next % 2 ≡ 0
  pub rise : Rise 0 recs
  pub below : All (λ r. r.name < next) recs
  pub bodies : All (λ r. IsBody r.body) recs
  pub known : (n : ℕ) → is_known n ≡ true → Has (heap_of_recs recs next) n
  pub closed : (n : ℕ) (o : Object) (k : ℕ) → object_in recs n ≡ Some o → holds o k ≡ true → Has (heap_of_recs recs next) k

-- the record of an object, with the number of words of the heap that are its name
abbrev pub rec_of : Heap → ℕ → Object → Rec
rec_of h n o = record { name = n; class = o.class; count = count_of h n; body = o.body }

-- the records of the objects whose names are below n, by rising name
abbrev pub recs_below : Heap → ℕ → List Rec
recs_below h zero = []
recs_below h (suc n) = recs_below h n ++ option_map_or (λ (o : Object). rec_of h n o ∷ []) (h.at n) []

-- the records of a heap
unfoldable pub recs_of : Heap → List Rec
recs_of h = recs_below h h.next
