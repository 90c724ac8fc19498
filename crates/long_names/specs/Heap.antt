-- Heaps: finite maps from names to objects.
use Rattle.std.specs.Prelude.{◌≡◌, ℕ, zero, suc, ◌+◌, ◌≤◌, ◌==◌, Option, Some, None, is_some, if◌then◌else◌, true}
use Rattle.std.specs.Option.{option_map_or}
use Rattle.long_names.specs.Objects.{holdings}
use Rattle.long_names.specs.declared.object.Object.{Object}
use Rattle.long_names.specs.declared.object.Rec.{Rec}

-- what it has at a name, and a next name, above all that it has
pub record Heap : Type 0 where
  pub at : ℕ → Option Object
  pub next : ℕ

-- the next name is above all names, so the heap is finite
pub record IsBounded (h : Heap) : Type 0 where
  pub bounded : (n : ℕ) → h.next ≤ n → h.at n ≡ None

-- the heap has an object of this name
abbrev pub Has : Heap → ℕ → Type 0
Has h n = is_some (h.at n) ≡ true

-- with this object under a name
abbrev pub put_object : Heap → ℕ → Object → Heap
put_object h n o = record { at = λ q. if q == n then Some o else h.at q; next = h.next }

-- with the objects of two names in each other's place (swapPointersOf:and:), where it has both; one name twice changes nothing
abbrev pub swap_objects : Heap → ℕ → ℕ → Heap
swap_objects h n k = option_map_or (λ (o : Object). option_map_or (λ (p : Object). put_object (put_object h n p) k o) (h.at k) h) (h.at n) h

-- with a new object, at the next name
abbrev pub add_object : Heap → Object → Heap
add_object h o = record { at = λ q. if q == h.next then Some o else h.at q; next = h.next + 2 }

-- without the object of a name
abbrev pub without : Heap → ℕ → Heap
without h n = record { at = λ q. if q == n then None else h.at q; next = h.next }

-- how many objects have a name below n
abbrev pub objects_below : Heap → ℕ → ℕ
objects_below h zero = 0
objects_below h (suc n) = objects_below h n + (if is_some (h.at n) then 1 else 0)

-- how many objects it has
unfoldable pub object_count : Heap → ℕ
object_count h = objects_below h h.next

-- how many words of the objects below n are this name
abbrev pub holdings_below : Heap → ℕ → ℕ → ℕ
holdings_below h zero name = 0
holdings_below h (suc n) name = holdings_below h n name + option_map_or (λ (o : Object). holdings o name) (h.at n) 0

-- how many class words and field words of the heap are this name
unfoldable pub count_of : Heap → ℕ → ℕ
count_of h name = holdings_below h h.next name

-- the record of an object, with the number of words of the heap that are its name
abbrev pub rec_of : Heap → ℕ → Object → Rec
rec_of h n o = record { name = n; class = o.class; count = count_of h n; body = o.body }
