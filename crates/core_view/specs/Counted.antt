-- Exact counts of references, beside which words may be owed.
--
-- A word is owed where counts have it already, or still, and the heap doesn't: between the raise of a count and the store of the word,
-- and while what a freed object held is lowered. So each step of counts is one from what is owed to what is owed then:
--
--     a raise          owed -> v, owed               an object is made         its class and fields, owed -> owed
--     a word less      v, owed -> owed               an object is freed        nothing -> its class and fields
--     a store of w     w, owed -> v, owed            all else leaves what is owed
--
-- The states of an object, as its entry and its record have them, where its count stands, and the steps that lead from one to another:
--
--                  find_or_leaf              translate_in                stores
--     no entry  ------------------>  leaf  ------------------>  clean  ------------>  changed
--      on disk  <------------------        <------------------         <------------
--         |       give_up, count     |  |       drop_body          ^      set_written, with its record and count
--         |       above 0 or known   |  |  make_body               |
--   lower |                          |  '------------->  fresh  ---'      set_written, with its record and count 0
--    to 0 |   give_up, count 0       |
--         v <------------------------'
--      pending  --- drain_one --->  gone
--
-- With a record and an entry the count is that on disk and the change of the entry, which `lower` and `add_change` change and `fold` empties; a
-- fresh one has its change alone. `give_up` folds first. Pending is on disk with count 0, without an entry, and not known; nothing leads back from
-- there, since the name is in no word, and in no register or slot.
use Rattle.std.specs.Prelude.{◌==◌, ◌≡◌, ℕ, ◌+◌, ◌^◌, ◌<◌, ◌≤◌, pos, Bool, true, List, ◌∷◌, count_by, Some, if◌then◌else◌}
use Rattle.long_names.specs.declared.value.Value.{Value}
use Rattle.long_names.specs.declared.value.Value.TheVariants.{Ref}
use Rattle.long_names.specs.declared.object.Object.{Object}
use Rattle.long_names.specs.Names.{is_known, IsLongName}
use Rattle.long_names.specs.Objects.{is_ref, fields_of}
use Rattle.long_names.specs.Heap.{Heap, Has, count_of}
use Rattle.long_names.specs.Thin.{IsClosed}
use Rattle.core_view.specs.Kept.{IsCore, IsBacked, IsValued}
use Rattle.core_view.specs.Levels.{Stored, Levels, heap_of, records_of, sum_of, is_waiting}

-- how many of these words are this name
abbrev pub words : List Value → ℕ → ℕ
words vs q = count_by (is_ref q) vs

-- the words of an object that may be names: its class and its fields
abbrev pub words_of : Object → List Value
words_of o = Ref o.class ∷ fields_of o.body

abbrev pub one_if : Bool → ℕ
one_if b = if b then 1 else 0

-- Counts are exact, and what is dead on disk can be found.
pub record IsCounted (t : Levels) (owed : List Value) : Type 0 where
  -- the count of a held name is the number of class and field words that are this name
  pub exact : (q : ℕ) → Has (heap_of t) q → sum_of t q ≡ pos (count_of (heap_of t) q + words owed q)
  -- a name is pending, once, exactly where it waits
  pub waiting : (q : ℕ) → count_by (λ x. x == q) t.pending ≡ one_if (is_waiting t q)
  -- what has an entry is held, and so is what a word is owed of
  pub entered : (q s : ℕ) → t.core.find q ≡ Some s → Has (heap_of t) q
  pub named : (q : ℕ) → 0 < words owed q → Has (heap_of t) q

-- Counts fit their numbers, 64 bits on disk and 64 with a sign in an entry.
pub record IsSmall (t : Levels) (owed : List Value) : Type 0 where
  pub stored : (q : ℕ) (r : Stored) → t.stored q ≡ Some r → r.count ≤ 2 ^ 62
  pub counts : (q : ℕ) → count_of (heap_of t) q + words owed q ≤ 2 ^ 62

-- The known objects are there, names are names and below the next one, each name that a word holds has its object, and each field is a value.
pub record IsHeld (h : Heap) : Type 0 where
  pub known : (q : ℕ) → is_known q ≡ true → Has h q
  pub long : (q : ℕ) → Has h q → IsLongName q
  pub below : (q : ℕ) → Has h q → q < h.next
  pub closed : IsClosed h
  pub valued : IsValued h.at

-- A core and its disk are sound, but for the words that are owed.
pub record IsSound (t : Levels) (owed : List Value) : Type 0 where
  pub core : IsCore t.core
  pub backed : IsBacked t.core (records_of t)
  pub counted : IsCounted t owed
  pub small : IsSmall t owed
  pub heap : IsHeld (heap_of t)
