-- What a core has to hold for an access.
use Rattle.std.specs.Prelude.{ℕ, ◌+◌, ◌≤◌, ◌==◌, ◌||◌, Bool, false, if◌then◌else◌, length, Option, Some, None}
use Rattle.std.specs.Option.{option_map_or}
use Rattle.long_names.specs.declared.limits.TheConstants.{ENTRIES_OF_A_CALL}
use Rattle.long_names.specs.declared.value.Value.{Value}
use Rattle.long_names.specs.declared.value.Value.TheVariants.{Int, Ref}
use Rattle.long_names.specs.declared.object.Object.{Object}
use Rattle.long_names.specs.Objects.{body_words, fields_of, body_made}
use Rattle.long_names.specs.Heap.{Heap}
use Rattle.long_names.specs.State.{State}
use Rattle.long_names.specs.Access.{Access, Make, Mark, target_of, made_by, with_made, object_of, other_object_of}

-- an object, with the objects that are pinned at that moment
pub record Row : Type 0 where
  pub object : ℕ
  pub slots : ℕ → Option ℕ

-- a body takes 4 words more
abbrev pub words_at : Heap → ℕ → ℕ
words_at h n = option_map_or (λ (o : Object). 4 + body_words o.body) (h.at n) 0

-- two entries, and one for each field
abbrev pub entries_at : Heap → ℕ → ℕ
entries_at h n = option_map_or (λ (o : Object). 2 + length (fields_of o.body)) (h.at n) 0

-- the slot has this name
abbrev pub is_pinned : ℕ → Option ℕ → Bool
is_pinned n None = false
is_pinned n (Some k) = k == n

-- what a slot adds, unless its name was counted
abbrev pub added : (ℕ → ℕ) → (ℕ → Bool) → Option ℕ → ℕ
added size counted None = 0
added size counted (Some k) = if counted k then 0 else size k

-- the words of the distinct objects of a row
unfoldable pub words_of_row : Heap → Row → ℕ
words_of_row h r =
    words_at h r.object
    + added (words_at h) (λ k. k == r.object) (r.slots 0)
    + added (words_at h) (λ k. (k == r.object) || is_pinned k (r.slots 0)) (r.slots 1)
    + added (words_at h) (λ k. (k == r.object) || (is_pinned k (r.slots 0) || is_pinned k (r.slots 1))) (r.slots 2)

-- Entries: those of a call, and for each distinct pinned object 2 and its fields.
unfoldable pub entries_of_row : Heap → Row → ℕ
entries_of_row h r =
    ENTRIES_OF_A_CALL
    + added (entries_at h) (λ k. false) (r.slots 0)
    + added (entries_at h) (λ k. is_pinned k (r.slots 0)) (r.slots 1)
    + added (entries_at h) (λ k. is_pinned k (r.slots 0) || is_pinned k (r.slots 1)) (r.slots 2)

-- The row of an access: its object, with the names in the slots before it. A making has the object made.
abbrev pub row_of : State → Access → Row
row_of s a = record { object = object_of s.heap s.regs a; slots = s.slots }

-- Its other row, where it has two: that of the other object of a swap.
abbrev pub other_row_of : State → Access → Row
other_row_of s a = record { object = other_object_of s.heap s.regs a; slots = s.slots }

-- the heap that has the objects of the row: where an object is made, with this object
abbrev pub heap_of_row : State → Access → Heap
heap_of_row s a = with_made s.heap (made_by s.regs a)

-- so many words and entries have room in a core
pub record Fits (core entries needed taken : ℕ) : Type 0 where
  pub words : needed ≤ core
  pub leaves : taken ≤ entries

-- ---- the object alone

-- the words of the object that a value names
abbrev pub words_named : Heap → Value → ℕ
words_named h (Int z) = 0
words_named h (Ref n) = words_at h n

-- The words that an access needs for its own object, which has to be in the core. A name is made known or marked without its object,
-- two objects change places with none of them left there, and the class of a number is known.
abbrev pub words_alone : Heap → (ℕ → Value) → Access → ℕ
words_alone h regs (Make to class what) = 4 + body_words (body_made what)
words_alone h regs (Mark of) = 0
words_alone h regs a = option_map_or (λ of. words_named h (regs of)) (target_of a) 0
