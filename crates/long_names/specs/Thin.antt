-- Thinning: what reference counting may leave of a heap.
use Rattle.std.specs.Prelude.{◌≡◌, ℕ, ◌<◌, Bool, true, false, List, [], ◌∷◌, All, Option, Some, None}
use Rattle.long_names.specs.declared.value.Value.{Value}
use Rattle.long_names.specs.declared.value.Value.TheVariants.{Ref}
use Rattle.long_names.specs.declared.object.Object.{Object}
use Rattle.long_names.specs.Names.{is_known}
use Rattle.long_names.specs.Objects.{holds}
use Rattle.long_names.specs.Heap.{Heap, Has, IsBounded}
use Rattle.long_names.specs.Kept.{holds_at}
use Rattle.long_names.specs.State.{State}
use Rattle.long_names.specs.Access.{Access, CanDo, object_of, other_object_of, brought, said_by, answer_of, after}
use Rattle.long_names.specs.Need.{row_of, other_row_of, heap_of_row, words_of_row, entries_of_row}

-- some name of the set has an object in h that holds n
pub record IsHeldFrom (h : Heap) (set : ℕ → Bool) (n : ℕ) : Type 0 where
  pub by : ℕ
  pub object : Object
  pub inside : set by ≡ true
  pub there : h.at by ≡ Some object
  pub holds_it : holds object n ≡ true

-- A set of objects of h that s lacks, each of which is held by one of the set. A cycle is such a set, and each such set has a cycle,
-- since a heap is finite.
pub record IsLostCycle (h s : Heap) (set : ℕ → Bool) : Type 0 where
  pub had : (n : ℕ) → set n ≡ true → Has h n
  pub lost : (n : ℕ) → set n ≡ true → s.at n ≡ None
  pub held : (n : ℕ) → set n ≡ true → IsHeldFrom h set n

-- s is h without some objects, which form no cycle
pub record IsThinner (h s : Heap) : Type 0 where
  pub next : s.next ≡ h.next
  pub same : (n : ℕ) (o : Object) → s.at n ≡ Some o → h.at n ≡ Some o
  pub acyclic : (set : ℕ → Bool) → IsLostCycle h s set → (n : ℕ) → set n ≡ false

-- from a name through those of a list to a name, each object holds the next name
abbrev pub IsPath : Heap → ℕ → List ℕ → ℕ → Type 0
IsPath h from [] to = holds_at h from to ≡ true
IsPath h from (n ∷ rest) to = (holds_at h from n ≡ true) × IsPath h n rest to

-- a cycle of lost objects as a list of their names: each object holds the next name, and the last the first
pub record IsLostRing (h s : Heap) (n : ℕ) (rest : List ℕ) : Type 0 where
  pub round : IsPath h n rest n
  pub lost : All (λ k. s.at k ≡ None) (n ∷ rest)

-- each name that a word of the heap holds has its object
abbrev pub IsClosed : Heap → Type 0
IsClosed h = (n : ℕ) (o : Object) (k : ℕ) → h.at n ≡ Some o → holds o k ≡ true → Has h k

-- Every name that a word, a register or a slot of it holds has its object, and so have the known objects. No object has a name at
-- the next name or above.
pub record IsWhole (h : Heap) (regs : ℕ → Value) (slots : ℕ → Option ℕ) : Type 0 where
  pub known : (n : ℕ) → is_known n ≡ true → Has h n
  pub below : (n : ℕ) → Has h n → n < h.next
  pub closed : IsClosed h
  pub rooted : (r n : ℕ) → regs r ≡ Ref n → Has h n
  pub pinned : (i n : ℕ) → slots i ≡ Some n → Has h n

-- s is a thinning of h with these registers and slots
pub record IsThinning (h s : Heap) (regs : ℕ → Value) (slots : ℕ → Option ℕ) : Type 0 where
  pub thinner : IsThinner h s
  pub whole : IsWhole s regs slots

-- thin is full over a thinning of its heap
pub record IsThinned (full thin : State) : Type 0 where
  pub thinning : IsThinning full.heap thin.heap thin.regs thin.slots
  pub bounded : IsBounded full.heap
  pub regs : thin.regs ≡ full.regs
  pub slots : thin.slots ≡ full.slots
  pub transcript : thin.transcript ≡ full.transcript

-- ---- an access to a heap and to a thinning of it

-- Full can do the access too, with the same row, need, answer, value brought and bytes said, and what is left of thin is full's over
-- a thinning again. A swap has two rows.
pub record Agrees (full thin : State) (a : Access) : Type 0 where
  pub can : CanDo full.heap full.regs a
  pub thinned : IsThinned (after full a) (after thin a)
  pub object : object_of full.heap full.regs a ≡ object_of thin.heap thin.regs a
  pub words : words_of_row (heap_of_row full a) (row_of full a) ≡ words_of_row (heap_of_row thin a) (row_of thin a)
  pub entries : entries_of_row (heap_of_row full a) (row_of full a) ≡ entries_of_row (heap_of_row thin a) (row_of thin a)
  pub other_object : other_object_of full.heap full.regs a ≡ other_object_of thin.heap thin.regs a
  pub other_words : words_of_row (heap_of_row full a) (other_row_of full a) ≡ words_of_row (heap_of_row thin a) (other_row_of thin a)
  pub other_entries : entries_of_row (heap_of_row full a) (other_row_of full a) ≡ entries_of_row (heap_of_row thin a) (other_row_of thin a)
  pub answer : answer_of full.heap full.regs a ≡ answer_of thin.heap thin.regs a
  pub value : brought full.heap full.regs a ≡ brought thin.heap thin.regs a
  pub bytes : said_by full.heap full.regs a ≡ said_by thin.heap thin.regs a
