-- What is dead, what of it may go, and what is left where nothing is dead.
use Rattle.std.specs.Prelude.{count_by, ◌==◌, ◌≡◌, ◌≢◌, ℕ, ◌<◌, ◌≤◌, ◌^◌, nat_lt, Bool, true, false, List, Option, Some, None}
use Rattle.long_names.specs.Names.{is_known}
use Rattle.long_names.specs.Heap.{Heap, Has, count_of}
use Rattle.object_table.specs.Entries.{is_used, place_of}
use Rattle.core_view.specs.Core.{Core}
use Rattle.core_view.specs.Counts.{outside}
use Rattle.core_view.specs.Levels.{Stored, Levels, record_in, heap_of}

-- how many references to a name are outside the bodies: in registers, in slots, and in what a call holds on its way
abbrev pub outside_by : Core → Option ℕ → ℕ
outside_by c None = 0
outside_by c (Some s) = outside c s

abbrev pub roots_of : Levels → ℕ → ℕ
roots_of t q = outside_by t.core (t.core.find q)

abbrev pub is_root : Levels → ℕ → Bool
is_root t q = nat_lt 0 (roots_of t q)

-- Nothing holds the object: no word, and no register or slot. And it isn't known.
pub record IsDead (t : Levels) (q : ℕ) : Type 0 where
  pub held : Has (heap_of t) q
  pub unknown : is_known q ≡ false
  pub uncounted : count_of (heap_of t) q ≡ 0
  pub free : roots_of t q ≡ 0

-- it has no body in core
abbrev pub bare_by : Core → Option ℕ → Type 0
bare_by c None = Unit {0}
bare_by c (Some s) = place_of (c.entries s).state ≡ None

abbrev pub IsBare : Levels → ℕ → Type 0
IsBare t q = bare_by t.core (t.core.find q)

-- no leaf is without references
abbrev pub NoneIdle : Core → Type 0
NoneIdle c = (s : ℕ) → is_used (c.entries s).state ≡ true → place_of (c.entries s).state ≡ None → (c.entries s).refs ≡ 0 → ⊥

abbrev pub NoneBareDead : Levels → Type 0
NoneBareDead t = (q : ℕ) → IsDead t q → IsBare t q → ⊥

abbrev pub NoneDead : Levels → Type 0
NoneDead t = (q : ℕ) → IsDead t q → ⊥

-- ---- what may go

-- dead, on disk, and without an entry
pub record IsLoose (t : Levels) (n : ℕ) (r : Stored) : Type 0 where
  pub dead : IsDead t n
  pub no_entry : t.core.find n ≡ None
  pub there : t.stored n ≡ Some r

-- and pending no more
pub record CanGo (t : Levels) (n : ℕ) (r : Stored) (pending : List ℕ) : Type 0 where
  pub loose : IsLoose t n r
  pub gone : count_by (λ x. x == n) pending ≡ 0
  pub others : (q : ℕ) → q ≢ n → count_by (λ x. x == q) pending ≡ count_by (λ x. x == q) t.pending

-- a name is on disk and not pending, and its count there is above 0
pub record HasCount (stored : ℕ → Option Stored) (pending : List ℕ) (n : ℕ) : Type 0 where
  pub record_is : Stored
  pub there : stored n ≡ Some record_is
  pub some : 0 < record_is.count
  pub few : record_is.count ≤ 2 ^ 62
  pub idle : count_by (λ x. x == n) pending ≡ 0

-- ---- the end

-- the disk has just the objects of a heap, with their exact counts
pub record IsImage (stored : ℕ → Option Stored) (h : Heap) : Type 0 where
  pub objects : (q : ℕ) → record_in (stored q) ≡ h.at q
  pub counts : (q : ℕ) (r : Stored) → stored q ≡ Some r → r.count ≡ count_of h q
