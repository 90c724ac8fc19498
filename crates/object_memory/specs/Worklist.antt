-- Freeing what no word holds, by a list of names.
use Rattle.std.specs.Prelude.{◌≡◌, ℕ, ◌+◌, ◌≤◌, false, List, length, All}
use Rattle.std.specs.List.{Contains}
use Rattle.long_names.specs.Names.{is_known}
use Rattle.long_names.specs.Heap.{Heap, Has, count_of}
use Rattle.object_memory.specs.declared.plain.counts.Counts.{Counts}
use Rattle.object_memory.specs.Counts.{count_in}

-- no word holds the name, and it isn't known
abbrev pub IsDead : Counts → ℕ → Type 0
IsDead counts q = (count_in counts q ≡ 0) × (is_known q ≡ false)

-- if the name is dead, it is on the list
abbrev pub Lists : Counts → List ℕ → ℕ → Type 0
Lists counts dead q = IsDead counts q → Contains dead q

-- The counts are those of the words outside and of the heap, the names on the list are dead, and each dead name of an object is on it.
pub record IsFreeing (outside : ℕ → ℕ) (heap : Heap) (counts : Counts) (dead : List ℕ) : Type 0 where
  pub exact : (q : ℕ) → count_in counts q ≡ outside q + count_of heap q
  pub sound : All (IsDead counts) dead
  pub complete : (q : ℕ) → Has heap q → Lists counts dead q

-- Some words of each name were given up: its count fell by them. At most so many names joined the list. Where all names on it were
-- dead, all are, and it has each dead name that it had or that died.
pub record CountsDown (words : ℕ → ℕ) (most : ℕ) (old : Counts) (was : List ℕ) (new : Counts) (now : List ℕ) : Type 0 where
  pub fewer : (q : ℕ) → count_in new q + words q ≡ count_in old q
  pub sound : All (IsDead old) was → All (IsDead new) now
  pub complete : (q : ℕ) → Lists old was q → Lists new now q
  pub short : length now ≤ length was + most
