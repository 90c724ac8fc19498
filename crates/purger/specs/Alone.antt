-- The short words of an object that dies alone.
use Rattle.std.specs.Prelude.{◌≡◌, ◌≢◌, ℕ, List, Some, slice_get}
use Rattle.object_table.specs.Entries.{place_of}
use Rattle.core_view.specs.Core.{Core}
use Rattle.core_view.specs.Words.{pointers}

-- these are the words of the fields of the body of s
abbrev pub AreFields : Core → ℕ → List ℕ → Type 0
AreFields c s ws = (p : ℕ) → place_of (c.entries s).state ≡ Some p → ws ≡ pointers (c.entries s).kind (c.chunks p).words

-- none of them is a lambda
abbrev pub NoneIsZero : List ℕ → Type 0
NoneIsZero ws = (i w : ℕ) → slice_get ws i ≡ Some w → w ≢ 0
