-- How many words hold each of the names of an image's objects.
use Rattle.std.specs.Prelude.{◌≡◌, ◌↔◌, ℕ, ◌+◌, ◌<◌, ◌^◌, Bool, true, IsTrue, List, Option, Some, None, is_some, option_map, if◌then◌else◌}
use Rattle.long_names.specs.Objects.{holds, holdings}
use Rattle.long_names.specs.declared.object.Object.{Object}
use Rattle.image_reader.specs.Names.{is_among, number_beside}
use Rattle.image_reader.specs.declared.tally.Tally.{Tally}

-- the count of a name, none where it is no object's
unfoldable pub counted : Tally → ℕ → Option ℕ
counted t name = number_beside t.names t.counts.items name

-- these names, and nothing was counted yet
pub record IsFresh (names : List ℕ) (t : Tally) : Type 0 where
  pub zero : (q : ℕ) → counted t q ≡ (if is_among q names then Some 0 else None)

-- so many words more hold each name that is there
pub record Raises (by : ℕ → ℕ) (old new : Tally) : Type 0 where
  pub more : (q : ℕ) → counted new q ≡ option_map (λ c. c + by q) (counted old q)

-- so many words can be counted
pub record HasRoom (words : ℕ) (t : Tally) : Type 0 where
  pub room : (q c : ℕ) → counted t q ≡ Some c → c + words < 2 ^ 64

-- each name that the object holds is there
pub record IsCountable (t : Tally) (o : Object) : Type 0 where
  pub there : (q : ℕ) → holds o q ≡ true → is_some (counted t q) ≡ true

-- The words of an object were counted: true where each name that it holds is there.
abbrev pub Counts : Object → Tally → Tally → Bool → Type 0
Counts o old new closed = (IsTrue closed ↔ IsCountable old o) × (IsTrue closed → Raises (holdings o) old new)
