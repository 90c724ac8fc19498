-- Which declaration a name stands for: the innermost one that has it.
use Rattle.std.specs.Prelude.{◌≡◌, ◌≢◌, ℕ, ◌+◌, ◌<◌, nat_le, List, [], length, take, drop, slice_get, Some, if◌then◌else◌}
use Rattle.std.specs.Global.{Vec}
use Rattle.st80_syntax.specs.declared.token.Token.{Token}
use Rattle.st80_scope.specs.declared.lookup.Declared.{Declared}
use Rattle.st80_scope.specs.declared.lookup.Declared.TheVariants as declared

-- what a token spells in its text; nothing where it isn't in the text
abbrev pub spelled : List ℕ → Token → List ℕ
spelled text token = if nat_le (token.at + token.len) (length text) then take token.len (drop token.at text) else []

-- the name of a place among names
pub record HasName (names : List (Vec ℕ)) (name : List ℕ) (at : ℕ) : Type 0 where
  pub one : Vec ℕ
  pub there : slice_get names at ≡ Some one
  pub is : one.items ≡ name

-- the first of these names that is this one
pub record IsFirst (names : List (Vec ℕ)) (name : List ℕ) (at : ℕ) : Type 0 where
  pub has : HasName names name at
  pub first : (k : ℕ) → k < at → HasName names name k → ⊥

-- none of these names is this one. An empty name is none of any
abbrev pub IsAbsent : List (Vec ℕ) → List ℕ → Type 0
IsAbsent names name = name ≢ [] → (k : ℕ) → HasName names name k → ⊥

-- the innermost declaration of a name: a temporary, then a field of the class, then a variable that methods share
abbrev pub IsInnermost : List (Vec ℕ) → List (Vec ℕ) → List (Vec ℕ) → List ℕ → Declared → Type 0
IsInnermost temporaries fields shared name (declared.Temporary at) = IsFirst temporaries name at
IsInnermost temporaries fields shared name (declared.Field at) = IsAbsent temporaries name × IsFirst fields name at
IsInnermost temporaries fields shared name (declared.Shared at) = IsAbsent temporaries name × IsAbsent fields name × IsFirst shared name at
