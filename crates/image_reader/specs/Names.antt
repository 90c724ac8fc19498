-- Lists of names, and numbers beside them.
use Rattle.std.specs.Prelude.{ℕ, ◌<◌, ◌==◌, Bool, List, [], ◌∷◌, Option, Some, None, if◌then◌else◌}
use Rattle.std.specs.List.{AllPairs, list_any}

-- each name is above those before it
abbrev pub IsRising : List ℕ → Type 0
IsRising names = AllPairs (λ (x y : ℕ). x < y) names

-- a name is one of these
abbrev pub is_among : ℕ → List ℕ → Bool
is_among q names = list_any (λ n. n == q) names

-- the number beside a name, none where the name isn't there
abbrev pub number_beside : List ℕ → List ℕ → ℕ → Option ℕ
number_beside [] numbers q = None
number_beside (n ∷ ns) [] q = None
number_beside (n ∷ ns) (c ∷ cs) q = if n == q then Some c else number_beside ns cs q
