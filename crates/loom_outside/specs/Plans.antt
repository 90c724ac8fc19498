-- Which calls are to fail: a list of how many calls there are until each, itself counted; 0 for one that has come.
use Rattle.std.specs.Prelude.{ℕ, ◌-◌, List, map, Bool, ◌==◌}
use Rattle.std.specs.List.{list_any}

-- the next call is to fail
abbrev pub is_due : List ℕ → Bool
is_due plan = list_any (λ n. n == 1) plan

-- after a call
abbrev pub lowered : List ℕ → List ℕ
lowered plan = map (λ n. n - 1) plan
