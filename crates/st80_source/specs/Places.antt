-- The line and the column of the place behind a text.
use Rattle.std.specs.Prelude.{ℕ, ◌+◌, ◌==◌, List, fold, if◌then◌else◌}

-- one more behind each newline (10)
abbrev pub line_behind : List ℕ → ℕ
line_behind = fold (λ n b. if b == 10 then n + 1 else n) 1

-- 1 at the start and behind each newline, and one more behind each other byte
abbrev pub column_behind : List ℕ → ℕ
column_behind = fold (λ n b. if b == 10 then 1 else n + 1) 1
