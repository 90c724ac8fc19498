-- What is said of a place of a source file: it begins with the file, the line and the column.
use Rattle.std.specs.Prelude.{◌≡◌, ℕ, List, [], ◌∷◌, ◌++◌, take, decimal}
use Rattle.st80_source.specs.Places.{column_behind, line_behind}

-- the name of the file, and behind a colon (58) each the line and the column, and a colon and a blank (32)
abbrev pub place_text : List ℕ → List ℕ → ℕ → List ℕ
place_text file text place = file ++ 58 ∷ (decimal (line_behind (take place text)) ++ 58 ∷ (decimal (column_behind (take place text)) ++ 58 ∷ 32 ∷ []))

-- a text begins with another one
pub record Begins (head : List ℕ) (whole : List ℕ) : Type 0 where
  pub rest : List ℕ
  pub is : whole ≡ head ++ rest
