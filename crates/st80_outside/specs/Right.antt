-- Rows of words that `loom` finds right.
use Rattle.std.specs.Prelude.{List, codes, ℕ}
use Rattle.loom_words.specs.Kept.{IsGuard, IsResume}
use Rattle.loom_words.specs.Words.{ArePaths, IsMake, IsRow, MakeRow, Paths, Row}

-- these words are those of a run, of a guarded or a resumed one, of a making, a listing or an assembling
pub data IsRight (words : List (List ℕ)) : Type 0 where
  Runs : (row : Row) → IsRow words row → IsRight words
  Guards : (row : Row) (vault : List ℕ) → IsGuard words row vault → IsRight words
  Resumes : (row : Row) (vault : List ℕ) → IsResume words row vault → IsRight words
  Makes : (row : MakeRow) → IsMake words row → IsRight words
  Lists : (paths : Paths) → ArePaths (codes "list") words paths → IsRight words
  Assembles : (paths : Paths) → ArePaths (codes "asm") words paths → IsRight words
