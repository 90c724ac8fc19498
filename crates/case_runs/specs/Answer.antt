-- When two answers are the same.
use Rattle.std.specs.Prelude.{◌≡◌, List, ℕ, Option, option_map}
use Rattle.std.specs.Global.{Vec}
use Rattle.case_runs.specs.declared.answer.Answer.{Answer}

-- the bytes of a file that may not be there
abbrev pub bytes_in : Option (Vec ℕ) → Option (List ℕ)
bytes_in file = option_map (λ v. v.items) file

-- the same status, and the same bytes put to each role
pub record Agrees (want got : Answer) : Type 0 where
  pub status : got.status ≡ want.status
  pub notes : got.notes.items ≡ want.notes.items
  pub transcript : got.transcript.items ≡ want.transcript.items
  pub saved : bytes_in got.saved ≡ bytes_in want.saved
  pub display : bytes_in got.display ≡ bytes_in want.display
